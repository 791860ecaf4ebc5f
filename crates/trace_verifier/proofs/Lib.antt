mod Blank
mod ByLedger
mod Counted
mod Fitting
mod Kept
mod Listed
