mod Blank
mod ByLedger
mod Fitting
mod Joined
mod OfCells
mod Printing
