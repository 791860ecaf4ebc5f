-- Bookkeeping: private calls and proofs alone name these.
pub mod RatesFile
