-- Promised: public contracts name this.
pub mod Numbers
