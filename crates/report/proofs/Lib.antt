-- The laws that the proofs of crate report share, and its theorems (Case file).
mod Taken
pub mod Fits
pub mod Printed
pub mod Calls
