-- The laws that the proofs of crate residual share, and its theorems (K5).
pub mod Sums
pub mod Running
pub mod Totals
pub mod Table
pub mod Filling
pub mod AddUp
pub mod Near
