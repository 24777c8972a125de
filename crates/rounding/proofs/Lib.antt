-- The laws that the proofs of crate rounding share, and its theorems (the paper's first paragraph).
pub mod Laws
pub mod Parts
pub mod Integers
