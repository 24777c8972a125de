-- The laws that the proofs of crate history share, and its theorems (demand 3).
pub mod Invariant
pub mod EveryList
pub mod Opens
pub mod Theorem
pub mod Ties
pub mod Meaning
