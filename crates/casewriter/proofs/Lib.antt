-- The laws that the proofs of crate casewriter share, and its theorems (K2).
pub mod Listed
pub mod Sizes
pub mod Stored
pub mod Table
pub mod Lies
pub mod Named
pub mod Accepted
pub mod Written
pub mod Back
pub mod Again
pub mod Room
