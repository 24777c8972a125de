-- The laws that the proofs of crate account share, and its theorems (Account and its calls).
pub mod Order
pub mod Sound
pub mod Pass
pub mod LastLessFirst
pub mod Rows
pub mod With
pub mod Disagrees
pub mod Stores
pub mod Shows
pub mod Pairs
pub mod Readings
pub mod Keeps
