-- The laws that the proofs of crate page share, and its theorems (K4).
pub mod Sizes
mod Cut
mod Columns
mod Stored
mod Table
pub mod Fields
pub mod Places
pub mod Given
pub mod Shape
pub mod Shown
pub mod Fixed
