-- The laws that the proofs of crate layout share, and its theorems (Case file).
pub mod Decimal
pub mod ReadBack
pub mod Laid
pub mod Sums
pub mod Cut
pub mod Full
pub mod Texts
pub mod Fits
