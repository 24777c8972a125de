-- The laws that the proofs of crate weights share, and its theorems (Temperature of a day, K1).
pub mod Half
pub mod Range
pub mod Series
pub mod Calendar
pub mod Span
pub mod Table
