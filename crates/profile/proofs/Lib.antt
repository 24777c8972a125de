-- The laws that the proofs of crate profile share (Profile value): integers, the ratio and its powers, the range, the tested table, the bounds, and that the shares enclose.
pub mod Integer
pub mod Power
pub mod Range
pub mod Tested
pub mod Bounds
pub mod Enclosed
