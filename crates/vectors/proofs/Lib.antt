-- The theorems of crate vectors (Starred cases): the starred cases, and the value near 1.
pub mod Starred
pub mod Near
