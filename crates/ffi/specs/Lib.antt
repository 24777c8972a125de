-- What the calls for C and Rust promise (If a call declines): the rules of the crates below, with each answer as the paper's number, its place and its values.
pub mod Calls
