-- What crate interface claims of the calls for C and Rust (demand 3).
pub mod Named
