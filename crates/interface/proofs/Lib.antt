-- The theorem of crate interface (demand 3).
pub mod Names
