-- What the claims of crate history cite (demand 3; Account and its calls).
pub mod History
pub mod Run
pub mod Demand3
pub mod Tied
pub mod Meaning
