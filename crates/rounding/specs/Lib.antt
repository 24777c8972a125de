-- What the contracts and claims of crate rounding cite (the paper's first paragraph).
pub mod Nearest
pub mod Integers
