-- What the contracts and claims of crate layout cite (Case file, the program's output).
pub mod Text
pub mod Accounts
pub mod Parts
