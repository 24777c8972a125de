-- What the contracts and claims of crate statement cite (Account and its calls, "Statement").
pub mod Split
pub mod Parts
pub mod Shares
pub mod Facts
pub mod Call
pub mod Progress
