-- What the contracts and claims of crate residual cite (K5).
pub mod Spread
pub mod Call
pub mod Progress
pub mod Claims
