-- What the contracts and claims of crate profile cite (Profiles, Profile value, If a call declines).
pub mod Limits
pub mod Coefficients
pub mod Value
pub mod Weight
pub mod Answers
pub mod Steps
