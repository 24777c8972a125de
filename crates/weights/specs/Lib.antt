-- What the contracts and claims of crate weights cite (Temperature of a day, If a call declines, K1).
pub mod Means
pub mod Temperature
pub mod Calendar
pub mod Weights
pub mod Choose
