-- What the contracts and claims of crate page cite (K4).
pub mod Page
pub mod Call
pub mod Progress
pub mod Claims
