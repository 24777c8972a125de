-- What the contracts and claims of crate power cite (Profile value).
pub mod Power
