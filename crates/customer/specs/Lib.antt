-- What the contracts and claims of crate customer cite (Customer value and daily amount).
pub mod Customer
