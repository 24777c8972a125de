-- What the contracts and claims of crate account cite (Account and its calls, If a call declines).
pub mod Stands
pub mod Account
pub mod Refusals
pub mod Calls
pub mod Slices
