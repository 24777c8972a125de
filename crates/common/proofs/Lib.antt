-- The laws of what every layer cites (If a call declines, Account and its calls).
pub mod Rows
pub mod Lists
pub mod Below
pub mod Chains
pub mod Cleared
pub mod Filled
