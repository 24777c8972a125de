-- What every layer cites: the form of the table (If a call declines), lists, and questions about the numbers below one (Account and its calls).
pub mod Rows
pub mod Refusals
pub mod Placed
pub mod Lists
pub mod Below
