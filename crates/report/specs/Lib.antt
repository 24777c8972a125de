-- What the contracts and claims of crate report cite (Case file, the program).
pub mod Report
pub mod Calls
