-- What the contracts and claims of crate casefile cite (Case file, If a call declines).
pub mod Bytes
pub mod Case
pub mod Faults
pub mod Reader
pub mod Sections
pub mod Agrees
pub mod Length
