-- What the contracts and claims of crate casewriter cite (K2, Case file, If a call declines).
pub mod Bytes
pub mod File
pub mod Writer
pub mod Sections
pub mod RoundTrip
