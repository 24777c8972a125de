-- What the claims of crate vectors cite (Starred cases).
pub mod Starred
pub mod Near
