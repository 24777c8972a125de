-- Laws of the power (Profile value). Callers use `Laws`; `Quotient` and `Root` have what a quotient and a root are, and `AtMostOne` that the power of one is one.
mod Powers
mod Way
pub mod Quotient
pub mod Root
pub mod AtMostOne
mod Enclosing
mod Ratio
mod Steps
pub mod Laws
