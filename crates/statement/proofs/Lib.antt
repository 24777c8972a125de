-- The laws that the proofs of crate statement share, and its theorems (Account and its calls).
pub mod Order
pub mod Sums
pub mod Has
pub mod Near
pub mod Parts
pub mod Telescope
pub mod Together
pub mod Successive
pub mod Facts
pub mod CodeSums
pub mod CodeSound
pub mod CodeWritten
pub mod CodeInterval
pub mod CodeFill
pub mod CodeAnswers
pub mod Told
