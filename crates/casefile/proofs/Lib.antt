-- The laws that the proofs of crate casefile share, and its theorems (Case file).
pub mod Numbers
pub mod Faults
pub mod Kept
pub mod Means
pub mod Items
pub mod Marked
pub mod Weighing
pub mod Chained
pub mod Ordered
pub mod Sound
pub mod Together
pub mod Agreed
pub mod Taken
pub mod LongestTaken
pub mod Longest
pub mod Alike
pub mod Enough
