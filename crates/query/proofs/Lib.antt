-- The laws that the proofs of this crate cite: the refusals of a set query, whether the set qualifies, and the answer as two numbers.
pub mod Answer
pub mod Qualifying
pub mod Refusals
