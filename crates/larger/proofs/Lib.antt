-- The laws that the proofs of this crate cite: a loop that writes marks, the search with a candidate added, candidate by candidate and from the first one on, and the
-- ways to be maximal.
pub mod Parts
pub mod Marking
pub mod Adding
pub mod Searching
pub mod First
pub mod Maximal
