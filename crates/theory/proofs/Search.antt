-- The search for a larger isolated clique.
pub mod Candidates
pub mod Members
pub mod Search
pub mod Bound
pub mod Marks
pub mod Steps
pub mod Cut
pub mod Marked
pub mod Maximal
