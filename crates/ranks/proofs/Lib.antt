-- Counting by degree, the slices while they are filled by it, and what they then say.
pub mod ByDegree
pub mod Starts
pub mod Placed
pub mod Ranks
