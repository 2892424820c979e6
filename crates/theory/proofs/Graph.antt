-- The table, ranks, cliques and isolation.
pub mod Table
pub mod Ranks
pub mod Cliques
pub mod Degrees
pub mod DegreeList
pub mod Packed
pub mod Pairs
pub mod PackedPairs
pub mod Factor
pub mod Meaning
