-- The table of a graph, its refusals, and the vertices that are tested against it.
pub mod RowBounds
pub mod BlockPairs
pub mod Chains
pub mod Faults
pub mod Stray
pub mod SwappedRows
pub mod Transposition
pub mod Vertices
