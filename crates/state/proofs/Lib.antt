-- The taken ranks, the state that stands for a position, and the next rank decided.
pub mod Taken
pub mod StandsFor
pub mod Vertices
pub mod NextRank
pub mod RankPushed
pub mod Opened
