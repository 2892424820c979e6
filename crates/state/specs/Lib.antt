-- How the state stands for a position, and what deciding the next rank makes of it.
pub mod State
pub mod NextRank
