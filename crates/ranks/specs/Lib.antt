-- The slice of the rank order, and what fills it.
pub mod Ranks
pub mod Held
