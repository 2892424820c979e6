-- The refusals 1, 2, 45, 4, 5, 42 and 6 to 10 in their order, and what passes them.
pub mod Refusals
