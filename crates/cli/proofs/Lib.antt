-- The theorem about what the program prints.
pub mod Whole
pub mod Packed
