-- The laws of numbers, of two fields, and of where lines and fields part.
pub mod Numbers
pub mod Fields
pub mod Splits
