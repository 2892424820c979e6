-- The laws of a line's tests, of the cells of a pair, of what the readers promise, and of the first line of a text.
pub mod Lines
pub mod Cells
pub mod Steps
pub mod FirstLines
