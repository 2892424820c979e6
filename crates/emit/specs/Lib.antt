-- What is put out at a position.
pub mod Emit
