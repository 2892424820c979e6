-- The laws of the refusals of a position.
pub mod Refusals
pub mod Scans
