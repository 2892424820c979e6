-- The ways of a page call.
pub mod Ways
