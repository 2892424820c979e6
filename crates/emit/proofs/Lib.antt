-- The output with a group more.
pub mod Output
pub mod Groups
