-- What one step, and its parts, leave behind.
pub mod Walk
