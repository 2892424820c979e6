-- The values of the definitions.
pub mod ByValue
