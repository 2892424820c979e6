-- The members of a set in the work slice.
pub mod Members
