-- The numbers of the refusals.
pub mod Numbers
