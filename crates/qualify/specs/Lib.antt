-- What `qualifies` and its parts ask for and answer.
pub mod Qualify
