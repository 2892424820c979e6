-- How code computes what the definitions of crate model say.
pub mod Ones
pub mod Parts
pub mod Search
pub mod Bound
pub mod Marks
pub mod Replies
pub mod Printed
