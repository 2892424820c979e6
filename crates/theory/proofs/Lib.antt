-- The theorems about the definitions of crate model, a folder for each concern.
pub mod Basics
pub mod Graph
pub mod Search
pub mod Walk
pub mod Calls
pub mod Text
pub mod Program
