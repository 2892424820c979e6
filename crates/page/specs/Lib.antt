-- What a page call promises, and what an accepted one has when its walk goes on.
pub mod Call
pub mod Accepted
