-- What the readers of the program's words and of its text promise.
pub mod Verdict
pub mod Words
