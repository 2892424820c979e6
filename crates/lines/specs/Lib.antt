-- What the lines say, and what the readers of a line promise.
pub mod Said
pub mod Line
