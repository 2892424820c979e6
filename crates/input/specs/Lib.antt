-- What a call has that passes the refusals of its input.
pub mod Given
