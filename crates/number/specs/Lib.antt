-- What the readers of fields and numbers promise.
pub mod Field
