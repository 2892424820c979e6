-- What the edits and the list of degrees promise.
pub mod Edits
