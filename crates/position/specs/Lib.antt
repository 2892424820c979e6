-- What the refusals of a position find.
pub mod Position
