-- The answer of a page, and where its rounds stand between two of them.
pub mod Answer
pub mod Turn
