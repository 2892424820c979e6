-- What the text reader promises.
pub mod Reply
