-- The refusals of an edit and of the list of degrees, what passes them, and the replies.
pub mod Refusals
pub mod Replies
