-- The refusals of a byte table, the numbers of the packed one, and the replies of the call that packs it.
pub mod Faults
pub mod Numbers
pub mod Replies
