-- The laws of members that are listed.
pub mod Listed
