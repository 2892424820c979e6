-- What follows of a refusal.
pub mod Handed
