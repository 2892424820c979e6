-- The laws that the proofs of this crate, and of the calls above it, cite: what the numbers of settings are read as, their refusals, and the
-- bound on a set's numbers.
pub mod Notions
pub mod Hopeless
pub mod Refusals
