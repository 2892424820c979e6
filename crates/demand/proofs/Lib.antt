-- The proofs of demands 2 and 3, of C-11, of C-12, of C-14 and of C-15.
pub mod Demand
pub mod Membership
pub mod Repeats
pub mod Edits
pub mod Records
pub mod Packing
pub mod Compiled
