-- What demands 2 and 3 and the requests C-11, C-12, C-14 and C-15 say of the functions of crates page, query, dimacs, edits and pack.
pub mod Demand
pub mod Membership
pub mod Repeats
pub mod Edits
pub mod Records
pub mod Packing
pub mod Compiled
