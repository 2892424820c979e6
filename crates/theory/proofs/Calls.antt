-- Refusals, page calls, the set query, edits and the list of degrees.
pub mod Fault
pub mod GraphFaults
pub mod TableFaults
pub mod PackedFaults
pub mod DegreeFaults
pub mod Faults
pub mod DeadPosition
pub mod Acceptance
pub mod Bounds
pub mod Full
pub mod Next
pub mod Pages
pub mod OneGraph
pub mod Edits
pub mod DegreesCall
pub mod Packing
pub mod BothTables
