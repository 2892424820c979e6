-- Positions, the walk and the full list.
pub mod Remaining
pub mod Walk
pub mod Ends
pub mod Lawful
pub mod Accepted
pub mod Visited
pub mod Walking
pub mod Listing
pub mod Records
pub mod Moves
pub mod Scans
pub mod Rounds
