-- The candidates, the taken set of a position, and the verdict on it.
pub mod Sifted
pub mod TakenSet
pub mod Verdicts
