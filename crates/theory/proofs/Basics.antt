-- Tests, counts and lists of the numbers below n: what the library lacks.
pub mod Parts
pub mod Tests
pub mod Bits
pub mod Counting
pub mod Refusals
pub mod Passing
pub mod PassingParts
