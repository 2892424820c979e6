-- The laws from line to line.
pub mod LineByLine
