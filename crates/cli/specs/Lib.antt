-- What the program prints, as far as its functions promise it.
pub mod Printing
