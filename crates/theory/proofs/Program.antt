-- What the program prints.
pub mod Numeral
pub mod Printed
pub mod Program
