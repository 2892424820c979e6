-- The laws of what is put into a buffer, of numerals, and of what is printed.
pub mod Puts
pub mod Numeral
pub mod Printed
