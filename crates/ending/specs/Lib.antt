-- What the program's last line and its outcome are.
pub mod Ending
