-- The laws of the words as they were read, and of what a text is judged to be.
pub mod ReadWords
pub mod JudgedText
