-- What the search for a larger isolated clique finds over its marks, and what its functions and the test for being maximal require and leave behind.
pub mod Numbers
pub mod Places
pub mod Search
