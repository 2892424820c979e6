-- What the functions over settings and over a set's numbers require and give.
pub mod Numbers
