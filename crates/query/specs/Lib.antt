-- What the set query answers, and what its steps require and give.
pub mod Query
