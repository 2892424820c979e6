-- What the listing of a graph promises.
pub mod List
