-- What the functions over the packed table and the degree list require.
pub mod Table
pub mod Degrees
pub mod Held
pub mod Vertices
pub mod Given
pub mod Blocks
