-- What the functions over the byte table require, and what the call that packs it promises.
pub mod Bytes
pub mod Held
pub mod Packing
