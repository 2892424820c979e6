-- What the functions that put bytes into a buffer promise.
pub mod Put
