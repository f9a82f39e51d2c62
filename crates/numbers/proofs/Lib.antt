pub mod Bytes
pub mod Halves
pub mod Stores
pub mod Zeros
