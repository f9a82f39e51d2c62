pub mod Packed
pub mod Answer
