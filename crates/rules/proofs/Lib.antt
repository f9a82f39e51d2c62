pub mod Shift
pub mod Pairs
