pub mod File
pub mod Rows
pub mod Starts
pub mod Lowering
pub mod Listing
