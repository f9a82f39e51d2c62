pub mod Narrow
pub mod Page
