pub mod Opened
pub mod Records
pub mod Once
