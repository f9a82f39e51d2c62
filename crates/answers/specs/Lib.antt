pub mod Fault
pub mod Answer
pub mod Once
pub mod Shown
