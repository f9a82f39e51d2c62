pub mod Class
pub mod Fed
pub mod Passed
pub mod Kept
pub mod Notes
