pub mod Failed
pub mod Calls
pub mod Known
pub mod Each
