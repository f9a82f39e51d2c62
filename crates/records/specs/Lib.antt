pub mod Decoded
pub mod Encoded
pub mod Says
pub mod Shown
