pub mod Block
pub mod Trips
pub mod Lookup
pub mod Small
pub mod Main
pub mod Writes
pub mod Fits
