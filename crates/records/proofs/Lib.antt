pub mod Zeros
pub mod There
pub mod Back
pub mod Once
pub mod Main
