-- Rows and records, Places; n, Reached; what stands in the file, Found and Called; what is written, Written.
pub mod Lists
pub mod Places
pub mod Reached
pub mod Found
pub mod Called
pub mod Written
