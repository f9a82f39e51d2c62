pub mod Letters
pub mod Words
