pub mod Main
pub mod Sources
