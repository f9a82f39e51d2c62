-- Rows, what the reader keeps and how it goes on; then that this reads rightly, as the theory of reading asks.
pub mod Rows
pub mod State
pub mod Noted
pub mod Alike
pub mod Earlier
