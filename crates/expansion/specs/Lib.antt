-- Rows as bytes, Bytes; what notes say and list, Notes; what may be asked of them, Asked; the notes of a design, Noted.
pub mod Bytes
pub mod Notes
pub mod Asked
pub mod Noted
