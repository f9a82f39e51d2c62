-- What is answered and left of an opened file, by cases.
pub mod Answered
