-- What is written, Parts; what is answered, Answers.
pub mod Parts
pub mod Answers
