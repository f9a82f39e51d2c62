mod Digits
mod Room
