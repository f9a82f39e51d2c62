-- What a component's timetable drives, the rows that it is lowered to, and that they drive the same.
-- Definitions, in the order to read them: Lists, Table, States, Rows, Places, Bytes, Register, Drives, Units; then Lowered, what is shown of them.
-- Results stand in proofs/Main, with the squaring example in proofs/Squaring; proofs/Laws is for other crates.
pub mod Lists
pub mod Table
pub mod States
pub mod Rows
pub mod Places
pub mod Bytes
pub mod Register
pub mod Drives
pub mod Units
pub mod Lowered
