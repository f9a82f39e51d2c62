-- Reading a record list in one pass: what a program has to show of its tests and its state to give the verdict of entry.
-- Definitions, in the order to read them: Tests, Scan, Place, Changed, Reader, Told, Step, Table, Reads.
-- Results stand in proofs/Main.
pub mod Tests
pub mod Scan
pub mod Place
pub mod Changed
pub mod Reader
pub mod Told
pub mod Step
pub mod Table
pub mod Reads
