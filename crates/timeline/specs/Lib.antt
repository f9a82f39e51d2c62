-- The theory of timetables.
-- To be believed: what a design is and asks (Design, Rules), what expanding it means (Paths, Uses, Wires, Flat), and what Demand3 and Listing state.
-- Decide computes. Why all of it holds stands in proofs/, with an example in proofs/Squaring.
pub mod Design
pub mod Rules
pub mod Paths
pub mod Uses
pub mod Wires
pub mod Flat
pub mod Demand3
pub mod Listing
pub mod Decide
