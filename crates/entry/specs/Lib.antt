-- The record list of a design, the design that a record list says, and the verdict on a record list.
-- Definitions, in the order to read them: Lists, Records, Numbers, Entered, Asks, Told, Answers. How they are computed: Decisions, Decide, Verdict.
-- The squaring example and its cases: Cases. Results stand in proofs/Main; proofs/Laws is for other crates.
pub mod Lists
pub mod Records
pub mod Numbers
pub mod Entered
pub mod Asks
pub mod Told
pub mod Answers
pub mod Decisions
pub mod Decide
pub mod Verdict
pub mod Cases
