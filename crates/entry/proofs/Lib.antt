-- Why the statements of Main hold. Lists is used throughout.
-- The answer is the first record that breaks a rule, and the first that it breaks: First, Unbroken, Judged, Refused. That is the lowest: Lowest. It has a number: Sure.
-- Accepted gives a lawful design: Good, Kept, Grown, Steps. A lawful design gives accepted: Back, Rebuilt, Placed, Accepted.
-- Both forms of the rules agree: Bridge. Together: Exactly. Where the records stand: Standing, Numbered.
pub mod Lists
pub mod First
pub mod Lowest
pub mod Sure
pub mod Unbroken
pub mod Judged
pub mod Refused
pub mod Good
pub mod Kept
pub mod Grown
pub mod Steps
pub mod Back
pub mod Rebuilt
pub mod Placed
pub mod Accepted
pub mod Bridge
pub mod Exactly
pub mod Standing
pub mod Numbered
pub mod Computing
pub mod Main
pub mod Laws
pub mod Told
pub mod Cases
