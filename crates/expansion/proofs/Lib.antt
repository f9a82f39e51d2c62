-- Bytes pasted among others, Pasted; the rows that notes list, Listed; what each call asks and leaves, Calls.
-- What a design's counts keep below, Units; its notes one after the other, Noting; and that they list its rows, Same.
pub mod Pasted
pub mod Listed
pub mod Calls
pub mod Units
pub mod Noting
pub mod Same
