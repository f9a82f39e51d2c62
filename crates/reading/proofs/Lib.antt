-- Why the statements of Main hold.
-- Any scan that follows gives the verdict: Scanned. The place decides rule 5: Placed, Moved.
-- A reader that fits tests rightly and goes on to fit: Fits, Looked, Agreed, Onward. Together: Followed.
-- What accepted lists have in range: Ranges.
pub mod Scanned
pub mod Placed
pub mod Moved
pub mod Fits
pub mod Looked
pub mod Agreed
pub mod Onward
pub mod Followed
pub mod Ranges
pub mod Main
pub mod Told
