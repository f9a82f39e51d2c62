-- What is proved of timetables stands in Demand3, Listing, IsLawful and, of an example, Squaring. The other files are why it holds.
pub mod Takes
pub mod Down
pub mod Apart
pub mod Once
pub mod Offered
pub mod OneEnd
pub mod Follow
pub mod Carried
pub mod Joins
pub mod Depth
pub mod Leaves
pub mod Rows
pub mod IsLawful
pub mod Squaring
pub mod Demand3
pub mod Listing
