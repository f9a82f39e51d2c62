-- Why the statements of Main hold. Lists is used throughout.
-- Which rows stand where: Placed, Rows. What n covers: States. What rows drive: Right, One. The register as it runs: Register.
-- How large it all is: Sizes. Rows as bytes: Bytes. The units below a top: Begun, Carried. Together: Ensured.
pub mod Lists
pub mod Placed
pub mod Rows
pub mod States
pub mod Right
pub mod One
pub mod Register
pub mod Sizes
pub mod Bytes
pub mod Begun
pub mod Carried
pub mod Ensured
pub mod Main
pub mod Laws
pub mod Squaring
