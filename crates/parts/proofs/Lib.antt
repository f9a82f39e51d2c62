pub mod Places
pub mod Before
pub mod Behind
pub mod Small
