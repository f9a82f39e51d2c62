-- What walks by hand over lent slices share. A slice lent on and back: Again, Shared; a local array: Lent, Local. A call: Around, Call; how a walk begins, goes on and ends: Frame, Passing, After, Walk.
pub mod After
pub mod Again
pub mod Shared
pub mod Lent
pub mod Around
pub mod Passing
pub mod Frame
pub mod Call
pub mod Walk
pub mod Local
