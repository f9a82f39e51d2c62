-- Where the parts of an opened component stand, Places; one instance or invocation more, Turns, and what the loop over invocations knows, Calls; one component more, Grown.
pub mod Places
pub mod Turns
pub mod Calls
pub mod Grown
