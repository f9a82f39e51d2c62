-- How the reading goes from record to record, Run, and what it answers at a component's end, Component; which rows it looks up before, Ahead and Wanted.
pub mod Run
pub mod Ahead
pub mod Component
pub mod Wanted
