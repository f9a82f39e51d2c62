-- What judging a file answers, Judgement; what opening leaves beside it, Opening; how the reading starts, Started.
pub mod Judgement
pub mod Opening
pub mod Started
