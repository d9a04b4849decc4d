pub mod Answers
pub mod Step
pub mod OneStream
pub mod Claims
pub mod Bounds
