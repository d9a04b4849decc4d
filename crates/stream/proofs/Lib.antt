mod Steps
pub mod Answers
pub mod Cases
pub mod Bounds
