pub mod Answers
pub mod Words
pub mod Arguments
pub mod Calls
pub mod Claims
pub mod Bounds
