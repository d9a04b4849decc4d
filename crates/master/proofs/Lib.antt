pub mod Buses
pub mod Moves
pub mod Claims
mod Replies
mod Answers
mod Examples
