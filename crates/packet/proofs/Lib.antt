pub mod Counts
mod Writing
mod Placing
mod Sending
pub mod Pieces
mod Examples
mod Bounds
