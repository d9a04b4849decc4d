pub mod Split
pub mod Send
pub mod Claims
pub mod Examples
pub mod Bounds
pub mod Parts
