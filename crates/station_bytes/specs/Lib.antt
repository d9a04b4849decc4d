pub mod States
pub mod Calls
pub mod Parts
pub mod Claims
pub mod Bounds
