mod Texts
mod Decimals
mod Bounds
pub mod LineRoom
pub mod Arriving
