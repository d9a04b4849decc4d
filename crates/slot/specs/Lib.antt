pub mod Slots
pub mod Sound
pub mod Codes
pub mod Bounds
