pub mod Row
mod Refused
pub mod Fronts
