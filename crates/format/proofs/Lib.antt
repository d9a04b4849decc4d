pub mod Tests
pub mod Checks
pub mod Outputs
pub mod Limits
pub mod Numbers
pub mod Tables
mod Bounds
