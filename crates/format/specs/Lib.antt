pub mod Tests
pub mod Formats
pub mod Refusals
pub mod Numbers
pub mod Outputs
pub mod Claims
pub mod Tables
pub mod Bounds
