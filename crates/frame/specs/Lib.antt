pub mod Layout
pub mod Judge
pub mod Image
pub mod Claims
pub mod Bounds
