pub mod Filters
pub mod Claims
pub mod Examples
