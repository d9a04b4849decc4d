pub mod Listing
pub mod Parts
pub mod Claims
pub mod Examples
