pub mod Records
pub mod Scans
pub mod Bytes
pub mod Places
pub mod Calling
pub mod Handing
pub mod ReadBack
pub mod Runs
mod Bounds
