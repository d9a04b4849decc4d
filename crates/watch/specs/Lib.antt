pub mod Watching
pub mod Runs
pub mod Claims
