pub mod States
pub mod Runs
pub mod Claims
