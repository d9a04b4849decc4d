pub mod Masters
pub mod Exchanges
pub mod Runs
pub mod Claims
pub mod Examples
