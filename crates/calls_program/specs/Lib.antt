pub mod Requests
pub mod Responses
pub mod Operations
pub mod Images
pub mod Desks
pub mod Benches
pub mod Working
