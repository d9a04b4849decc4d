pub mod Front
pub mod Claims
