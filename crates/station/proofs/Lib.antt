pub mod Areas
pub mod Steps
pub mod Slots
pub mod Calls
pub mod Isolation
mod Pieces
pub mod RoundTrip
pub mod Soundness
pub mod Turning
pub mod Handing
pub mod Refusals
pub mod OnCalls
mod Bounds
