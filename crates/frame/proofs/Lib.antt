pub mod Flags
mod Passing
mod JudgeLaws
mod CountCodes
pub mod Images
pub mod Judged
mod Lengths
mod Verdicts
pub mod Codes
mod Bounds
