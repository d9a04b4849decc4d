pub mod Reading
mod Words
mod OneWord
mod Byte
mod Small
mod Bounds
mod Formats
