pub mod Demands
pub mod Stations
pub mod Receive
pub mod Open
pub mod Read
pub mod Run
pub mod Parts
pub mod Bounds
