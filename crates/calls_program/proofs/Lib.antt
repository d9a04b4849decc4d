mod Parts
mod Steps
mod Named
mod Desks
mod Benches
mod Working
mod Sizes
