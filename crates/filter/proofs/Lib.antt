mod Masks
mod Claims
mod Examples
