mod Laws
mod Claims
mod Runs
mod Examples
