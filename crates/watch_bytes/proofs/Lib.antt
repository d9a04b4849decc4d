mod Laws
mod Claims
mod Runs
