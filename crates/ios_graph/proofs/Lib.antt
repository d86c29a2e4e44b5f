mod Halving
mod Runs
mod Apart
mod Lowered
mod Examples
