pub mod Lasts
pub mod Cuts
pub mod Runs
pub mod Trails
pub mod Taken
pub mod Writing
