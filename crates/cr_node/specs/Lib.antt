pub mod Overlaps
pub mod Work
pub mod Places
