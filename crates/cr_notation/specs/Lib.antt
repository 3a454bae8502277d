pub mod Reading
pub mod Refining
pub mod Writing
