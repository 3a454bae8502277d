pub mod Tables
pub mod Spans
pub mod Rungs
