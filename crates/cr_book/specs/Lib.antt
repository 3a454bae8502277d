pub mod Readings
pub mod Reads
pub mod Leads
pub mod Measures
pub mod Dealt
pub mod Slices
pub mod Pieces
pub mod Lines
