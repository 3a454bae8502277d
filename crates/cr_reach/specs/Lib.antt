pub mod Tables
pub mod Spreading
pub mod Filling
