pub mod Together
pub mod Whole
