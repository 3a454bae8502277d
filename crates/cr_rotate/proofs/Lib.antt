pub mod Lists
pub mod Periods
pub mod WholeFronts
pub mod Kept
pub mod LeastRotations
pub mod RepeatedWords
