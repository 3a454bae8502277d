pub mod Rows
pub mod Packed
pub mod Masks
pub mod PlaceFaults
pub mod Symbols
pub mod Order
