pub mod Order
pub mod Sorted
pub mod Apart
pub mod Pairs
pub mod Least
pub mod Taken
pub mod Found
pub mod Working
