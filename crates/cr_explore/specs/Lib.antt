pub mod Turns
pub mod Stacks
pub mod Passing
pub mod Keeping
pub mod Searches
pub mod Slices
