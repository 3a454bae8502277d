pub mod Lane
pub mod Steps
pub mod Ends
pub mod EndInvariant
pub mod Thieves
pub mod Lanes
pub mod Examples
