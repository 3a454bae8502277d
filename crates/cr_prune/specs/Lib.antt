pub mod Ends
pub mod Rung
pub mod Heads
pub mod Holding
pub mod Parts
pub mod Walks
pub mod PruneLimits
pub mod Pruners
