pub mod Newly
pub mod Pushing
pub mod Backwards
pub mod Listing
pub mod Finding
pub mod Fitting
