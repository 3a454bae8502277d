pub mod Digits
pub mod Given
pub mod Faults
pub mod Wishes
pub mod Answering
pub mod Taken
