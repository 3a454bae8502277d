pub mod Claims
pub mod Ones
pub mod Seats
pub mod Strangers
