pub mod Above
pub mod Ending
pub mod Playing
pub mod Returning
