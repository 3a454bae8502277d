pub mod Latest
pub mod Linked
pub mod Known
pub mod Held
pub mod Answered
