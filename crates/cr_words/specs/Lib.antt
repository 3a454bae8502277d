pub mod Numbers
pub mod Values
pub mod Tables
pub mod Commands
pub mod Readings
pub mod Examples
