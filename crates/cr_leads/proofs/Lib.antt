pub mod Keys
pub mod LastRows
pub mod Laying
pub mod SoundTables
pub mod Steps
pub mod Touches
