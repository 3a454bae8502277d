pub mod Examples
pub mod FirstKeys
pub mod Reading
pub mod Steps
