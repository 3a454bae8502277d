pub mod FirstVerdicts
pub mod Logging
pub mod Examples
