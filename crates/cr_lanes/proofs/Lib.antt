pub mod Lists
pub mod Steps
pub mod Lending
pub mod Stealing
pub mod GivingBack
pub mod Closing
pub mod Opening
pub mod Places
