pub mod Deals
pub mod Joins
pub mod JoinFaults
pub mod Reads
pub mod Hashes
pub mod Ways
pub mod Dealers
