pub mod Stacks
pub mod Keys
pub mod Chains
pub mod Pushing
