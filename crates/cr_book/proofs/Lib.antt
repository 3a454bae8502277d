pub mod PrefixCodes
pub mod LeadTexts
pub mod WrongPlaces
pub mod Sorting
pub mod Tallies
pub mod Dealing
pub mod EachMade
pub mod Parts
pub mod Lines
pub mod Fronts
mod Groups
mod Jobs
pub mod Cuts
