pub mod Changes
pub mod Filling
pub mod Applied
pub mod Back
pub mod FilledBack
