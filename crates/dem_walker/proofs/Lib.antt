pub mod Walking
pub mod Determined
