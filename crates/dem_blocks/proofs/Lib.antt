pub mod Arms
pub mod Marks
pub mod Places
pub mod SoFar
pub mod Steps
pub mod Turns
