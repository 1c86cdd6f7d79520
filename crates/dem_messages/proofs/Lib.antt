pub mod Asked
pub mod Messages
pub mod Writing
pub mod Forms
pub mod Answers
pub mod FoundBack
pub mod Theorems
pub mod Determined
