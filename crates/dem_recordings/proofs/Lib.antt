pub mod Recordings
pub mod NormalForms
pub mod Normals
pub mod Answers
pub mod Determined
