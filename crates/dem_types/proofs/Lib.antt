pub mod InPlace
pub mod Structs
pub mod Back
pub mod ByNumber
