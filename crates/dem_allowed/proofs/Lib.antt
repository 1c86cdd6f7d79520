pub mod Fits
pub mod MaskTests
pub mod Messages
pub mod NameTests
pub mod Steps
pub mod StringTests
