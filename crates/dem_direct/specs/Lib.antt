pub mod Spread
pub mod Heads
