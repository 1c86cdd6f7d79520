pub mod Heads
pub mod Tracks
