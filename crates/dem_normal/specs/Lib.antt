pub mod Put
pub mod Sent
pub mod Client
pub mod Normal
