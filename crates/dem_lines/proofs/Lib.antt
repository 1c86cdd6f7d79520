pub mod Lending
pub mod Turning
pub mod Brought
pub mod Determined
