pub mod Fields
pub mod NormalLaws
pub mod LoadLaws
pub mod ClientLaws
