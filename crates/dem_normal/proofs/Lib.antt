pub mod PutLaws
pub mod UpdateBytes
pub mod ClientBytes
pub mod SoundBytes
pub mod BlockBytes
pub mod PlainForm
