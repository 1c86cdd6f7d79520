pub mod HeadLaws
pub mod TrackLaws
pub mod NormalLaws
