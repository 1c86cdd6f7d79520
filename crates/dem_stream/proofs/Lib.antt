pub mod PlaceLaws
pub mod PieceLaws
pub mod LineLaws
pub mod UncutLaws
pub mod CutLaws
pub mod AnswerLaws
pub mod Determined
