pub mod PointwiseLaws
pub mod WritingLaws
pub mod BookLaws
