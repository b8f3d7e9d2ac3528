pub mod TermLaws
pub mod WindowLaws
pub mod ReadingLaws
pub mod SettledLaws
