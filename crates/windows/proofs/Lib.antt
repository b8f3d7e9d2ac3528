pub mod KindLaws
pub mod SmallestLaws
pub mod SizeLaws
