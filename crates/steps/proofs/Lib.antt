pub mod StepLaws
pub mod Moves
