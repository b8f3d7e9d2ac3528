pub mod WeakDivision
pub mod ProductLaws
pub mod ProductCode
pub mod ProductSteps
pub mod MeaningLaws
