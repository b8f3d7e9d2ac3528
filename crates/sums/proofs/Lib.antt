pub mod Signed
pub mod Totals
pub mod SumLaws
pub mod QuestionLaws
pub mod SumCode
pub mod SumSteps
pub mod MeaningLaws
