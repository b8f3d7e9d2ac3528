pub mod PairLaws
pub mod MeaningLaws
