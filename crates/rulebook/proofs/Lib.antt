pub mod SetBits
pub mod RowLaws
