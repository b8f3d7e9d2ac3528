pub mod Sets
pub mod Kinds
pub mod Rows
pub mod SetLaws
pub mod SpanLaws
