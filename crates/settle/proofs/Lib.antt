pub mod SettledLaws
pub mod SaysLaws
