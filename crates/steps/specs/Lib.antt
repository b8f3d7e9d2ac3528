pub mod Steps
pub mod Meaning
