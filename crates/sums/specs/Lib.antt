pub mod Sums
pub mod Questions
pub mod Sizes
pub mod Meaning
pub mod Steps
pub mod Laws
