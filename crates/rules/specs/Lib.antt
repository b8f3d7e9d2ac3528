pub mod Pointwise
pub mod Writing
pub mod Books
pub mod BookLaws
pub mod Made
