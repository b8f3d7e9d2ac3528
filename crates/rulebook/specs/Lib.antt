pub mod Tables
pub mod Rules
pub mod Answers
