pub mod Answers
pub mod States
