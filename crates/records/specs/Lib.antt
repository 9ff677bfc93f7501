pub mod Request
pub mod Answer
pub mod AnswerForm
pub mod Written
pub mod Reads
