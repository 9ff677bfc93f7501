pub mod AnswerRead
pub mod AnswerReads
pub mod RequestWrite
pub mod Told
pub mod Writes
pub mod Put
