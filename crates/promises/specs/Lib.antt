pub mod Promises
pub mod OfCode
