pub mod Buffers
pub mod Coded
pub mod Places
pub mod Program
pub mod Runs
