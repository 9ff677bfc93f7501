pub mod Limits
pub mod Clocks
pub mod Below
pub mod Shortfall
pub mod Slots
