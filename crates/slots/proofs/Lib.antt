pub mod Below
pub mod Windows
pub mod Shortfall
pub mod OneSlot
