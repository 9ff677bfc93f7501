pub mod Placement
pub mod Any
pub mod Placed
pub mod RuleFour
