pub mod Plan
pub mod Transition
pub mod Reach
pub mod Coded
pub mod RuleThree
