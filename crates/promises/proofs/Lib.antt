pub mod Lengths
pub mod ShortFields
pub mod Archived
pub mod Kept
pub mod OfCode
