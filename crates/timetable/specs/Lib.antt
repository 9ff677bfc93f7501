pub mod Timetable
pub mod Sound
pub mod History
pub mod Owner
pub mod Marks
pub mod Taken
pub mod Walk
