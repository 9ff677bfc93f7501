pub mod BufferLaws
pub mod CopyLaws
pub mod FrameLaws
pub mod InputLaws
pub mod LineLaws
pub mod ProgramLaws
pub mod RunLaws
