pub mod Rules
pub mod CaseE
pub mod Table
