pub mod Reading
pub mod Answers
pub mod Intake
pub mod Writing
pub mod Texts
