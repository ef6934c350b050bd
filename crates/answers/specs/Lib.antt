pub mod Verdicts
pub mod Stages
pub mod Outcomes
pub mod Refusals
pub mod Forms
pub mod Written
pub mod Answers
