pub mod Verdicts
pub mod Headline
pub mod Lines
pub mod Causes
