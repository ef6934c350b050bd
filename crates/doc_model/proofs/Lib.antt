pub mod TextLaws
pub mod Writing
