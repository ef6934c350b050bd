pub mod Cutting
pub mod LineEnds
pub mod SpacedWords
pub mod WordsAgain
