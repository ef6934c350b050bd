pub mod Replies
pub mod Answers
pub mod Silences
pub mod Ends
pub mod One
