pub mod Walks
pub mod Given
pub mod Popped
pub mod LeftNotes
pub mod ByPlace
