pub mod Binding
pub mod Counting
pub mod Digits
pub mod Rising
