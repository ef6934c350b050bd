pub mod Order
pub mod Statements
pub mod Sums
pub mod Texts
pub mod Written
