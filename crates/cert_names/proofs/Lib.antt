pub mod Names
pub mod Sums
pub mod Claims
pub mod Shown
pub mod Trees
