pub mod Sums
pub mod Reading
pub mod Means
pub mod Texts
pub mod Names
pub mod Arcs
