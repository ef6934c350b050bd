pub mod Cells
pub mod Total
