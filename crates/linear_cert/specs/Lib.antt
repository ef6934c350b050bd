pub mod Sparse
pub mod Fitting
pub mod Checks
