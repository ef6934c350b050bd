pub mod Fits
pub mod Gathered
pub mod InArrays
pub mod Lower
pub mod Origins
pub mod Placing
