pub mod Standing
pub mod Examples
