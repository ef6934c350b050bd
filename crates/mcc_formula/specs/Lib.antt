pub mod Layouts
pub mod Walking
pub mod Finding
