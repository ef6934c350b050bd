pub mod Agendas
pub mod Bounds
pub mod States
pub mod Examples
