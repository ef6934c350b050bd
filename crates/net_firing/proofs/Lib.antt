pub mod Rows
pub mod Places
pub mod Maps
pub mod Lists
pub mod Listed
pub mod Rising
pub mod Firings
