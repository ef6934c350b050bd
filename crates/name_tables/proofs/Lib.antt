pub mod IdTexts
pub mod Numbers
pub mod Places
pub mod Rising
