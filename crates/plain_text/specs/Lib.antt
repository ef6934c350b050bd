pub mod Certificates
pub mod Examples
pub mod Markup
pub mod NetParts
pub mod Nets
pub mod Properties
pub mod PropertyParts
