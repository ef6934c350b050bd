pub mod Amounts
pub mod Searches
pub mod Totals
