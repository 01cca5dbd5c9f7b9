pub mod Quotes
pub mod QuoteLaws
