pub mod Outside
pub mod Identifier
pub mod Decimal
