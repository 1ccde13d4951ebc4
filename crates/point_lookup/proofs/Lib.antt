pub mod Matched
pub mod AddressOrder
pub mod AddressFields
pub mod KeyLaws
pub mod Searching
