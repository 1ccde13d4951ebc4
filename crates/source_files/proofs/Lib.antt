pub mod MissingNames
pub mod Printable
pub mod Contents
pub mod RootLists
pub mod OneList
pub mod Growing
