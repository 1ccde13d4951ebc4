pub mod Rule
pub mod Grammar
pub mod Deep
pub mod Around
pub mod Laws
pub mod Example
