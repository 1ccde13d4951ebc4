pub mod Finding
pub mod WordLaws
