pub mod Orders
pub mod Sections
pub mod Gathering
pub mod HitLines
pub mod Lines
pub mod JoinedHits
