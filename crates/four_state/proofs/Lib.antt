pub mod Places
pub mod Lifted
pub mod Kept
pub mod ReductionLaws
pub mod BitwiseLaws
pub mod PartLaws
pub mod NumberLaws
pub mod MatchLaws
