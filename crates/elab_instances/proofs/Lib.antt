pub mod BehindLemmas
pub mod EnteringLemmas
pub mod NamesLemmas
pub mod OpeningLemmas
pub mod PartLemmas
pub mod RoleLemmas
