pub mod SoundParts
pub mod TermLists
pub mod NumberTerms
pub mod SoundTargets
pub mod TargetLists
