pub mod AliasLemmas
pub mod FirstBoundLemmas
pub mod JoiningLemmas
pub mod OutputLemmas
pub mod OverrideLemmas
