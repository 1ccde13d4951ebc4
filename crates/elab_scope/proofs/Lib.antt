pub mod ConnectionLemmas
pub mod NameSetLemmas
pub mod FirstFault
pub mod NameLemmas
pub mod ScopeLemmas
pub mod TallyLemmas
