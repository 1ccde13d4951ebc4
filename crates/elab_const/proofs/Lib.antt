pub mod AnswerLemmas
pub mod ValueLemmas
pub mod LoopLemmas
pub mod ScopeLemmas
pub mod ContextLemmas
pub mod PartLemmas
pub mod Texts
pub mod Examples
