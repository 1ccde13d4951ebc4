pub mod AlwaysLemmas
pub mod LoopVariables
pub mod MetLemmas
pub mod NetLemmas
pub mod OverlapLemmas
pub mod ReadLemmas
pub mod SignalLemmas
