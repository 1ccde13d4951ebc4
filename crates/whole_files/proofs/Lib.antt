pub mod EffectLemmas
pub mod Refusals
pub mod Lines
