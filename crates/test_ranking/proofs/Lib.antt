pub mod SetLaws
pub mod Packing
pub mod Uses
pub mod Better
pub mod Skipping
pub mod MergeHits
