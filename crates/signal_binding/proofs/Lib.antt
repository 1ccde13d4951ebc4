pub mod FrontLemmas
pub mod KeyLemmas
pub mod AmongLemmas
pub mod BoundLemmas
