pub mod Places
pub mod RowsLemmas
