pub mod Arms
pub mod NamesLaw
pub mod AssignedLaw
