pub mod ConflictsFound
pub mod ConflictsKept
pub mod ConflictsLists
pub mod ConflictsOrder
pub mod ConflictsPairs
