pub mod PointSet
pub mod Hits
pub mod Ranking
pub mod Print
pub mod Words
pub mod Candidate
