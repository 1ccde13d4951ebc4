pub mod Marks
pub mod GreedyLaws
pub mod HeadLaws
pub mod RemarkLaws
pub mod VisibleTable
