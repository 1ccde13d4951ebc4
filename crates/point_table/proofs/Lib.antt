pub mod Lists
pub mod Members
pub mod Shown
pub use Rattle.cover_points.proofs as cover_points
pub use Rattle.text_points.proofs as text_points
