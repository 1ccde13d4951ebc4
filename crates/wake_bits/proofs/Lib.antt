pub mod Mentioned
pub mod Cells
pub mod WakeRows
pub use Rattle.process_order.proofs as process_order
