pub mod NoConstFaults
