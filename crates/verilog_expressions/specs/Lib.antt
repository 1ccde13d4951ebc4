pub mod Cursor
pub mod Digits
pub mod Gives
pub mod Grows
pub mod Measured
pub mod Others
pub mod Views
