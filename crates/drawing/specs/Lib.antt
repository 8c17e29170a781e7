pub mod Xorshift
pub mod Draw
pub mod Pen
pub mod Outcome
pub mod Examples
