pub mod Verdicts
pub mod Order
pub mod Places
pub mod Sides
pub mod Outcome
pub mod Examples
