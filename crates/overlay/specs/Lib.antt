pub mod Objects
pub mod Run
pub mod Plain
pub mod Law
pub mod Whole
pub mod Examples
pub mod Impostors
pub mod Premises
