pub mod Named
pub mod Sources
