pub mod Entry
pub mod Version
