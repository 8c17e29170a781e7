pub mod Left
pub mod Leftover
pub mod Texts
pub mod Causes
pub mod Marks
pub mod Handed
pub mod Whole
pub mod Examples
