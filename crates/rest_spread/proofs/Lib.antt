pub mod Uncleared
pub mod LoweringEntry
