pub mod Canonical
pub mod Unspelled
pub mod Equal
pub mod Renaming
pub mod Met
pub mod Results
pub mod Spelled
pub mod Examples
