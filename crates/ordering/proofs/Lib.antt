pub mod LexicalOrder
pub mod Bridge
pub mod Same
pub mod TreeOrder
pub mod EventKeys
pub mod TablePlaces
pub mod Sides
pub mod Pairs
