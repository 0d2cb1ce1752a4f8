pub mod ReasonKind
pub mod Flat
pub mod Abi
pub mod FlatCommand
