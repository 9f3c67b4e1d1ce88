pub mod Masks
pub mod Entries
pub mod Merges
pub mod Groups
pub mod Laws
