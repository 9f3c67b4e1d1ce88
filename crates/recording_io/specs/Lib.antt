pub mod Tapes
pub mod Laws
