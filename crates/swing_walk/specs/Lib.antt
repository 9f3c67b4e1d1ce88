pub mod Pairs
pub mod Laws
pub mod Walks
pub mod Tables
pub mod Tallies
pub mod Sizes
pub mod Sides
