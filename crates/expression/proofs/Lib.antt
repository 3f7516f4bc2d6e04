pub mod Cutting
pub mod Leaves
pub mod Texts
