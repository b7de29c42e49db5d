pub mod Caps
pub mod Carried
pub mod Facing
