pub mod Laws
pub mod Digits
pub mod Signed
pub mod Lengths
pub mod Pages
