pub mod Order
pub mod Inside
pub mod Picture
