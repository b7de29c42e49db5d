pub mod Layers
pub mod Order
pub mod Least
pub mod Choice
pub mod Bounds
pub mod Marks
pub mod BestTo
pub mod Sheets
