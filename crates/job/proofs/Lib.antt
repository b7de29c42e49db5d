pub mod Reading
pub mod Bodies
pub mod Says
pub mod Folding
pub mod Deciding
pub mod Ordering
pub mod Whole
pub mod Cases
