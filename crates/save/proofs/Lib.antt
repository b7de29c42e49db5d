pub mod Laid
pub mod Records
pub mod Reread
pub mod Rewritten
pub mod Runs
pub mod Counts
pub mod Disorder
pub mod Answers
