pub mod Marks
pub mod Reports
pub mod Shown
pub mod Visits
pub mod DumpOfChip
pub mod Programs
