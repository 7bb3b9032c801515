pub mod Coded
pub mod Judging
pub mod Marking
pub mod Unread
