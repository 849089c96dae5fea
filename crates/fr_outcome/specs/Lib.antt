pub mod Checked
pub mod Judged
pub mod Answers
pub mod Each
pub mod Heading
