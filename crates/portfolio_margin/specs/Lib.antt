pub mod Owed
pub mod Run
pub mod Answers
pub mod Need
pub mod Laws
pub mod Worked
