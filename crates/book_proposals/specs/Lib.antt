pub mod Answers
pub mod Found
pub mod Laws
pub mod LiveAnswers
pub mod Proposing
