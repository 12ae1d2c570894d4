pub mod Answers
pub mod AnswersLaws
pub mod Numbers
pub mod Laws
