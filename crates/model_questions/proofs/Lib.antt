pub mod AnswerLemmas
pub mod RecordLemmas
pub mod QuestionLemmas
pub mod HopLemmas
