pub mod AnswerPdus
pub mod Counters
pub mod Machine
pub mod MakesTurn
pub mod Step
