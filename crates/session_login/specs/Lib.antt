pub mod MakesLoginTurn
