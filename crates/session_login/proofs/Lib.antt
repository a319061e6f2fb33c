pub mod LoginTurns
