pub mod BadTurns
