-- What the writers do. Assumes nothing: these are definitions.
use Rattle.std.specs.Prelude.{List, ◌++◌, ◌≡◌, ℕ, ◌+◌, ◌≤◌, length, drop}
use Rattle.std.proofs.lemmas.List.Edits.{sets}

-- there is room for a text in a buffer from a place on
pub record Room (buffer : List ℕ) (at : ℕ) (text : List ℕ) : Type 0 where
  pub fits : at + length text ≤ length buffer

-- a text is put into a buffer from a place on: what the buffer holds after it, and the place at which the text ends
pub record Put (before : List ℕ) (at : ℕ) (text after : List ℕ) (end : ℕ) : Type 0 where
  pub holds : after ≡ sets before at text
  pub ends : end ≡ at + length text

-- a text at the front of a buffer, with the bytes after it kept
abbrev pub at_front : List ℕ → List ℕ → List ℕ
at_front text buffer = text ++ drop (length text) buffer
