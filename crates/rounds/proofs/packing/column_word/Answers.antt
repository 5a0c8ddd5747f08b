-- `rounds::packing::column_word`: the bytes of a word that was joined. Assumes nothing.
use mathlib.Core.Path.{ap, ◌∙◌}
use borrow.Author.Rules.{rules}
use Rattle.words.specs.Words.{word_bytes}
use Rattle.words.proofs.Bytes.{joined}
use Rattle.rounds.proofs.packing.column_word.Goals as goal

pub returns : goal.returns
returns c = ap word_bytes c.join_bytes.ensures ∙ joined _ _ _ _ (search rules) (search rules) (search rules) (search rules)
