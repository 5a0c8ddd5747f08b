-- What holds of a line that is readable, and of one whose case is accepted. Assumes nothing.
use mathlib.Core.Bool.{true, ◌&&◌}
use mathlib.Core.List.{List}
use mathlib.Core.Path.{◌≡◌, sym, ◌∙◌}
use Prim.Native.Nat.{ℕ, ◌/◌, ◌≤◌}
use native.Mathlib.Omega.{arith}
use lib.ListN.{length}
use Rattle.span.specs.Span.{longest_buffer}
use Rattle.laws.proofs.Cases.{and_left, and_right}
use Rattle.bench.proofs.Passed.{KeyedPassed, keyed-passed}
use Rattle.lines.specs.Line.{part}
use Rattle.line_values.specs.Parts.{are_bytes}
use Rattle.case_reader.specs.Case.{Case, last_part, numbers_readable, is_readable, case_of, Accepted}
use Rattle.line_values.proofs.Hexes.{length-bytes}

-- a readable line's bytes are bytes
module _ (line : List ℕ) (e : is_readable line ≡ true) where
  past-numbers : are_bytes (part 1 line) && (are_bytes (part 2 line) && are_bytes (last_part line)) ≡ true
  unfolding is_readable
  past-numbers = and_right (numbers_readable line) _ e

  pub key-readable : are_bytes (part 1 line) ≡ true
  key-readable = and_left (are_bytes (part 1 line)) _ past-numbers

  past-key : are_bytes (part 2 line) && are_bytes (last_part line) ≡ true
  past-key = and_right (are_bytes (part 1 line)) _ past-numbers

  pub iv-readable : are_bytes (part 2 line) ≡ true
  iv-readable = and_left (are_bytes (part 2 line)) _ past-key

  pub buffer-readable : are_bytes (last_part line) ≡ true
  buffer-readable = and_right (are_bytes (part 2 line)) _ past-key

module _ {line : List ℕ} (a : Accepted line) where
  abbrev case : Case
  case = case_of line

  pub passed : KeyedPassed (length case.key) (length case.iv) (length case.buffer) case.start case.bits case.skip
  passed = keyed-passed _ _ _ _ _ _ _ a.passed

  key-size : 24 ≡ length (part 1 line) / 2
  unfolding case_of
  key-size = sym passed.key-24 ∙ length-bytes (part 1 line)

  iv-size : 10 ≡ length (part 2 line) / 2
  unfolding case_of
  iv-size = sym passed.iv-10 ∙ length-bytes (part 2 line)

  -- each part has as many bytes as its array takes
  pub key_bytes : (are_bytes (part 1 line) ≡ true) × (24 ≡ length (part 1 line) / 2)
  key_bytes = (key-readable line a.readable, key-size)

  pub iv_bytes : (are_bytes (part 2 line) ≡ true) × (10 ≡ length (part 2 line) / 2)
  iv_bytes = (iv-readable line a.readable, iv-size)

  pub buffer-small : length (last_part line) / 2 ≤ longest_buffer
  unfolding case_of
  buffer-small = omega (arith, passed.span.small, length-bytes (last_part line))
