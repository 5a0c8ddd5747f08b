-- Upper-case hex digits in a text, and what a name says of zeros. Assumes nothing.
use mathlib.Core.Path.{◌≡◌, refl, ap}
use mathlib.Core.Bool.{Bool, ◌||◌}
use mathlib.Core.List.{List, [], ◌∷◌}
use Prim.Native.Nat.{ℕ}
use Rattle.std.specs.Prelude.{Option, None, Some, MatchOption, IsTrue}
use Rattle.std.specs.List.{list_any}
use Rattle.std.proofs.Common.{rules}
use Rattle.line_names.specs.declared.Name.{Name}
use Rattle.line_names.specs.Names.{is_decimal, number_of, number_found}
use Rattle.line_faults.specs.Faults.{is_upper_hex, any_upper_hex}

-- what `any` answers
pub upper-any : (s : List ℕ) → list_any is_upper_hex s ≡ any_upper_hex s
unfolding any_upper_hex
upper-any [] = refl
upper-any (b ∷ s) = ap (λ (t : Bool). is_upper_hex b || t) (upper-any s)

-- what `is_none_or` answers: under no name a value counts as a number
pub decimal-found : (P : Name → Type 0) (name : Option Name) (t : Bool) → MatchOption name (IsTrue t) P → ((k : Name) → P k → t ≡ is_decimal (number_of k)) → t ≡ is_decimal (number_found name)
unfolding is_decimal
decimal-found P None t h f = search rules
decimal-found P (Some k) t h f = f k h
