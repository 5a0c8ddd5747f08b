-- The names that a form has: the ten known ones or some of them, each once. Assumes nothing.
use mathlib.Core.Bool.{Bool, true, false, false≢true}
use mathlib.Core.Logic.{⊎_elim}
use mathlib.Core.List.{◌∷◌}
use mathlib.Core.Path.{◌≡◌, refl, sym, ◌∙◌}
use Prim.Native.Nat.{ℕ, suc, ◌+◌, ◌≤◌, ◌<◌, zero-le}
use native.Mathlib.Omega.{arith}
use lib.Dec.{ltb}
use borrow.Author.Tests.{ne_eqb, le-ltb}
use Rattle.laws.specs.Choice.{pick}
use Rattle.laws.proofs.Cases.{lt-or-le}
use Rattle.laws.proofs.Tests.{holds, agree}
use Rattle.line_names.specs.Names.{name_count, form_name, mcc_name, mnc_name, has_name}
use Rattle.mends.specs.Damage.{names_from, names_of_form}
use Rattle.mends.proofs.Bytes.{every}
use Rattle.mends.proofs.Orders.{count_of}

-- form 2 has every known name, and neither form any other

pub has_all : (k : ℕ) → k < name_count → has_name true k ≡ true
unfolding has_name
has_all k h = holds (λ k. has_name true k) 0 name_count tt k zero-le h

has-no-other : (two : Bool) (k : ℕ) → name_count ≤ k → has_name two k ≡ false
unfolding has_name
has-no-other two k h =
    rw (ne_eqb k form_name (λ z. omega arith), ne_eqb k mcc_name (λ z. omega arith), ne_eqb k mnc_name (λ z. omega arith), le-ltb k name_count h)

pub names-first : (k n : ℕ) → k < name_count → names_from true k (suc n) ≡ k ∷ names_from true (k + 1) n
unfolding names_from
names-first k n h = rw (has_all k h)

pub has-known : (two : Bool) (k : ℕ) → has_name two k ≡ true → k < name_count
has-known two k e = ⊎_elim (λ h. h) (λ h. absurd (false≢true (sym (has-no-other two k h) ∙ e))) (lt-or-le k name_count)

pub all_named : (two : Bool) → every (has_name two) (names_of_form two) ≡ true
unfolding names_from has_name
all_named true = refl
all_named false = refl

pub named-once : (two : Bool) (k : ℕ) → k < name_count + 1 → count_of k (names_of_form two) ≡ pick (has_name two k) 1 0
unfolding names_from has_name
named-once true k h = agree (λ k. count_of k (names_of_form true)) (λ k. pick (has_name true k) 1 0) 0 (name_count + 1) tt k zero-le h
named-once false k h = agree (λ k. count_of k (names_of_form false)) (λ k. pick (has_name false k) 1 0) 0 (name_count + 1) tt k zero-le h

pub form-named : (two : Bool) → ltb 0 (pick (has_name two 0) 1 0) ≡ two
unfolding has_name
form-named true = refl
form-named false = refl

pub number-wanted : (two : Bool) → has_name two 1 ≡ true
unfolding has_name
number-wanted true = refl
number-wanted false = refl
