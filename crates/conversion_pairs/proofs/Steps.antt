-- One pair more, one number more, and the first pair. Assumes nothing.
use Rattle.std.proofs.Common.{◌≡◌, ℕ, zero, suc, ◌+◌, Bool, ◌||◌, cond, nat_eq, nat_lt, List, refl, arith}
use Rattle.std.specs.List.{list_any, position, position_or_len, range_with_len}
use Rattle.std.proofs.lemmas.List.FromFn.{length-range_with_len}
use Rattle.slots.specs.declared.Slot.{Slot}
use Rattle.conversion_pairs.specs.Answers.{place_of}
use Rattle.conversion_pairs.specs.Pairs.{number_on, named_on, first_from, left_out, leaves_out}

any_more : (p : ℕ → Bool) (a n : ℕ) → list_any p (range_with_len a (suc n)) ≡ list_any p (range_with_len a n) || p (a + n)
any_more p a zero = grind arith
any_more p a (suc n) = grind (arith, any_more p (a + 1) n)

pub any_named : (side : ℕ) (pairs : List ℕ) (n count : ℕ) → list_any (λ i. nat_eq (number_on side pairs i) n) (range_with_len 0 count) ≡ named_on side pairs n count
unfolding named_on
any_named side pairs n zero = refl
any_named side pairs n (suc i) = grind (arith, any_more (λ i. nat_eq (number_on side pairs i) n) 0 i, any_named side pairs n i)

pub any_left_out : (after : List Slot) (pairs : List ℕ) (n : ℕ) → list_any (left_out after pairs) (range_with_len 1 n) ≡ leaves_out after pairs n
unfolding leaves_out
any_left_out after pairs zero = refl
any_left_out after pairs (suc n) = grind (arith, any_more (left_out after pairs) 1 n, any_left_out after pairs n)

first_place : (test : ℕ → Bool) (i n : ℕ) → first_from test i n ≡ cond (nat_lt (position_or_len test (range_with_len i n)) n) (suc (i + position_or_len test (range_with_len i n))) 0
unfolding first_from
first_place test i zero = refl
first_place test i (suc n) = grind (arith, first_place test (i + 1) n)

pub first_placed : (test : ℕ → Bool) (n : ℕ) → place_of (position test (range_with_len 0 n)) ≡ first_from test 0 n
first_placed test n = grind (arith, first_place test 0 n, length-range_with_len)
