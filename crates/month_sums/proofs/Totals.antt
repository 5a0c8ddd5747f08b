-- The sheet adds up: the slots' figures to the total, calls and counts to the lines; and each share is in lowest terms. Assumes nothing.
use mathlib.Core.Bool.{Bool, true, false}
use mathlib.Core.Logic.{⊎_elim}
use mathlib.Core.List.{List, [], ◌∷◌}
use mathlib.Core.Path.{◌≡◌, refl, sym, ap, ◌∙◌}
use Prim.Native.Nat.{ℕ, zero, suc, ◌+◌, ◌-◌, ◌≤◌, ◌<◌}
use native.Mathlib.Omega.{arith}
use lib.Dec.{eqb}
use lib.ListN.{length}
use borrow.Author.Tests.{eq-eqb, ne_eqb}
use Rattle.laws.specs.Choice.{pick}
use Rattle.laws.proofs.Cases.{eq-or-ne, lt-or-le}
use Rattle.shares.specs.Share.{share_of, LowestShare}
use Rattle.shares.proofs.Lowest.{share-lowest}
use Rattle.logged_calls.specs.declared.Call.{Call}
use Rattle.logged_calls.specs.Log.{GoodCall, AllGood, none, more}
use Rattle.logged_calls.specs.Figures.{row_of, total_row}
use Rattle.logged_calls.proofs.Sound.{accepted-ranges, refused-code}
use Rattle.month_sums.specs.Sums.{sum_of_lines, in_row, sums_over, sum_to}
use Rattle.month_sums.proofs.Figures.{hit, hit_same, hit_other, sum_same, sum_ones, row_low, in-accepted, in-refused}

-- sums to n

to_same : (f g : ℕ → ℕ) (n : ℕ) → ((k : ℕ) → k < n → f k ≡ g k) → sum_to f n ≡ sum_to g n
unfolding sum_to
to_same f g zero e = refl
to_same f g (suc n) e = λ i. to_same f g n (λ k h. e k (omega arith)) i + e n (omega arith) i

to_both : (f g : ℕ → ℕ) (n : ℕ) → sum_to (λ k. f k + g k) n ≡ sum_to f n + sum_to g n
unfolding sum_to
to_both f g zero = refl
to_both f g (suc n) = omega (arith, to_both f g n)

to_none : (n : ℕ) → sum_to (λ k. 0) n ≡ 0
unfolding sum_to
to_none zero = refl
to_none (suc n) = omega (arith, to_none n)

-- none of n places is r, or one is
to-before : (r v n : ℕ) → n ≤ r → sum_to (λ k. hit k r v) n ≡ 0
unfolding sum_to
to-before r v zero h = refl
to-before r v (suc n) h = omega (arith, to-before r v n (omega arith), hit_other n r v (λ z. omega arith))

to-hit : (r v n : ℕ) → r < n → sum_to (λ k. hit k r v) n ≡ v
unfolding sum_to
to-hit r v zero h = absurd (omega arith)
to-hit r v (suc n) h =
    ⊎_elim (λ e. omega (arith, to-before r v n (omega arith), ap (λ (k : ℕ). hit k r v) e ∙ hit_same r v))
    (λ d. omega (arith, to-hit r v n (least d), hit_other n r v d)) (eq-or-ne n r)
  where
    least : (n ≡ r → ⊥) → r < n
    least d = ⊎_elim (λ l. l) (λ l. absurd (d (omega arith))) (lt-or-le r n)

to_part : (f : ℕ → ℕ) (r n : ℕ) → r < n → f r ≤ sum_to f n
unfolding sum_to
to_part f r zero h = absurd (omega arith)
to_part f r (suc n) h =
    ⊎_elim (λ e. omega (arith, ap f e)) (λ d. ⊎_elim (λ l. omega (arith, to_part f r n l)) (λ l. absurd (d (omega arith))) (lt-or-le r n)) (eq-or-ne n r)

-- sums over lines, and to n, in either order
swapped : (g : ℕ → Call → ℕ) (n : ℕ) (cs : List Call) → sum_to (λ k. sum_of_lines (g k) cs) n ≡ sum_of_lines (λ c. sum_to (λ k. g k c) n) cs
unfolding sum_of_lines
swapped g n [] = to_none n
swapped g n (c ∷ cs) = to_both (λ k. g k c) (λ k. sum_of_lines (g k) cs) n ∙ ap (λ (x : ℕ). sum_to (λ k. g k c) n + x) (swapped g n cs)

over-both : (f g : Call → ℕ) (cs : List Call) → sum_of_lines (λ c. f c + g c) cs ≡ sum_of_lines f cs + sum_of_lines g cs
unfolding sum_of_lines
over-both f g [] = refl
over-both f g (c ∷ cs) = omega (arith, over-both f g cs)

-- a good line is in one row of the slots where it is accepted, and then in the total's; else in none
one-row : (c : Call) → GoodCall c → (v : ℕ) → sum_to (λ row. pick (in_row row c) v 0) 64 ≡ pick (in_row 64 c) v 0
one-row c g v = ⊎_elim yes no (eq-or-ne c.code 0)
  where
    yes : c.code ≡ 0 → sum_to (λ row. pick (in_row row c) v 0) 64 ≡ pick (in_row 64 c) v 0
    yes z =
        let r = accepted-ranges c g.sound z in
        let l = row_low c.slot c.direction r.slot-high r.direction-high r.slot-low r.direction-low in
        to_same (λ row. pick (in_row row c) v 0) (λ row. hit row (row_of c.slot c.direction) v) 64
        (λ row h. ap (λ (t : Bool). pick t v 0) (in-accepted c row z r ∙ ap (λ (t : Bool). pick t true (eqb row (row_of c.slot c.direction))) (ne_eqb row 64 (λ e. omega arith))))
        ∙ (to-hit (row_of c.slot c.direction) v 64 l ∙ ap (λ (t : Bool). pick t v 0) (sym (in-accepted c 64 z r)))

    no : (c.code ≡ 0 → ⊥) → sum_to (λ row. pick (in_row row c) v 0) 64 ≡ pick (in_row 64 c) v 0
    no n =
        to_same (λ row. pick (in_row row c) v 0) (λ row. 0) 64 (λ row h. ap (λ (t : Bool). pick t v 0) (in-refused c row n))
        ∙ (to_none 64 ∙ ap (λ (t : Bool). pick t v 0) (sym (in-refused c 64 n)))

-- a good line is accepted, or is in one count
one-count : (c : Call) → GoodCall c → pick (in_row 64 c) 1 0 + sum_to (λ i. pick (eqb c.code (i + 1)) 1 0) 27 ≡ 1
one-count c g = ⊎_elim yes no (eq-or-ne c.code 0)
  where
    counts : (i : ℕ) → 1 ≤ c.code → ◌≡◌ {A = ℕ} (pick (eqb c.code (i + 1)) 1 0) (hit i (c.code - 1) 1)
    counts i h =
        ⊎_elim (λ e. rw (eq-eqb c.code (i + 1) e, eq-eqb i (c.code - 1) (omega arith)))
        (λ d. rw (ne_eqb c.code (i + 1) d, ne_eqb i (c.code - 1) (λ z. d (omega arith)))) (eq-or-ne c.code (i + 1))

    yes : c.code ≡ 0 → pick (in_row 64 c) 1 0 + sum_to (λ i. pick (eqb c.code (i + 1)) 1 0) 27 ≡ 1
    yes z =
        let a : ◌≡◌ {A = ℕ} (pick (in_row 64 c) 1 0) 1 = ap {B = ℕ} (λ (t : Bool). pick t 1 0) (in-accepted c 64 z (accepted-ranges c g.sound z)) in
        let b = to_same (λ i. pick (eqb c.code (i + 1)) 1 0) (λ i. 0) 27 (λ i h. ap {B = ℕ} (λ (t : Bool). pick t 1 0) (ne_eqb c.code (i + 1) (λ e. omega arith))) in
        omega (arith, a, b, to_none 27)

    positive : (n : ℕ) → (n ≡ 0 → ⊥) → 1 ≤ n
    positive zero n = absurd (n refl)
    positive (suc k) n = omega arith

    no : (c.code ≡ 0 → ⊥) → pick (in_row 64 c) 1 0 + sum_to (λ i. pick (eqb c.code (i + 1)) 1 0) 27 ≡ 1
    no n =
        let h = positive c.code n in
        let m = refused-code c g.sound n in
        let a : ◌≡◌ {A = ℕ} (pick (in_row 64 c) 1 0) 0 = ap {B = ℕ} (λ (t : Bool). pick t 1 0) (in-refused c 64 n) in
        let b = to_same (λ i. pick (eqb c.code (i + 1)) 1 0) (λ i. hit i (c.code - 1) 1) 27 (λ i l. counts i h) in
        omega (arith, a, b, to-hit (c.code - 1) 1 27 (omega arith))

module _ (cs : List Call) (good : AllGood cs) where
  adds-up : (v : Call → ℕ) → sum_to (λ row. sum_of_lines (λ c. pick (in_row row c) (v c) 0) cs) 64 ≡ sum_of_lines (λ c. pick (in_row 64 c) (v c) 0) cs
  adds-up v =
      swapped (λ row c. pick (in_row row c) (v c) 0) 64 cs
      ∙ sum_same (λ c. sum_to (λ row. pick (in_row row c) (v c) 0) 64) (λ c. pick (in_row 64 c) (v c) 0) cs good (λ c g. one-row c g (v c))

  -- the slots' calls, bits and blocks add up to the totals

  pub calls-add-up : sum_to (sums_over cs).calls 64 ≡ (sums_over cs).calls total_row
  calls-add-up = adds-up (λ c. 1)

  pub bits-add-up : sum_to (sums_over cs).bits 64 ≡ (sums_over cs).bits total_row
  bits-add-up = adds-up (λ c. c.bits)

  pub blocks-add-up : sum_to (sums_over cs).blocks 64 ≡ (sums_over cs).blocks total_row
  blocks-add-up = adds-up (λ c. c.blocks)

  -- calls and counts add up to the lines
  pub lines-add-up : (sums_over cs).calls total_row + sum_to (λ i. (sums_over cs).count (i + 1)) 27 ≡ (sums_over cs).lines
  lines-add-up =
      ap (λ (x : ℕ). (sums_over cs).calls total_row + x) (swapped (λ i c. pick (eqb c.code (i + 1)) 1 0) 27 cs)
      ∙ (sym (over-both (λ c. pick (in_row 64 c) 1 0) (λ c. sum_to (λ i. pick (eqb c.code (i + 1)) 1 0) 27) cs)
      ∙ (sum_same (λ c. pick (in_row 64 c) 1 0 + sum_to (λ i. pick (eqb c.code (i + 1)) 1 0) 27) (λ c. 1) cs good one-count ∙ sum_ones cs))

  -- a row's share times the total is the row's bits, in lowest terms
  pub row-share : (row : ℕ) → row < 64
      → LowestShare ((sums_over cs).bits row) ((sums_over cs).bits total_row) (share_of ((sums_over cs).bits row) ((sums_over cs).bits total_row)).top (share_of ((sums_over cs).bits row) ((sums_over cs).bits total_row)).bottom
  row-share row h = share-lowest ((sums_over cs).bits row) ((sums_over cs).bits total_row) (omega (arith, to_part (sums_over cs).bits row 64 h, bits-add-up))
