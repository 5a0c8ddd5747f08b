-- The figures kept while a log is read are the sums over its lines. Assumes nothing.
use mathlib.Core.Bool.{Bool, true, false, ◌&&◌}
use mathlib.Core.Logic.{◌⊎◌, inl, inr, ⊎_elim}
use mathlib.Core.List.{List, [], ◌∷◌, ◌++◌}
use mathlib.Core.Path.{◌≡◌, refl, sym, ap, subst, ◌∙◌}
use Prim.Native.Nat.{ℕ, zero, suc, ◌+◌, ◌-◌, ◌*◌, ◌/◌, ◌%◌, ◌^◌, ◌≤◌, ◌<◌}
use native.Mathlib.Nat.{mod-eq_of_lt}
use native.Mathlib.Omega.{arith}
use lib.Dec.{eqb}
use lib.ListN.{length, get_or, set, get_or-eq_default}
use lib.Seq.{get_or-set_same, get_or-set_other}
use borrow.Author.Tests.{eq-eqb, ne_eqb, eqb-true, eqb-false}
use Rattle.laws.specs.Choice.{pick}
use Rattle.laws.specs.Lists.{tabulate}
use Rattle.laws.proofs.Lists.{length-tabulate, get_d_tabulate}
use Rattle.laws.proofs.Cases.{eq-or-ne, lt-or-le}
use Rattle.logged_calls.specs.declared.Call.{Call}
use Rattle.logged_calls.specs.Log.{GoodCall, AllGood, none, more, is_accepted, is_sound, most_bits, largest_blocks, most_lines}
use Rattle.logged_calls.specs.Figures.{figure_count, row_of, total_row, calls_at, bits_at, blocks_at, lines_at, count_at, plus, into_row, added_accepted, added_refused, added}
use Rattle.call_log.proofs.Sizes.{plus-size, added-size}
use Rattle.logged_calls.proofs.Sound.{Ranges, accepted-ranges, refused-code}
use Rattle.month_sheet.specs.Sheet.{row_text, count_text, total_text, texts, row_in, sheet_text, sums_in}
use Rattle.month_sums.specs.Sums.{sum_of_lines, in_row, sums_over}
use Rattle.month_sums.proofs.Logs.{figures_after}

unfoldable pub zeros : List ℕ
zeros = tabulate (λ k. 0) 0 figure_count

-- n where a place is i, else nothing
abbrev pub hit : ℕ → ℕ → ℕ → ℕ
hit k i n = pick (eqb k i) n 0

pub hit_same : (k n : ℕ) → hit k k n ≡ n
hit_same k n = rw (eq-eqb k k refl)

pub hit_other : (k i n : ℕ) → (k ≡ i → ⊥) → hit k i n ≡ 0
hit_other k i n h = rw (ne_eqb k i h)

-- one sum that does not reach 2 ^ 64
plus-at : (f : List ℕ) (i n k : ℕ) → i < length f → get_or f i 0 + n < 18446744073709551616 → get_or (plus f i n) k 0 ≡ get_or f k 0 + hit k i n
unfolding plus
plus-at f i n k h s = ⊎_elim same other (eq-or-ne k i)
  where
    same : k ≡ i → get_or (set f i ((get_or f i 0 + n) % 2 ^ 64)) k 0 ≡ get_or f k 0 + hit k i n
    same e =
        subst (λ (k : ℕ). get_or (set f i ((get_or f i 0 + n) % 2 ^ 64)) k 0 ≡ get_or f k 0 + hit k i n) (sym e)
        (get_or-set_same f i _ 0 h ∙ (mod-eq_of_lt s ∙ ap (λ (x : ℕ). get_or f i 0 + x) (sym (hit_same i n))))

    other : (k ≡ i → ⊥) → get_or (set f i ((get_or f i 0 + n) % 2 ^ 64)) k 0 ≡ get_or f k 0 + hit k i n
    other e = get_or-set_other f i k _ 0 e ∙ omega (arith, hit_other k i n e)

-- g is f with am k more at each place k, which is at most M
record Adds (f g : List ℕ) (am : ℕ → ℕ) (M : ℕ) : Type 0 where
  size : length g ≡ length f
  at : (k : ℕ) → get_or g k 0 ≡ get_or f k 0 + am k
  most : (k : ℕ) → am k ≤ M

-- no figure is above B
pub Small : List ℕ → ℕ → Type 0
Small f B = (k : ℕ) → get_or f k 0 ≤ B

hit-most : (k i n : ℕ) → hit k i n ≤ n
hit-most k i n = ⊎_elim (λ e. omega (arith, ap (λ (i : ℕ). hit k i n) (sym e) ∙ hit_same k n)) (λ h. omega (arith, hit_other k i n h)) (eq-or-ne k i)

module _ (f : List ℕ) (B : ℕ) (small : Small f B) (size : length f ≡ 223) where
  same : Adds f f (λ k. 0) 0
  same = record { size = refl; at = λ k. omega arith; most = λ k. omega arith }

  then-plus : {g : List ℕ} {am : ℕ → ℕ} {M : ℕ} → Adds f g am M → (i n : ℕ) → i < 223 → n ≤ 8288 → B + M + 8288 < 18446744073709551616
      → Adds f (plus g i n) (λ k. am k + hit k i n) (M + 8288)
  unfolding Small
  then-plus {g} {am} {M} a i n h m s =
      record {
        size = plus-size g i n ∙ a.size;
        at = λ k.
            let p = plus-at g i n k (omega (arith, a.size)) (omega (arith, a.at i, a.most i, small i)) in
            omega (arith, p, a.at k);
        most = λ k. omega (arith, a.most k, hit-most k i n);
      }

-- what a line adds at a place

abbrev pub accepted_amount : ℕ → ℕ → ℕ → ℕ → ℕ
accepted_amount k row b q =
    0 + hit k (3 * row) 1 + hit k (3 * row + 1) b + hit k (3 * row + 2) q + hit k 192 1 + hit k 193 b + hit k 194 q + hit k 195 1

abbrev pub refused_amount : ℕ → ℕ → ℕ
refused_amount k code = 0 + hit k (195 + code) 1 + hit k 195 1

unfoldable pub amount : ℕ → Call → ℕ
amount k c = pick (is_accepted c) (accepted_amount k (row_of c.slot c.direction) c.bits c.blocks) (refused_amount k c.code)

accepted-adds : (f : List ℕ) (B : ℕ) → Small f B → length f ≡ 223 → B + 58016 < 18446744073709551616 → (row b q : ℕ) → row < 64 → b ≤ 8288 → q ≤ 33
    → Adds f (added_accepted f row b q) (λ k. accepted_amount k row b q) 58016
unfolding added_accepted into_row
accepted-adds f B s e l row b q h hb hq =
    then-plus f B s e (then-plus f B s e (then-plus f B s e (then-plus f B s e (then-plus f B s e (then-plus f B s e (then-plus f B s e (same f B s e) (3 * row) 1 (omega arith) (omega arith) (omega arith))
    (3 * row + 1) b (omega arith) hb (omega arith))
    (3 * row + 2) q (omega arith) (omega arith) (omega arith))
    192 1 (omega arith) (omega arith) (omega arith))
    193 b (omega arith) hb (omega arith))
    194 q (omega arith) (omega arith) (omega arith))
    195 1 (omega arith) (omega arith) (omega arith)

refused-adds : (f : List ℕ) (B : ℕ) → Small f B → length f ≡ 223 → B + 58016 < 18446744073709551616 → (code : ℕ) → code ≤ 27
    → Adds f (added_refused f code) (λ k. refused_amount k code) 16576
unfolding added_refused
refused-adds f B s e l code h =
    then-plus f B s e (then-plus f B s e (same f B s e) (195 + code) 1 (omega arith) (omega arith) (omega arith)) 195 1 (omega arith) (omega arith) (omega arith)

-- the row of an accepted call
pub row_low : (s d : ℕ) → s ≤ 32 → d ≤ 2 → 1 ≤ s → 1 ≤ d → row_of s d < 64
row_low s d h k l m = omega arith

record Added (f : List ℕ) (c : Call) : Type 0 where
  at : (k : ℕ) → get_or (added f c) k 0 ≡ get_or f k 0 + amount k c
  most : (k : ℕ) → amount k c ≤ 58016

line-adds : (f : List ℕ) (B : ℕ) → Small f B → length f ≡ 223 → B + 58016 < 18446744073709551616 → (c : Call) → is_sound c ≡ true → Added f c
unfolding added amount
line-adds f B s e l c g = ⊎_elim yes no (eq-or-ne c.code 0)
  where
    yes : c.code ≡ 0 → Added f c
    yes z =
        let r = accepted-ranges c g z in
        let a = accepted-adds f B s e l (row_of c.slot c.direction) c.bits c.blocks (row_low c.slot c.direction r.slot-high r.direction-high r.slot-low r.direction-low) r.bits-high r.blocks-high in
        record { at = λ k. rw (eq-eqb c.code 0 z) (a.at k); most = λ k. rw (eq-eqb c.code 0 z) (a.most k) }

    no : (c.code ≡ 0 → ⊥) → Added f c
    no n =
        let a = refused-adds f B s e l c.code (refused-code c g n) in
        record { at = λ k. rw (ne_eqb c.code 0 n) (a.at k); most = λ k. let m = a.most k in rw (ne_eqb c.code 0 n) (omega arith) }

-- and lines

pub after-at : (cs : List Call) (f : List ℕ) (B : ℕ) → AllGood cs → Small f B → length f ≡ 223 → B + 58016 * length cs < 18446744073709551616
    → (k : ℕ) → get_or (figures_after f cs) k 0 ≡ get_or f k 0 + sum_of_lines (amount k) cs
unfolding figures_after sum_of_lines Small
after-at [] f B none s e l k = omega arith
after-at (c ∷ cs) f B (more g a) s e l k =
    let d = line-adds f B s e (omega arith) c g.sound in
    let r = after-at cs (added f c) (B + 58016) a (λ j. omega (arith, d.at j, d.most j, s j)) (added-size f c ∙ e) (omega arith) k in
    omega (arith, r, d.at k)

-- the same sum, where each good line adds the same
pub sum_same : (f g : Call → ℕ) (cs : List Call) → AllGood cs → ((c : Call) → GoodCall c → f c ≡ g c) → sum_of_lines f cs ≡ sum_of_lines g cs
unfolding sum_of_lines
sum_same f g [] none e = refl
sum_same f g (c ∷ cs) (more h a) e = λ i. e c h i + sum_same f g cs a e i

pub sum_ones : (cs : List Call) → sum_of_lines (λ c. 1) cs ≡ length cs
unfolding sum_of_lines
sum_ones [] = refl
sum_ones (c ∷ cs) = omega (arith, sum_ones cs)

-- what a line adds to a row, to a count and to the number of lines

row_is : (row s d : ℕ) → 1 ≤ s → 1 ≤ d → d ≤ 2 → eqb s (row / 2 + 1) && eqb d (row % 2 + 1) ≡ eqb row (row_of s d)
row_is row s d h k l = ⊎_elim yes no (eq-or-ne row (row_of s d))
  where
    yes : row ≡ row_of s d → eqb s (row / 2 + 1) && eqb d (row % 2 + 1) ≡ eqb row (row_of s d)
    yes e =
        let a : s ≡ row / 2 + 1 = omega arith in
        let b : d ≡ row % 2 + 1 = omega arith in
        (λ i. eq-eqb s (row / 2 + 1) a i && eq-eqb d (row % 2 + 1) b i) ∙ sym (eq-eqb row (row_of s d) e)

    no : (row ≡ row_of s d → ⊥) → eqb s (row / 2 + 1) && eqb d (row % 2 + 1) ≡ eqb row (row_of s d)
    no n = go (eqb s (row / 2 + 1)) (eqb d (row % 2 + 1)) refl refl ∙ sym (ne_eqb row (row_of s d) n)
      where
        go : (t u : Bool) → eqb s (row / 2 + 1) ≡ t → eqb d (row % 2 + 1) ≡ u → eqb s (row / 2 + 1) && eqb d (row % 2 + 1) ≡ false
        go true true p q =
            let a = eqb-true s (row / 2 + 1) p in
            let b = eqb-true d (row % 2 + 1) q in
            absurd (n (omega arith))
        go true false p q = λ i. p i && q i
        go false u p q = λ i. p i && q i

-- at the places of row r: v where the line is in the row
module _ (row r o v k i j : ℕ) (h : row ≤ 64) (l : r < 64) (ek : k ≡ 3 * row + o) (ei : i ≡ 3 * r + o) (ej : j ≡ 192 + o) where
  at_row : hit k i v + hit k j v ≡ pick (pick (eqb row 64) true (eqb row r)) v 0
  at_row = ⊎_elim total (λ n. ⊎_elim (own n) (other n) (eq-or-ne row r)) (eq-or-ne row 64)
    where
      total : row ≡ 64 → hit k i v + hit k j v ≡ pick (pick (eqb row 64) true (eqb row r)) v 0
      total e = rw (eq-eqb row 64 e, eq-eqb k j (omega arith), ne_eqb k i (λ z. omega arith)) (omega arith)

      own : (row ≡ 64 → ⊥) → row ≡ r → hit k i v + hit k j v ≡ pick (pick (eqb row 64) true (eqb row r)) v 0
      own n e = rw (ne_eqb row 64 n, eq-eqb row r e, eq-eqb k i (omega arith), ne_eqb k j (λ z. n (omega arith))) (omega arith)

      other : (row ≡ 64 → ⊥) → (row ≡ r → ⊥) → hit k i v + hit k j v ≡ pick (pick (eqb row 64) true (eqb row r)) v 0
      other n m = rw (ne_eqb row 64 n, ne_eqb row r m, ne_eqb k i (λ z. m (omega arith)), ne_eqb k j (λ z. n (omega arith))) (omega arith)

module _ (row r b q : ℕ) (h : row ≤ 64) (l : r < 64) where
  accepted-calls : accepted_amount (3 * row) r b q ≡ pick (pick (eqb row 64) true (eqb row r)) 1 0
  accepted-calls =
      omega (
        arith,
        at_row row r 0 1 (3 * row) (3 * r) 192 h l (omega arith) (omega arith) (omega arith),
        hit_other (3 * row) (3 * r + 1) b (λ z. omega arith),
        hit_other (3 * row) (3 * r + 2) q (λ z. omega arith),
        hit_other (3 * row) 193 b (λ z. omega arith),
        hit_other (3 * row) 194 q (λ z. omega arith),
        hit_other (3 * row) 195 1 (λ z. omega arith),
      )

  accepted-bits : accepted_amount (3 * row + 1) r b q ≡ pick (pick (eqb row 64) true (eqb row r)) b 0
  accepted-bits =
      omega (
        arith,
        at_row row r 1 b (3 * row + 1) (3 * r + 1) 193 h l (omega arith) (omega arith) (omega arith),
        hit_other (3 * row + 1) (3 * r) 1 (λ z. omega arith),
        hit_other (3 * row + 1) (3 * r + 2) q (λ z. omega arith),
        hit_other (3 * row + 1) 192 1 (λ z. omega arith),
        hit_other (3 * row + 1) 194 q (λ z. omega arith),
        hit_other (3 * row + 1) 195 1 (λ z. omega arith),
      )

  accepted-blocks : accepted_amount (3 * row + 2) r b q ≡ pick (pick (eqb row 64) true (eqb row r)) q 0
  accepted-blocks =
      omega (
        arith,
        at_row row r 2 q (3 * row + 2) (3 * r + 2) 194 h l (omega arith) (omega arith) (omega arith),
        hit_other (3 * row + 2) (3 * r) 1 (λ z. omega arith),
        hit_other (3 * row + 2) (3 * r + 1) b (λ z. omega arith),
        hit_other (3 * row + 2) 192 1 (λ z. omega arith),
        hit_other (3 * row + 2) 193 b (λ z. omega arith),
        hit_other (3 * row + 2) 195 1 (λ z. omega arith),
      )

module _ (c : Call) where
  pub in-accepted : (row : ℕ) → c.code ≡ 0 → Ranges c.slot c.direction c.bits c.blocks
      → in_row row c ≡ pick (eqb row 64) true (eqb row (row_of c.slot c.direction))
  unfolding in_row
  in-accepted row z r =
      rw (eq-eqb c.code 0 z)
      (ap (pick (eqb row 64) true) (row_is row c.slot c.direction r.slot-low r.direction-low r.direction-high))

  pub in-refused : (row : ℕ) → (c.code ≡ 0 → ⊥) → in_row row c ≡ false
  unfolding in_row
  in-refused row n = rw (ne_eqb c.code 0 n) (go (eqb row 64))
    where
      go : (t : Bool) → pick t false false ≡ false
      go true = refl
      go false = refl

  amount-accepted : (k : ℕ) → c.code ≡ 0 → amount k c ≡ accepted_amount k (row_of c.slot c.direction) c.bits c.blocks
  unfolding amount
  amount-accepted k z = rw (eq-eqb c.code 0 z)

  amount-refused : (k : ℕ) → (c.code ≡ 0 → ⊥) → amount k c ≡ refused_amount k c.code
  unfolding amount
  amount-refused k n = rw (ne_eqb c.code 0 n)

-- what a row gains is v of the lines that are in it
in-row : (k row v : ℕ) (c : Call) → GoodCall c → row ≤ 64 → k < 195
    → ((r : ℕ) → r < 64 → accepted_amount k r c.bits c.blocks ≡ pick (pick (eqb row 64) true (eqb row r)) v 0)
    → amount k c ≡ pick (in_row row c) v 0
in-row k row v c g h l acc = ⊎_elim yes no (eq-or-ne c.code 0)
  where
    yes : c.code ≡ 0 → amount k c ≡ pick (in_row row c) v 0
    yes z =
        let r = accepted-ranges c g.sound z in
        amount-accepted c k z
        ∙ (acc (row_of c.slot c.direction) (row_low c.slot c.direction r.slot-high r.direction-high r.slot-low r.direction-low)
        ∙ ap (λ (t : Bool). pick t v 0) (sym (in-accepted c row z r)))

    no : (c.code ≡ 0 → ⊥) → amount k c ≡ pick (in_row row c) v 0
    no n =
        amount-refused c k n
        ∙ (nothing ∙ ap (λ (t : Bool). pick t v 0) (sym (in-refused c row n)))
      where
        nothing : refused_amount k c.code ≡ 0
        nothing = omega (arith, hit_other k (195 + c.code) 1 (λ z. omega arith), hit_other k 195 1 (λ z. omega arith))

-- a count gains 1 of the lines with its code, and the number of lines 1 of each

module _ (c : Call) (g : GoodCall c) where
  gains-count : (n : ℕ) → 1 ≤ n → amount (195 + n) c ≡ pick (eqb c.code n) 1 0
  gains-count n h = ⊎_elim yes no (eq-or-ne c.code 0)
    where
      yes : c.code ≡ 0 → amount (195 + n) c ≡ pick (eqb c.code n) 1 0
      yes z =
          let r = accepted-ranges c g.sound z in
          let row = row_of c.slot c.direction in
          let l = row_low c.slot c.direction r.slot-high r.direction-high r.slot-low r.direction-low in
          amount-accepted c (195 + n) z
          ∙ (omega (
            arith,
            hit_other (195 + n) (3 * row) 1 (λ z. omega arith),
            hit_other (195 + n) (3 * row + 1) c.bits (λ z. omega arith),
            hit_other (195 + n) (3 * row + 2) c.blocks (λ z. omega arith),
            hit_other (195 + n) 192 1 (λ z. omega arith),
            hit_other (195 + n) 193 c.bits (λ z. omega arith),
            hit_other (195 + n) 194 c.blocks (λ z. omega arith),
            hit_other (195 + n) 195 1 (λ z. omega arith),
            ap {B = ℕ} (λ (t : Bool). pick t 1 0) (ne_eqb c.code n (λ e. omega arith)),
          ))

      no : (c.code ≡ 0 → ⊥) → amount (195 + n) c ≡ pick (eqb c.code n) 1 0
      no m =
          amount-refused c (195 + n) m
          ∙ ⊎_elim
          (λ e. omega (arith, ap (λ (j : ℕ). hit (195 + n) (195 + j) 1) e ∙ hit_same (195 + n) 1, hit_other (195 + n) 195 1 (λ z. omega arith), ap {B = ℕ} (λ (t : Bool). pick t 1 0) (eq-eqb c.code n e)))
          (λ d. omega (arith, hit_other (195 + n) (195 + c.code) 1 (λ z. d (omega arith)), hit_other (195 + n) 195 1 (λ z. omega arith), ap {B = ℕ} (λ (t : Bool). pick t 1 0) (ne_eqb c.code n d)))
          (eq-or-ne c.code n)

  gains-line : amount 195 c ≡ 1
  gains-line = ⊎_elim yes no (eq-or-ne c.code 0)
    where
      yes : c.code ≡ 0 → amount 195 c ≡ 1
      yes z =
          let r = accepted-ranges c g.sound z in
          let row = row_of c.slot c.direction in
          let l = row_low c.slot c.direction r.slot-high r.direction-high r.slot-low r.direction-low in
          amount-accepted c 195 z
          ∙ (omega (
            arith,
            hit_other 195 (3 * row) 1 (λ z. omega arith),
            hit_other 195 (3 * row + 1) c.bits (λ z. omega arith),
            hit_other 195 (3 * row + 2) c.blocks (λ z. omega arith),
          ))

      no : (c.code ≡ 0 → ⊥) → amount 195 c ≡ 1
      no n = amount-refused c 195 n ∙ omega (arith, hit_other 195 (195 + c.code) 1 (λ z. n (omega arith)))

-- texts that are the same one by one
texts-same : (f g : ℕ → List ℕ) (n i : ℕ) → ((k : ℕ) → i ≤ k → k < i + n → f k ≡ g k) → texts f i n ≡ texts g i n
unfolding texts
texts-same f g zero i e = refl
texts-same f g (suc n) i e = λ j. e i (omega arith) (omega arith) j ++ texts-same f g n (i + 1) (λ k l h. e k (omega arith) (omega arith)) j

-- each figure is its sum over the lines

zero-at : (k : ℕ) → get_or zeros k 0 ≡ 0
unfolding zeros
zero-at k = ⊎_elim (λ h. get_d_tabulate (λ k. 0) 0 figure_count k 0 h) (λ h. get_or-eq_default (tabulate (λ k. 0) 0 figure_count) 0 (omega (arith, length-tabulate {A = ℕ} (λ k. 0) 0 figure_count))) (lt-or-le k figure_count)

zeros-size : length zeros ≡ 223
unfolding zeros
zeros-size = length-tabulate (λ k. 0) 0 figure_count

module _ (cs : List Call) (good : AllGood cs) (few : length cs ≤ most_lines) where
  figure-is : (k : ℕ) (f : Call → ℕ) → ((c : Call) → GoodCall c → amount k c ≡ f c) → get_or (figures_after zeros cs) k 0 ≡ sum_of_lines f cs
  unfolding Small
  figure-is k f e =
      let a = after-at cs zeros 0 good (λ j. omega (arith, zero-at j)) zeros-size (omega arith) k in
      omega (arith, a, zero-at k, sum_same (amount k) f cs good e)

  pub calls_are : (row : ℕ) → row ≤ 64 → (sums_in (figures_after zeros cs)).calls row ≡ (sums_over cs).calls row
  calls_are row h =
      figure-is (3 * row) (λ c. pick (in_row row c) 1 0) (λ c g. in-row (3 * row) row 1 c g h (omega arith) (λ r l. accepted-calls row r c.bits c.blocks h l))

  pub bits_are : (row : ℕ) → row ≤ 64 → (sums_in (figures_after zeros cs)).bits row ≡ (sums_over cs).bits row
  bits_are row h =
      figure-is (3 * row + 1) (λ c. pick (in_row row c) c.bits 0) (λ c g. in-row (3 * row + 1) row c.bits c g h (omega arith) (λ r l. accepted-bits row r c.bits c.blocks h l))

  pub blocks-are : (row : ℕ) → row ≤ 64 → (sums_in (figures_after zeros cs)).blocks row ≡ (sums_over cs).blocks row
  blocks-are row h =
      figure-is (3 * row + 2) (λ c. pick (in_row row c) c.blocks 0) (λ c g. in-row (3 * row + 2) row c.blocks c g h (omega arith) (λ r l. accepted-blocks row r c.bits c.blocks h l))

  pub count-are : (n : ℕ) → 1 ≤ n → (sums_in (figures_after zeros cs)).count n ≡ (sums_over cs).count n
  count-are n h = figure-is (195 + n) (λ c. pick (eqb c.code n) 1 0) (λ c g. gains-count c g n h)

  pub lines_are : (sums_in (figures_after zeros cs)).lines ≡ (sums_over cs).lines
  lines_are = figure-is 195 (λ c. 1) gains-line ∙ sum_ones cs

  pub sheet-is : sheet_text (sums_in (figures_after zeros cs)) ≡ sheet_text (sums_over cs)
  unfolding sheet_text
  sheet-is =
      let t = total_row in
      λ i.
      texts-same (row_in (sums_in (figures_after zeros cs))) (row_in (sums_over cs)) 64 0
      (λ row l h j. row_text (row / 2 + 1) (row % 2 + 1) (calls_are row (omega arith) j) (bits_are row (omega arith) j) (blocks-are row (omega arith) j) (bits_are 64 (omega arith) j)) i
      ++ (texts-same (λ code. count_text code ((sums_in (figures_after zeros cs)).count code)) (λ code. count_text code ((sums_over cs).count code)) 27 1
      (λ code l h j. count_text code (count-are code l j)) i
      ++ total_text (lines_are i) (calls_are 64 (omega arith) i) (bits_are 64 (omega arith) i) (blocks-are 64 (omega arith) i))
