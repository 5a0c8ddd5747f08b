-- Under one key, two initial values that differ give mode values that differ where the row rule of f holds, as it does under TEA5 and TEA6;
-- and where no value stands twice in f, as under all three, the mode key or the mode value differs. Assumes nothing.
use mathlib.Core.Path.{◌≡◌, sym, ap, ◌∙◌}
use mathlib.Core.List.{List}
use Prim.Native.Nat.{ℕ, ◌+◌, ◌*◌, ◌/◌, ◌%◌, ◌<◌, zero-le}
use native.Mathlib.Nat.{zero-add}
use native.Mathlib.Omega.{arith}
use borrow.Author.Tests.{ltb-true}
use lib.Dec.{T, eqb, ltb}
use lib.ListN.{length, get_or}
use lib.Seq.{ext_get_or}
use Rattle.laws.specs.Lists.{tabulate}
use Rattle.laws.proofs.Cases.{pick-cases}
use Rattle.laws.proofs.Lists.{get_d_tabulate}
use Rattle.laws.proofs.Tests.{all, holds}
use Rattle.algorithms.specs.Combining.{f_tea5, f_tea6, f_tea7}
use Rattle.algorithms.specs.Algorithm.{combining}
use Rattle.tea.specs.Mixing.{mixed_value}
use Rattle.tea.specs.Mode.{combined, first_of, second_of, mode_key, mode_value, mode_by, mode_of}
use Rattle.algorithms.proofs.Rules.{RowRule, NoValueTwice, tea5-row-rule, tea6-row-rule, tea5-no-value-twice, tea6-no-value-twice, tea7-no-value-twice}
use Rattle.repeats.specs.Repeats.{Bytes, InitialValue}
use Rattle.repeats.proofs.MixedValues.{mixed-apart, length-mixed, mixed-small}

-- halves of a mode value are halves of f's entries
low_halves : (a b c d : ℕ) → a % 16 * 16 + b % 16 ≡ c % 16 * 16 + d % 16 → (a % 16 ≡ c % 16) × (b % 16 ≡ d % 16)
low_halves a b c d e = (omega arith, omega arith)

-- where the row rule of f holds, the mode value alone tells the mixed value
module _ (f : List ℕ) (rule : RowRule f) (ck : List ℕ) (small-key : Bytes ck) where
  half-apart : (r c d : ℕ) → r < 16 → c < 16 → d < 16 → combined f r c % 16 ≡ combined f r d % 16 → c ≡ d
  half-apart r c d hr hc hd e =
      let p : r * 16 + c ≡ 16 * r + c = omega arith in
      let q : r * 16 + d ≡ 16 * r + d = omega arith in
      rule.low r c d hr hc hd (ap (λ (i : ℕ). get_or f i 0 % 16) (sym p) ∙ e ∙ ap (λ (i : ℕ). get_or f i 0 % 16) q)

  value-apart : (v w : List ℕ) → length v ≡ 24 → length w ≡ 24 → ((k : ℕ) → k < 24 → get_or v k 0 < 256) → ((k : ℕ) → k < 24 → get_or w k 0 < 256)
      → mode_value f ck v ≡ mode_value f ck w → v ≡ w
  unfolding mode_value
  value-apart v w lv lw sv sw e =
      ext_get_or 0 v w (lv ∙ sym lw)
      (λ k l.
      let h : k < 24 = omega arith in
      let entry : (u : List ℕ) → get_or (tabulate (λ j. first_of f ck u j % 16 * 16 + second_of f ck u j % 16) 0 24) k 0 ≡ first_of f ck u k % 16 * 16 + second_of f ck u k % 16 =
      λ u. get_d_tabulate (λ j. first_of f ck u j % 16 * 16 + second_of f ck u j % 16) 0 24 k 0 h ∙ ap (λ (j : ℕ). first_of f ck u j % 16 * 16 + second_of f ck u j % 16) (zero-add k) in
      let both = low_halves _ _ _ _ (sym (entry v) ∙ ap (λ (u : List ℕ). get_or u k 0) e ∙ entry w) in
      let a = sv k h in
      let b = sw k h in
      let c = small-key k in
      let high : get_or v k 0 / 16 ≡ get_or w k 0 / 16 = half-apart (get_or ck k 0 / 16) _ _ (omega arith) (omega arith) (omega arith) both.0 in
      let low : get_or v k 0 % 16 ≡ get_or w k 0 % 16 = half-apart (get_or ck k 0 % 16) _ _ (omega arith) (omega arith) (omega arith) both.1 in
      omega arith)

  pub mode-apart : (x y : List ℕ) → InitialValue x → InitialValue y → mode_value f ck (mixed_value x) ≡ mode_value f ck (mixed_value y) → x ≡ y
  mode-apart x y p q e =
      mixed-apart x y p.long q.long
      (value-apart (mixed_value x) (mixed_value y) (length-mixed x) (length-mixed y) (mixed-small x p.long p.bytes) (mixed-small y q.long q.bytes) e)

pub tea5-values-apart : (ck x y : List ℕ) → Bytes ck → InitialValue x → InitialValue y → (mode_of 5 ck x).value ≡ (mode_of 5 ck y).value → x ≡ y
unfolding mode_of mode_by combining
tea5-values-apart ck x y k = mode-apart f_tea5 tea5-row-rule ck k x y

pub tea6-values-apart : (ck x y : List ℕ) → Bytes ck → InitialValue x → InitialValue y → (mode_of 6 ck x).value ≡ (mode_of 6 ck y).value → x ≡ y
unfolding mode_of mode_by combining
tea6-values-apart ck x y k = mode-apart f_tea6 tea6-row-rule ck k x y

-- a table that passes two tests: its 256 entries are bytes, and no value stands twice
pub record Telling (f : List ℕ) : Type 0 where
  pub small : (k : ℕ) → k < 256 → get_or f k 0 < 256
  pub once : NoValueTwice f

telling : (f : List ℕ) → T (all (λ k. ltb (get_or f k 0) 256) 0 256) → NoValueTwice f → Telling f
telling f t n = record { small = λ k h. ltb-true (get_or f k 0) 256 (holds (λ k. ltb (get_or f k 0) 256) 0 256 t k zero-le h); once = n }

tea5-telling : Telling f_tea5
unfolding f_tea5
tea5-telling = telling f_tea5 tt tea5-no-value-twice

tea6-telling : Telling f_tea6
unfolding f_tea6
tea6-telling = telling f_tea6 tt tea6-no-value-twice

tea7-telling : Telling f_tea7
unfolding f_tea7
tea7-telling = telling f_tea7 tt tea7-no-value-twice

pub all-telling : (algorithm : ℕ) → Telling (combining algorithm)
unfolding combining
all-telling algorithm =
    pick-cases (λ f. Telling f) (eqb algorithm 5) (λ e. tea5-telling) (λ e. pick-cases (λ f. Telling f) (eqb algorithm 6) (λ e. tea6-telling) (λ e. tea7-telling))

-- two bytes by their halves, as they stand in a byte of the mode key and one of the mode value
both_halves : (a b c d : ℕ) → a < 256 → b < 256 → c < 256 → d < 256 → a / 16 * 16 + b / 16 ≡ c / 16 * 16 + d / 16 → a % 16 * 16 + b % 16 ≡ c % 16 * 16 + d % 16 → (a ≡ c) × (b ≡ d)
both_halves a b c d ha hb hc hd e f =
    let p : a / 16 ≡ c / 16 = omega arith in
    let q : b / 16 ≡ d / 16 = omega arith in
    let r : a % 16 ≡ c % 16 = omega arith in
    let s : b % 16 ≡ d % 16 = omega arith in
    (omega arith, omega arith)

module _ (f : List ℕ) (good : Telling f) (ck : List ℕ) (small-key : Bytes ck) where
  entry-apart : (r c d : ℕ) → r < 16 → c < 16 → d < 16 → combined f r c ≡ combined f r d → c ≡ d
  entry-apart r c d hr hc hd e = let z = good.once (r * 16 + c) (r * 16 + d) (omega arith) (omega arith) e in omega arith

  pub entry-small : (r c : ℕ) → r < 16 → c < 16 → combined f r c < 256
  entry-small r c hr hc = good.small (r * 16 + c) (omega arith)

  pair-told : (v w : List ℕ) → length v ≡ 24 → length w ≡ 24 → ((k : ℕ) → k < 24 → get_or v k 0 < 256) → ((k : ℕ) → k < 24 → get_or w k 0 < 256)
      → mode_key f ck v ≡ mode_key f ck w → mode_value f ck v ≡ mode_value f ck w → v ≡ w
  unfolding mode_key mode_value
  pair-told v w lv lw sv sw e g =
      ext_get_or 0 v w (lv ∙ sym lw)
      (λ k l.
      let h : k < 24 = omega arith in
      let a = sv k h in
      let b = sw k h in
      let c = small-key k in
      let keys : first_of f ck v k / 16 * 16 + second_of f ck v k / 16 ≡ first_of f ck w k / 16 * 16 + second_of f ck w k / 16 =
      sym (at (λ u j. first_of f ck u j / 16 * 16 + second_of f ck u j / 16) v k h) ∙ ap (λ (u : List ℕ). get_or u k 0) e ∙ at (λ u j. first_of f ck u j / 16 * 16 + second_of f ck u j / 16) w k h in
      let values : first_of f ck v k % 16 * 16 + second_of f ck v k % 16 ≡ first_of f ck w k % 16 * 16 + second_of f ck w k % 16 =
      sym (at (λ u j. first_of f ck u j % 16 * 16 + second_of f ck u j % 16) v k h) ∙ ap (λ (u : List ℕ). get_or u k 0) g ∙ at (λ u j. first_of f ck u j % 16 * 16 + second_of f ck u j % 16) w k h in
      let both =
      both_halves (first_of f ck v k) (second_of f ck v k) (first_of f ck w k) (second_of f ck w k) (entry-small _ _ (omega arith) (omega arith)) (entry-small _ _ (omega arith) (omega arith))
      (entry-small _ _ (omega arith) (omega arith)) (entry-small _ _ (omega arith) (omega arith)) keys values in
      let high : get_or v k 0 / 16 ≡ get_or w k 0 / 16 = entry-apart (get_or ck k 0 / 16) _ _ (omega arith) (omega arith) (omega arith) both.0 in
      let low : get_or v k 0 % 16 ≡ get_or w k 0 % 16 = entry-apart (get_or ck k 0 % 16) _ _ (omega arith) (omega arith) (omega arith) both.1 in
      omega arith)
    where
      at : (byte : List ℕ → ℕ → ℕ) (u : List ℕ) (k : ℕ) → k < 24 → get_or (tabulate (byte u) 0 24) k 0 ≡ byte u k
      at byte u k h = get_d_tabulate (byte u) 0 24 k 0 h ∙ ap (byte u) (zero-add k)

-- under every algorithm, the mode key and the mode value together tell the initial value
pub pair-apart : (algorithm : ℕ) (ck x y : List ℕ) → Bytes ck → InitialValue x → InitialValue y
    → (mode_of algorithm ck x).key ≡ (mode_of algorithm ck y).key → (mode_of algorithm ck x).value ≡ (mode_of algorithm ck y).value → x ≡ y
unfolding mode_of mode_by
pair-apart algorithm ck x y k p q e g =
    mixed-apart x y p.long q.long
    (pair-told (combining algorithm) (all-telling algorithm) ck k (mixed_value x) (mixed_value y) (length-mixed x) (length-mixed y)
    (mixed-small x p.long p.bytes) (mixed-small y q.long q.bytes) e g)
