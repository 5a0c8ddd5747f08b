-- The plaintext of a block is 32 bytes, and tells the block's number and the mode value. Assumes nothing.
use mathlib.Core.Path.{◌≡◌, sym, ap, subst, ◌∙◌}
use mathlib.Core.Logic.{⊎_elim}
use mathlib.Core.List.{List, ◌++◌}
use Prim.Native.Nat.{ℕ, ◌+◌, ◌-◌, ◌*◌, ◌/◌, ◌%◌, ◌<◌}
use native.Mathlib.Nat.{mod-lt}
use native.Mathlib.Omega.{arith}
use lib.Dec.{eqb, lit<}
use lib.ListN.{length, get_or, length-append, get_or-append, get_or-eq_default}
use lib.Seq.{ext_get_or, get_or-append-add}
use Rattle.laws.specs.Choice.{pick}
use Rattle.laws.proofs.Cases.{lt-or-le, below-eight, pick-cases}
use Rattle.laws.proofs.Lists.{length-tabulate, get_d_tabulate}
use Rattle.words.specs.Words.{join, byte_of}
use Rattle.tea.specs.declared.mode.Mode.{Mode}
use Rattle.algorithms.specs.Algorithm.{combining, digit_of}
use Rattle.tea.specs.Mode.{first_of, second_of, mode_value, mode_by, mode_of}
use Rattle.tea.specs.Mixing.{mixed_value}
use Rattle.tea.specs.Keystream.{tag, plaintext}
use Rattle.both_ways.specs.Block.{Block}
use Rattle.repeats.specs.Repeats.{Bytes}

-- a mode whose value is 24 bytes, and whose digit is a byte
pub record GoodMode (m : Mode) : Type 0 where
  pub long : length m.value ≡ 24
  pub bytes : Bytes m.value
  pub digit : m.digit < 256

tag-bytes : (digit j : ℕ) → digit < 256 → Bytes (tag digit j)
tag-bytes digit j h k =
    ⊎_elim
    (below-eight (λ i. get_or (tag digit j) i 0 < 256) (lit< tt) (lit< tt) (lit< tt) h (mod-lt _ (lit< tt)) (mod-lt _ (lit< tt)) (mod-lt _ (lit< tt)) (mod-lt _ (lit< tt)) k)
    (λ l. subst (λ (x : ℕ). x < 256) (sym (get_or-eq_default (tag digit j) 0 l)) (lit< tt)) (lt-or-le k 8)

pub plaintext-block : {m : Mode} → GoodMode m → (j : ℕ) → Block (plaintext m.value m.digit j)
unfolding plaintext
plaintext-block {m} g j =
    let e : length m.value ≡ 24 = g.long in
    record {
      long = length-append m.value (tag m.digit j) ∙ ap (λ (n : ℕ). n + 8) e;
      bytes =
          λ k.
          ⊎_elim (λ h. subst (λ (x : ℕ). x < 256) (sym (get_or-append m.value (tag m.digit j) 0 k h)) (g.bytes k))
          (λ h.
          let z : length m.value + (k - length m.value) ≡ k = omega arith in
          subst (λ (x : ℕ). x < 256)
          (sym (get_or-append-add m.value (tag m.digit j) (k - length m.value) 0) ∙ ap (λ (i : ℕ). get_or (m.value ++ tag m.digit j) i 0) z)
          (tag-bytes m.digit j g.digit (k - length m.value)))
          (lt-or-le k (length m.value));
    }

-- a number of 32 bits is its four bytes
bytes-tell : (x : ℕ) → x < 4294967296 → x ≡ join (byte_of x 0) (byte_of x 1) (byte_of x 2) (byte_of x 3)
bytes-tell x h =
    let p : x / 65536 ≡ x / 256 / 256 = omega arith in
    let q : x / 16777216 ≡ x / 65536 / 256 = omega arith in
    let t : x / 16777216 % 256 ≡ x / 16777216 = omega arith in
    let u : x / 1 ≡ x = omega arith in
    omega arith

pub number-told : (v : List ℕ) (digit r q : ℕ) → r < 4294967296 → q < 4294967296 → plaintext v digit r ≡ plaintext v digit q → r ≡ q
unfolding plaintext
number-told v digit r q hr hq e =
    bytes-tell r hr
    ∙ (λ i. join (at 4 i) (at 5 i) (at 6 i) (at 7 i))
    ∙ sym (bytes-tell q hq)
  where
    at : (i : ℕ) → get_or (tag digit r) i 0 ≡ get_or (tag digit q) i 0
    at i = sym (get_or-append-add v (tag digit r) i 0) ∙ ap (λ (l : List ℕ). get_or l (length v + i) 0) e ∙ get_or-append-add v (tag digit q) i 0

pub value-told : (v w : List ℕ) (d e r q : ℕ) → length v ≡ 24 → length w ≡ 24 → plaintext v d r ≡ plaintext w e q → v ≡ w
unfolding plaintext
value-told v w d e r q lv lw z =
    ext_get_or 0 v w (lv ∙ sym lw)
    (λ k h.
    let a : length v ≡ 24 = lv in
    let b : length w ≡ 24 = lw in
    sym (get_or-append v (tag d r) 0 k h) ∙ ap (λ (l : List ℕ). get_or l k 0) z ∙ get_or-append w (tag e q) 0 k (omega arith))

-- the mode of any numbers is such a mode

pub length-value : (f ck v : List ℕ) → length (mode_value f ck v) ≡ 24
unfolding mode_value
length-value f ck v = length-tabulate _ 0 24

halves_small : (a b : ℕ) → a % 16 * 16 + b % 16 < 256
halves_small a b = omega arith

value-bytes : (f ck v : List ℕ) → Bytes (mode_value f ck v)
unfolding mode_value
value-bytes f ck v k =
    ⊎_elim
    (λ h. subst (λ (x : ℕ). x < 256) (sym (get_d_tabulate (λ j. first_of f ck v j % 16 * 16 + second_of f ck v j % 16) 0 24 k 0 h)) (halves_small (first_of f ck v (0 + k)) (second_of f ck v (0 + k))))
    (λ h. subst (λ (x : ℕ). x < 256) (sym (get_or-eq_default (mode_value f ck v) 0 (omega (arith, length-value f ck v)))) (lit< tt)) (lt-or-le k 24)

digit-small : (algorithm : ℕ) → digit_of algorithm < 256
unfolding digit_of
digit-small algorithm =
    pick-cases (λ (x : ℕ). x < 256) (eqb algorithm 5) {x = 53} {y = pick (eqb algorithm 6) 54 55} (λ e. lit< tt)
    (λ e. pick-cases (λ (x : ℕ). x < 256) (eqb algorithm 6) {x = 54} {y = 55} (λ e. lit< tt) (λ e. lit< tt))

pub mode-good : (algorithm : ℕ) (ck iv : List ℕ) → GoodMode (mode_of algorithm ck iv)
unfolding mode_of mode_by
mode-good algorithm ck iv =
    record {
      long = length-value (combining algorithm) ck (mixed_value iv);
      bytes = value-bytes (combining algorithm) ck (mixed_value iv);
      digit = digit-small algorithm;
    }
