-- The rule of the words: the first six are the key's; word i + 6 is word i xor what is made of word i + 5. Assumes nothing.
use mathlib.Core.Path.{◌≡◌, refl, sym, ap, ◌∙◌}
use mathlib.Core.List.{List}
use Prim.Native.Nat.{ℕ, ◌+◌, ◌-◌, ◌*◌, ◌/◌, ◌%◌, ◌<◌, ◌≤◌}
use native.Mathlib.Nat.{add-zero, zero-add}
use native.Mathlib.Omega.{arith}
use borrow.Author.Tests.{eq-eqb, ne_eqb}
use lib.Bits.{bit_xor, xor_comm}
use lib.Dec.{lit<, lit≤}
use lib.ListN.{length, get_or, set}
use lib.Seq.{get_or-set_same}
use Rattle.laws.specs.Lists.{Filled}
use Rattle.laws.proofs.Lists.{length-tabulate, get_d_tabulate, fill-at, fill-to}
use Rattle.laws.proofs.Xor.{xor_assoc}
use Rattle.laws.proofs.Windows.{window-at, sequence-first, sequence-next}
use Rattle.schedule.specs.Schedule.{rot_byte, sub_byte, round_constant, packed, carried, key_word}

pub word_first : (k : List ℕ) (i : ℕ) → i < 6 → packed k i ≡ key_word k i
unfolding key_word
word_first k i h = sym (sequence-first _ _ 5 (length-tabulate (packed k) 0 6) i h ∙ get_d_tabulate (packed k) 0 6 i 0 h ∙ ap (packed k) (zero-add i))

pub word_next : (k : List ℕ) (i : ℕ) → key_word k (i + 6) ≡ bit_xor (key_word k i) (carried (i + 6) (key_word k (i + 5)))
unfolding key_word
word_next k i =
    sequence-next _ _ 5 (length-tabulate (packed k) 0 6) i
    ∙ rw (window-at _ _ 5 (length-tabulate (packed k) 0 6) i 0 (lit< tt), window-at _ _ 5 (length-tabulate (packed k) 0 6) i 5 (lit< tt), add-zero)

-- a word whose number six divides, and any other
abbrev turn : ℕ → ℕ → ℕ
turn k x = bit_xor (sub_byte (rot_byte x)) (round_constant (k - 1) * 16777216)

next-turned : (key : List ℕ) (k : ℕ) → 1 ≤ k → bit_xor (key_word key (6 * k - 6)) (turn k (key_word key (6 * k - 1))) ≡ key_word key (6 * k)
unfolding carried
next-turned key k h =
    let p : 6 * k - 6 + 6 ≡ 6 * k = omega arith in
    let q : 6 * k - 6 + 5 ≡ 6 * k - 1 = omega arith in
    let z : 6 * k % 6 ≡ 0 = omega arith in
    let d : 6 * k / 6 ≡ k = omega arith in
    sym (ap (key_word key) (sym p) ∙ word_next key (6 * k - 6) ∙ rw (p, q, eq-eqb (6 * k % 6) 0 z, d))

next-plain : (key : List ℕ) (i : ℕ) → 6 ≤ i → (i % 6 ≡ 0 → ⊥) → bit_xor (key_word key (i - 6)) (key_word key (i - 1)) ≡ key_word key i
unfolding carried
next-plain key i h ne =
    let p : i - 6 + 6 ≡ i = omega arith in
    let q : i - 6 + 5 ≡ i - 1 = omega arith in
    sym (ap (key_word key) (sym p) ∙ word_next key (i - 6) ∙ rw (p, q, ne_eqb (i % 6) 0 ne))

-- six words more: from words below 6 k that are right, the code's six stores
module _ (key w : List ℕ) (k : ℕ) (g : Filled (key_word key) 0 120 w (6 * k)) (l : 1 ≤ k) (u : k < 20) where
  old : (j : ℕ) → 1 ≤ j → j ≤ 6 → get_or w (6 * k - j) 0 ≡ key_word key (6 * k - j)
  old j p q = g.entries (6 * k - j) (omega arith)

  -- word 6 k + j from word 6 k + j - 6, of the old ones, and the word before it, made just now
  step : (j i x : ℕ) → 1 ≤ j → j ≤ 5 → i ≡ 6 - j → x ≡ key_word key (6 * k + (j - 1)) → bit_xor (get_or w (6 * k - i) 0) x ≡ key_word key (6 * k + j)
  step j i x p q e h =
      let a : 6 * k - i ≡ 6 * k + j - 6 = omega arith in
      let b : 6 * k + (j - 1) ≡ 6 * k + j - 1 = omega arith in
      (λ z. bit_xor (old i (omega arith) (omega arith) z) (h z))
      ∙ (λ z. bit_xor (key_word key (a z)) (key_word key (b z)))
      ∙ next-plain key (6 * k + j) (omega arith) (λ z. omega arith)

  pub six-more : (a b c d e f : ℕ) → a ≡ bit_xor (get_or w (6 * k - 6) 0) (turn k (get_or w (6 * k - 1) 0)) → b ≡ bit_xor (get_or w (6 * k - 5) 0) a → c ≡ bit_xor (get_or w (6 * k - 4) 0) b
      → d ≡ bit_xor (get_or w (6 * k - 3) 0) c → e ≡ bit_xor (get_or w (6 * k - 2) 0) d → f ≡ bit_xor (get_or w (6 * k - 1) 0) e
      → Filled (key_word key) 0 120 (set (set (set (set (set (set w (6 * k) a) (6 * k + 1) b) (6 * k + 2) c) (6 * k + 3) d) (6 * k + 4) e) (6 * k + 5) f) (6 * k + 6)
  six-more a b c d e f pa pb pc pd pe pf =
      let qa : a ≡ key_word key (6 * k) = pa ∙ (λ z. bit_xor (old 6 (lit≤ tt) (lit≤ tt) z) (turn k (old 1 (lit≤ tt) (lit≤ tt) z))) ∙ next-turned key k l in
      let qb : b ≡ key_word key (6 * k + 1) = pb ∙ step 1 5 a (lit≤ tt) (lit≤ tt) refl (qa ∙ ap (key_word key) (sym (add-zero (6 * k)))) in
      let qc : c ≡ key_word key (6 * k + 2) = pc ∙ step 2 4 b (lit≤ tt) (lit≤ tt) refl qb in
      let qd : d ≡ key_word key (6 * k + 3) = pd ∙ step 3 3 c (lit≤ tt) (lit≤ tt) refl qc in
      let qe : e ≡ key_word key (6 * k + 4) = pe ∙ step 4 2 d (lit≤ tt) (lit≤ tt) refl qd in
      let qf : f ≡ key_word key (6 * k + 5) = pf ∙ step 5 1 e (lit≤ tt) (lit≤ tt) refl qe in
      fill-to
      (fill-at
      (fill-at
      (fill-at
      (fill-at
      (fill-at (fill-at g (omega arith) (6 * k) refl a qa) (omega arith) (6 * k + 1) (omega arith) b qb)
      (omega arith) (6 * k + 2) (omega arith) c qc)
      (omega arith) (6 * k + 3) (omega arith) d qd)
      (omega arith) (6 * k + 4) (omega arith) e qe)
      (omega arith) (6 * k + 5) (omega arith) f qf)
      (omega arith)

-- the code's sums, in the order of the rule
pub into : (p x a : ℕ) → bit_xor (bit_xor p x) a ≡ bit_xor x (bit_xor p a)
into p x a = ap (λ (y : ℕ). bit_xor y a) (xor_comm p x) ∙ xor_assoc x p a

pub turn_last : (x r t : ℕ) → bit_xor (bit_xor x r) t ≡ bit_xor x (bit_xor t r)
turn_last x r t = xor_assoc x r t ∙ ap (bit_xor x) (xor_comm r t)

-- a word that was stored
pub stored : (w : List ℕ) (i v : ℕ) → i < length w → v ≡ get_or (set w i v) i 0
stored w i v h = sym (get_or-set_same w i v 0 h)

-- a word is its bytes
split : (x : ℕ) → x % 16777216 ≡ x / 65536 % 256 * 65536 + x / 256 % 256 * 256 + x % 256
split x =
    let p : x / 65536 ≡ x / 256 / 256 = omega arith in
    let q : x / 16777216 ≡ x / 65536 / 256 = omega arith in
    omega arith

whole : (x : ℕ) → x % 256 ≡ x / 1 % 256
whole x = omega arith

low : (q a b : ℕ) → q ≡ a * 256 + b → b < 256 → q % 256 ≡ b
low q a b e h = omega arith

-- the bytes of a word that is turned by a byte
module _ (x : ℕ) (h : x < 4294967296) where
  turn_is : rot_byte x ≡ x / 65536 % 256 * 16777216 + x / 256 % 256 * 65536 + x % 256 * 256 + x / 16777216
  unfolding rot_byte
  turn_is = omega (arith, split x)

  pub turn-0 : rot_byte x / 16777216 ≡ x / 65536 % 256
  turn-0 = let e = turn_is in omega arith

  pub turn-1 : rot_byte x / 65536 % 256 ≡ x / 256 % 256
  turn-1 =
      let e = turn_is in
      let f : rot_byte x / 65536 ≡ x / 65536 % 256 * 256 + x / 256 % 256 = omega arith in
      low _ (x / 65536 % 256) (x / 256 % 256) f (omega arith)

  pub turn-2 : rot_byte x / 256 % 256 ≡ x / 1 % 256
  turn-2 =
      let e = turn_is in
      let f : rot_byte x / 256 ≡ x / 65536 % 256 * 65536 + x / 256 % 256 * 256 + x % 256 = omega arith in
      low _ (x / 65536 % 256 * 256 + x / 256 % 256) (x % 256) (f ∙ omega arith) (omega arith) ∙ whole x

  pub turn-3 : rot_byte x % 256 ≡ x / 16777216 % 256
  turn-3 = let e = turn_is in omega arith
