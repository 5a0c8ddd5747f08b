-- Words that are held as four bytes each: what the steps of the schedule do to the word is what they do to its bytes. Assumes nothing.
use mathlib.Core.Path.{◌≡◌, refl, sym, ap, ◌∙◌}
use mathlib.Core.Logic.{⊎_elim}
use mathlib.Core.List.{List, [], ◌∷◌}
use Prim.Native.Nat.{ℕ, zero, suc, ◌+◌, ◌-◌, ◌*◌, ◌/◌, ◌%◌, ◌<◌, ◌≤◌}
use native.Mathlib.Omega.{arith}
use native.Mathlib.Nat.{zero-add}
use lib.Bits.{bit_xor, xor_block}
use lib.Dec.{lit<}
use lib.ListN.{length, get_or, set}
use lib.Seq.{get_or-set_same, get_or-set_other}
use denote.Array.{Array, each}
use denote.Laws.{Is}
use denote.Plain.{UInt}
use denote.Shadow.{shadow}
use mir.Syntax.{w8}
use mir.Val.{Val}
use Rattle.laws.specs.Lists.{tabulate}
use Rattle.laws.proofs.Cases.{eq-or-ne}
use Rattle.laws.proofs.Lists.{length-tabulate, get_d_tabulate, tabulate-ext, tabulate-at}
use Rattle.gf256.specs.Field.{s_box}
use Rattle.words.specs.Words.{join, byte_of}
use Rattle.schedule.specs.Schedule.{rot_byte, sub_byte, carried, key_word}
use Rattle.schedule.proofs.KeyWords.{word_next}
use Rattle.plain_schedule.specs.Bytes.{word_of, words_of}

-- the entries of a parameter `[u8; n]` are bytes, and those of a parameter `[[u8; 4]; 120]`: `(c.good.0)` at the function's entry

each-byte : (xs : List ℕ) (us : List Val) → shadow (each ℕ (UInt w8).own_val xs us) → (k : ℕ) → get_or xs k 0 < 256
each-byte [] us p k = lit< tt
each-byte (x ∷ xs) [] p k = absurd p
each-byte (x ∷ xs) (u ∷ us) p zero = p.0.1
each-byte (x ∷ xs) (u ∷ us) p (suc k) = each-byte xs us p.1 k

pub array-bytes : (x : List ℕ) {n : ℕ} {vs : List Val} → Is (Array (UInt w8) n) x vs → (k : ℕ) → get_or x k 0 < 256
array-bytes x p = each-byte x p.0 p.1.1

each_word : (xs : List (List ℕ)) (us : List Val) → shadow (each (List ℕ) (Array (UInt w8) 4).own_val xs us) → (i k : ℕ) → get_or (get_or xs i []) k 0 < 256
each_word [] us p i k = lit< tt
each_word (x ∷ xs) [] p i k = absurd p
each_word (x ∷ xs) (u ∷ us) p zero k = each-byte x p.0.0 p.0.1.1 k
each_word (x ∷ xs) (u ∷ us) p (suc i) k = each_word xs us p.1 i k

pub words-bytes : (w : List (List ℕ)) {vs : List Val} → Is (Array (Array (UInt w8) 4) 120) w vs → (i k : ℕ) → get_or (get_or w i []) k 0 < 256
words-bytes w p = each_word w p.0 p.1.1

-- the bytes of a word

low : (q a b : ℕ) → q ≡ a * 256 + b → b < 256 → q % 256 ≡ b
low q a b e h = omega arith

module _ (a b c d : ℕ) (hb : b < 256) (hc : c < 256) (hd : d < 256) where
  first : join a b c d / 16777216 ≡ a
  first = omega arith

  second : join a b c d / 65536 % 256 ≡ b
  second = let e : join a b c d / 65536 ≡ a * 256 + b = omega arith in low _ a b e hb

  third : join a b c d / 256 % 256 ≡ c
  third = let e : join a b c d / 256 ≡ a * 65536 + b * 256 + c = omega arith in low _ (a * 256 + b) c (e ∙ omega arith) hc

  fourth : join a b c d % 256 ≡ d
  fourth = low _ (a * 65536 + b * 256 + c) d (omega arith) hd

  pub rot-join : join b c d a ≡ rot_byte (join a b c d)
  unfolding rot_byte
  rot-join = let e = first in omega arith

  pub sub-join : join (s_box a) (s_box b) (s_box c) (s_box d) ≡ sub_byte (join a b c d)
  unfolding sub_byte
  sub-join = sym (λ i. join (s_box (first i)) (s_box (second i)) (s_box (third i)) (s_box (fourth i)))

-- byte r of the word of four bytes is the byte with the number r
pub byte_at : (x : List ℕ) → ((k : ℕ) → get_or x k 0 < 256) → (r : ℕ) → r < 4 → byte_of (word_of x) r ≡ get_or x r 0
unfolding word_of
byte_at x small zero h = ap (λ (n : ℕ). n % 256) (first _ _ _ _ (small 1) (small 2) (small 3)) ∙ low _ 0 _ (omega arith) (small 0)
byte_at x small (suc zero) h = second _ _ _ _ (small 1) (small 2) (small 3)
byte_at x small (suc (suc zero)) h = third _ _ _ _ (small 1) (small 2) (small 3)
byte_at x small (suc (suc (suc zero))) h =
    let e : word_of x / 1 ≡ word_of x = omega arith in
    ap (λ (n : ℕ). n % 256) e ∙ fourth _ _ _ _ (small 1) (small 2) (small 3)
byte_at x small (suc (suc (suc (suc r)))) h = absurd (omega arith)

-- a byte of a word of the schedule
pub word_byte : (w : List (List ℕ)) → ((i k : ℕ) → get_or (get_or w i []) k 0 < 256) → (i r : ℕ) → i < 120 → r < 4 → get_or (get_or w i []) r 0 ≡ byte_of (get_or (words_of w) i 0) r
unfolding words_of
word_byte w small i r hi hr =
    sym (ap (λ (n : ℕ). byte_of n r) (tabulate-at (λ k. word_of (get_or w k [])) 0 refl i hi) ∙ byte_at (get_or w i []) (small i) r hr)

-- a word of which only the first byte is not 0
pub first_alone : (a : ℕ) → word_of (a ∷ 0 ∷ 0 ∷ 0 ∷ []) ≡ a * 16777216
unfolding word_of
first_alone a = omega arith

-- the sum of two words, byte by byte
two : (a b e f : ℕ) → b < 256 → f < 256 → bit_xor (a * 256 + b) (e * 256 + f) ≡ bit_xor a e * 256 + bit_xor b f
two a b e f = xor_block 8 a e b f

pub sum-join : (a b c d e f g h : ℕ) → b < 256 → c < 256 → d < 256 → f < 256 → g < 256 → h < 256
    → join (bit_xor a e) (bit_xor b f) (bit_xor c g) (bit_xor d h) ≡ bit_xor (join a b c d) (join e f g h)
sum-join a b c d e f g h hb hc hd hf hg hh =
    let p : join a b c d ≡ ((a * 256 + b) * 256 + c) * 256 + d = omega arith in
    let q : join e f g h ≡ ((e * 256 + f) * 256 + g) * 256 + h = omega arith in
    sym ((λ i. bit_xor (p i) (q i))
    ∙ two ((a * 256 + b) * 256 + c) d ((e * 256 + f) * 256 + g) h hd hh
    ∙ (λ i. two (a * 256 + b) c (e * 256 + f) g hc hg i * 256 + bit_xor d h)
    ∙ (λ i. (two a b e f hb hf i * 256 + bit_xor c g) * 256 + bit_xor d h)
    ∙ omega arith)

-- the schedule, after i of its words

abbrev pub Expanded : List ℕ → List (List ℕ) → ℕ → Type 0
Expanded key w i = (k : ℕ) → k < i → word_of (get_or w k []) ≡ key_word key k

pub expanded-more : (key : List ℕ) (w : List (List ℕ)) (i : ℕ) (v : List ℕ) → i < length w → Expanded key w i → word_of v ≡ key_word key i → Expanded key (set w i v) (i + 1)
expanded-more key w i v l g e k h = ⊎_elim same other (eq-or-ne k i)
  where
    same : k ≡ i → word_of (get_or (set w i v) k []) ≡ key_word key k
    same q = rw q (ap word_of (get_or-set_same w i v [] l) ∙ e)

    other : (k ≡ i → ⊥) → word_of (get_or (set w i v) k []) ≡ key_word key k
    other ne = ap word_of (get_or-set_other w i k v [] ne) ∙ g k (omega (arith, ne))

-- what is made of words that are right is the next one
pub expanded-next : (key : List ℕ) (w : List (List ℕ)) (i : ℕ) → 6 ≤ i → Expanded key w i
    → bit_xor (word_of (get_or w (i - 6) [])) (carried i (word_of (get_or w (i - 1) []))) ≡ key_word key i
expanded-next key w i h g =
    let p : i - 6 + 6 ≡ i = omega arith in
    let q : i - 6 + 5 ≡ i - 1 = omega arith in
    (λ j. bit_xor (g (i - 6) (omega arith) j) (carried i (g (i - 1) (omega arith) j)))
    ∙ sym (ap (key_word key) (sym p) ∙ word_next key (i - 6) ∙ rw (p, q))

pub expanded-all : (key : List ℕ) (w : List (List ℕ)) (i : ℕ) → 120 ≤ i → Expanded key w i → words_of w ≡ tabulate (key_word key) 0 120
unfolding words_of
expanded-all key w i h g =
    tabulate-ext (key_word key) 0 120 0 (words_of w) (length-tabulate _ 0 120)
    (λ k l. get_d_tabulate _ 0 120 k 0 l ∙ rw zero-add (g k (omega arith)))
