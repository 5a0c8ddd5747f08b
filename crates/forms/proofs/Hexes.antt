-- The laws of hex digits: the forms of bytes spell bytes by two lower-case digits each. Assumes nothing.
use mathlib.Core.Path.{◌≡◌, refl, sym, ap, subst, ◌∙◌}
use mathlib.Core.List.{List, [], ◌∷◌, ◌++◌}
use mathlib.Core.Bool.{Bool, true, false, ◌||◌}
use Prim.Native.Nat.{ℕ, zero, suc, ◌+◌, ◌*◌, ◌<◌, ◌/◌, ◌%◌, zero-le}
use native.Mathlib.Omega.{arith}
use lib.Dec.{eqb, ltb}
use lib.ListN.{length, get_or}
use borrow.Author.Tests.{ltb-true, eqb-true}
use Rattle.laws.specs.Choice.{pick}
use Rattle.laws.proofs.Tests.{holds, agree}
use Rattle.fields.specs.Fields.{between}
use Rattle.fields.proofs.Ranges.{between-high}
use Rattle.writing.specs.Text.{hex_digit, hex_text}
use Rattle.forms.specs.Form.{Form, done, ◌>>=◌}
use Rattle.forms.specs.Hexes.{is_hex, hex_value, hex_or, half_byte, byte, bytes}
use Rattle.forms.proofs.Forms.{Spells, Means, parts, both-spell, made-spells, made, both-live}

-- one digit: each rule is tested over all of them

pub digit-is-hex : (d : ℕ) → d < 16 → is_hex (hex_digit d) ≡ true
unfolding is_hex hex_digit
digit-is-hex d h = holds (λ x. is_hex (hex_digit x)) 0 16 tt d zero-le h

pub value-of-digit : (d : ℕ) → d < 16 → hex_value (hex_digit d) ≡ d
unfolding hex_value hex_digit
value-of-digit d h = agree (λ x. hex_value (hex_digit x)) (λ x. x) 0 16 tt d zero-le h

hex-most : (c : ℕ) → is_hex c ≡ true → c < 103
unfolding is_hex
hex-most c e = go (between 48 c 57) refl e
  where
    go : (t : Bool) → between 48 c 57 ≡ t → t || between 97 c 102 ≡ true → c < 103
    go true h e = omega (arith, between-high 48 c 57 h)
    go false h e = omega (arith, between-high 97 c 102 e)

-- what holds of each hex digit, by a test
hex-holds : (f : ℕ → Bool) (c : ℕ) → is_hex c ≡ true → pick (is_hex c) (f c) true ≡ true → f c ≡ true
hex-holds f c e h = rw e at h

pub value-small : (c : ℕ) → is_hex c ≡ true → hex_value c < 16
unfolding is_hex hex_value
value-small c e =
    ltb-true (hex_value c) 16
    (hex-holds (λ x. ltb (hex_value x) 16) c e (holds (λ x. pick (is_hex x) (ltb (hex_value x) 16) true) 0 103 tt c zero-le (hex-most c e)))

-- a digit's value, or 16, is v
module _ (c v : ℕ) (e : v ≡ hex_or c) where
  pub no_digit : v ≡ 16 → is_hex c ≡ false
  unfolding hex_or
  no_digit z = go (is_hex c) refl (sym e ∙ z)
    where
      go : (x : Bool) → is_hex c ≡ x → pick x (hex_value c) 16 ≡ 16 → is_hex c ≡ false
      go true i k = absurd (omega (arith, value-small c i))
      go false i k = i

  pub a-digit : (v ≡ 16 → ⊥) → (is_hex c ≡ true) × (v ≡ hex_value c)
  unfolding hex_or
  a-digit z = go (is_hex c) refl e
    where
      go : (x : Bool) → is_hex c ≡ x → v ≡ pick x (hex_value c) 16 → (is_hex c ≡ true) × (v ≡ hex_value c)
      go true i k = (i, k)
      go false i k = absurd (z k)

pub digit-of-value : (c : ℕ) → is_hex c ≡ true → hex_digit (hex_value c) ≡ c
unfolding is_hex hex_value hex_digit
digit-of-value c e =
    eqb-true (hex_digit (hex_value c)) c
    (hex-holds (λ x. eqb (hex_digit (hex_value x)) x) c e
    (holds (λ x. pick (is_hex x) (eqb (hex_digit (hex_value x)) x) true) 0 103 tt c zero-le (hex-most c e)))

pub half-small : (v : ℕ) (w : List ℕ) → Spells half_byte v w → v < 16
half-small v [] h = absurd h
half-small v (c ∷ d ∷ w) h = absurd h.1
half-small v (c ∷ []) h = subst (λ (x : ℕ). x < 16) h.1 (value-small c h.0)

-- a byte

pub byte-means : Means byte (λ b. b < 256) (λ b. hex_digit (b / 16) ∷ hex_digit (b % 16) ∷ [])
unfolding byte ◌>>=◌
byte-means = record { spells = spells; only = only; live = (hex_digit 0, zero-is-hex, λ c e. (hex_digit 0, zero-is-hex, λ d f. tt)) }
  where
    zero-is-hex : is_hex (hex_digit 0) ≡ true
    zero-is-hex = digit-is-hex 0 (omega arith)

    spells : (b : ℕ) → b < 256 → Spells byte b (hex_digit (b / 16) ∷ hex_digit (b % 16) ∷ [])
    spells b h =
        let e : b / 16 * 16 + b % 16 ≡ b = omega arith in (
          digit-is-hex (b / 16) (omega arith),
          (
            digit-is-hex (b % 16) (omega arith),
            (λ i. value-of-digit (b / 16) (omega arith) i * 16 + value-of-digit (b % 16) (omega arith) i) ∙ e,
          ),
        )

    only : (b : ℕ) (w : List ℕ) → Spells byte b w → (b < 256) × (w ≡ hex_digit (b / 16) ∷ hex_digit (b % 16) ∷ [])
    only b [] h = absurd h
    only b (x ∷ []) h = absurd h.1
    only b (x ∷ y ∷ z ∷ w) h = absurd h.1.1
    only b (x ∷ y ∷ []) h =
        let s = value-small x h.0 in
        let t = value-small y h.1.0 in
        let e = h.1.1 in
        let p : hex_value x ≡ b / 16 = omega arith in
        let q : hex_value y ≡ b % 16 = omega arith in
        (omega arith, λ i. (sym (digit-of-value x h.0) ∙ ap hex_digit p) i ∷ (sym (digit-of-value y h.1.0) ∙ ap hex_digit q) i ∷ [])

-- bytes

abbrev pub Bytes : ℕ → List ℕ → Type 0
Bytes n l = (length l ≡ n) × ((i : ℕ) → get_or l i 0 < 256)

more_bytes : (n b : ℕ) (l : List ℕ) → b < 256 → Bytes n l → Bytes (suc n) (b ∷ l)
more_bytes n b l h g = (ap suc g.0, each)
  where
    each : (i : ℕ) → get_or (b ∷ l) i 0 < 256
    each zero = h
    each (suc i) = g.1 i

pub bytes-means : (n : ℕ) → Means (bytes n) (Bytes n) hex_text
unfolding bytes hex_text
bytes-means zero = record { spells = spells; only = only; live = tt }
  where
    spells : (l : List ℕ) → Bytes zero l → Spells (done []) l (hex_text l)
    spells [] g = refl
    spells (b ∷ l) g = absurd (omega (arith, g.0))

    only : (l w : List ℕ) → Spells (done []) l w → Bytes zero l × (w ≡ hex_text l)
    only l (c ∷ w) h = absurd h
    only l [] h = (
      (ap length (sym h), λ i. subst (λ (x : List ℕ). get_or x i 0 < 256) h (omega arith)),
      ap hex_text h,
    )
bytes-means (suc n) = go (bytes-means n)
  where
    tail : ℕ → Form (List ℕ)
    tail b = bytes n >>= λ l. done (b ∷ l)

    go : Means (bytes n) (Bytes n) hex_text → Means (bytes (suc n)) (Bytes (suc n)) hex_text
    go m =
        record {
          spells = spells;
          only = only;
          live = both-live byte tail byte-means.live (λ b. both-live (bytes n) (λ l. done (b ∷ l)) m.live (λ l. tt));
        }
      where
        spells : (l : List ℕ) → Bytes (suc n) l → Spells (bytes (suc n)) l (hex_text l)
        spells [] g = absurd (omega (arith, g.0))
        spells (b ∷ l) g =
            both-spell byte tail b (b ∷ l) _ (hex_text l) (byte-means.spells b (g.1 0))
            (made-spells (bytes n) (λ l. b ∷ l) l (hex_text l) (m.spells l (omega (arith, g.0), λ i. g.1 (suc i))))

        only : (l w : List ℕ) → Spells (bytes (suc n)) l w → Bytes (suc n) l × (w ≡ hex_text l)
        only l w h =
            let p = parts byte tail l w h in
            let q = made (bytes n) (λ l. p.value ∷ l) l p.two p.second in
            let b = byte-means.only p.value p.one p.first in
            let r = m.only q.value p.two q.spells in
            subst (λ (x : List ℕ). Bytes (suc n) x × (w ≡ hex_text x)) q.is
            (more_bytes n p.value q.value b.0 r.0, p.joined ∙ (λ i. b.1 i ++ r.1 i))
