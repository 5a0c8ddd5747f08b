-- A value in form and what damage does to it: zeros and upper-case digits are seen, and mending gives the value back. Assumes nothing.
use mathlib.Core.Bool.{Bool, true, false, not, true≢false, ◌&&◌}
use mathlib.Core.List.{List, ◌++◌}
use mathlib.Core.Path.{◌≡◌, refl, sym, ap, ◌∙◌}
use Prim.Native.Nat.{ℕ, ◌+◌, ◌-◌, ◌<◌}
use native.Mathlib.Omega.{arith}
use lib.Dec.{eqb, ltb}
use lib.ListN.{length, take, drop, replicate, length-append, length-replicate}
use lib.Seq.{take-append-add, drop_at}
use Rattle.laws.specs.Choice.{pick}
use Rattle.line_parts.specs.Line.{leading}
use Rattle.line_names.specs.Names.{key_name, alg_name, use_name, is_decimal}
use Rattle.line_faults.specs.Faults.{zeros_in, zeros_dropped, any_upper_hex}
use Rattle.mended_text.specs.Text.{lowered, mended_value}
use Rattle.mended_text.proofs.Laws.{mended-cases}
use Rattle.mends.specs.Damage.{Damage, raised, any_raised, value_damaged, made_zeros}
use Rattle.mends.proofs.Bytes.{every, every_append, every-same, leading-more}
use Rattle.mends.proofs.OneLine.{is_mark}
use Rattle.mends.proofs.Raised.{raised-back, raised-seen, raised-marks, raised-length}

-- what a value that a good record has under the name of number k fulfils
pub record InForm (k : ℕ) (v : List ℕ) : Type 0 where
  pub some : 0 < length v
  pub marks : every is_mark v ≡ true
  pub number : is_decimal k ≡ true → zeros_in v ≡ 0
  pub hex : eqb k key_name ≡ true → any_upper_hex v ≡ false

-- zeros before a number are counted
zeros-more : (n : ℕ) (v : List ℕ) → 0 < length v → zeros_in (replicate n 48 ++ v) ≡ n + zeros_in v
unfolding zeros_in
zeros-more n v h =
    ap (λ (m : ℕ). leading 48 (take m (replicate n 48 ++ v))) size
    ∙ ap (leading 48) (take-append-add (replicate n 48) v (length v - 1))
    ∙ leading-more 48 n (take (length v - 1) v)
  where
    size : length (replicate n 48 ++ v) - 1 ≡ length {A = ℕ} (replicate n 48) + (length v - 1)
    size = omega (arith, length-append (replicate n 48) v)

-- the key is no number
key-no-number : (k : ℕ) → eqb k key_name ≡ true → is_decimal k ≡ false
unfolding is_decimal
key-no-number k e = rw e (go (eqb k alg_name) (eqb k use_name))
  where
    go : (a b : Bool) → not a && (not b && false) ≡ false
    go true b = refl
    go false true = refl
    go false false = refl

-- the damaged value, where it is the key's or not, and a number or not
abbrev given : Damage → List ℕ → Bool → Bool → List ℕ
given d v k n = pick k (raised d.upper v) (pick n (replicate d.zeros 48 ++ v) v)

-- what a value is mended to, and whether zeros are dropped, by these two tests

abbrev pub mended_as : List ℕ → Bool → Bool → List ℕ
mended_as v k n = pick k (lowered v) (pick n (drop (zeros_in v) v) v)

pub zeros-as : (k : ℕ) (v : List ℕ) → ltb 0 (zeros_dropped k v) ≡ is_decimal k && ltb 0 (zeros_in v)
unfolding zeros_dropped
zeros-as k v = go (is_decimal k)
  where
    go : (n : Bool) → ltb 0 (pick n (zeros_in v) 0) ≡ n && ltb 0 (zeros_in v)
    go true = refl
    go false = refl

module _ (d : Damage) (v : List ℕ) (f : InForm d.name v) where
  zeros-said : is_decimal d.name ≡ true → zeros_in (replicate d.zeros 48 ++ v) ≡ d.zeros
  zeros-said e = omega (arith, zeros-more d.zeros v f.some, f.number e)

  pub damaged-some : 0 < length (value_damaged d v)
  unfolding value_damaged
  damaged-some = go (eqb d.name key_name) (is_decimal d.name)
    where
      go : (k n : Bool) → 0 < length (given d v k n)
      go true n = omega (arith, raised-length d.upper v, f.some)
      go false true = omega (arith, length-append (replicate d.zeros 48) v, f.some)
      go false false = f.some

  pub damaged-marks : every is_mark (value_damaged d v) ≡ true
  unfolding value_damaged
  damaged-marks = go (eqb d.name key_name) (is_decimal d.name)
    where
      go : (k n : Bool) → every is_mark (given d v k n) ≡ true
      go true n = raised-marks d.upper v f.marks
      go false true = every_append is_mark (replicate d.zeros 48) v (every-same is_mark 48 d.zeros refl) f.marks
      go false false = f.marks

  pub damaged-mended : mended_value d.name (value_damaged d v) ≡ v
  unfolding value_damaged
  damaged-mended = mended-cases d.name (value_damaged d v) ∙ go (eqb d.name key_name) (is_decimal d.name) refl refl
    where
      go : (k n : Bool) → eqb d.name key_name ≡ k → is_decimal d.name ≡ n
          → mended_as (given d v k n) k n ≡ v
      go true n x y = raised-back d.upper v (f.hex x)
      go false true x y =
          ap (λ (m : ℕ). drop m (replicate d.zeros 48 ++ v)) (zeros-said y)
          ∙ drop_at (replicate d.zeros 48) v d.zeros (length-replicate d.zeros 48)
      go false false x y = refl

  pub damaged-hex : eqb d.name key_name && any_upper_hex (value_damaged d v) ≡ eqb d.name key_name && any_raised d.upper v
  unfolding value_damaged
  damaged-hex = go (eqb d.name key_name) refl
    where
      go : (k : Bool) → eqb d.name key_name ≡ k
          → k && any_upper_hex (given d v k (is_decimal d.name)) ≡ k && any_raised d.upper v
      go true x = raised-seen d.upper v (f.hex x)
      go false x = refl

  pub damaged-zeros : is_decimal d.name && ltb 0 (zeros_in (value_damaged d v)) ≡ made_zeros d
  unfolding value_damaged
  damaged-zeros = go (eqb d.name key_name) (is_decimal d.name) refl refl
    where
      go : (k n : Bool) → eqb d.name key_name ≡ k → is_decimal d.name ≡ n
          → n && ltb 0 (zeros_in (given d v k n)) ≡ n && ltb 0 d.zeros
      go true true x y = let z : ◌≡◌ {A = Bool} true false = sym y ∙ key-no-number d.name x in absurd (true≢false z)
      go true false x y = refl
      go false true x y = ap (ltb 0) (zeros-said y)
      go false false x y = refl
