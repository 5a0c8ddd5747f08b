-- Reading a key, one byte after another. Assumes nothing.
use mathlib.Core.Path.{◌≡◌, sym, ap, ◌∙◌}
use mathlib.Core.List.{List, [], ◌∷◌, ◌++◌, append-nil, append_assoc}
use Prim.Native.Nat.{ℕ, suc, ◌+◌, ◌-◌, ◌≤◌, ◌<◌}
use native.Mathlib.Numerals.{add-one}
use native.Mathlib.Omega.{arith}
use lib.ListN.{length, take, set}
use lib.Seq.{take-suc-set, take_all}
use Rattle.std.proofs.Common.{Result, Ok, Err}
use Rattle.std.specs.Result.{IsErrAnd}
use Rattle.reading.specs.declared.WrongAt.{WrongAt}
use Rattle.record_reader.specs.declared.KeyFound.{KeyFound}
use Rattle.record_reader.specs.Lines.{key_reading_of, no_key_at}
use Rattle.writing.specs.Text.{ascii}
use Rattle.forms.specs.Form.{Form, done, named, ◌>>=◌}
use Rattle.forms.specs.Hexes.{byte, bytes}
use Rattle.reading.specs.declared.Reading.{Reading}
use Rattle.reading.specs.Reading.{onward, answer}
use Rattle.forms.proofs.Forms.{both-assoc}
use Rattle.reading.proofs.Steps.{on_then}

-- what is left of a key's text where the bytes k are read, and n are not
abbrev pub key_rest : List ℕ → ℕ → Form (List ℕ)
key_rest k n = bytes n >>= λ more. named (ascii "\n") (done (k ++ more))

rest_more : (k : List ℕ) (n : ℕ) → key_rest k (suc n) ≡ byte >>= λ b. key_rest (k ++ (b ∷ [])) n
unfolding bytes ◌>>=◌
rest_more k n =
    both-assoc byte (λ b. bytes n >>= λ more. done (b ∷ more)) (λ more. named (ascii "\n") (done (k ++ more)))
    ∙ (λ i. byte >>= λ b.
    (both-assoc (bytes n) (λ more. done (b ∷ more)) (λ more. named (ascii "\n") (done (k ++ more)))
    ∙ (λ j. bytes n >>= λ more. named (ascii "\n") (done (sym (append_assoc k (b ∷ []) more) j)))) i)

rest-none : (k : List ℕ) → key_rest k 0 ≡ named (ascii "\n") (done k)
unfolding bytes ◌>>=◌
rest-none k = ap (λ (l : List ℕ). named (ascii "\n") (done l)) (append-nil k)

-- a wrong place that is passed on
pub key-passed : (r : Result KeyFound WrongAt) {w : WrongAt} → IsErrAnd r (λ y. y ≡ w) → key_reading_of r ≡ no_key_at w.place
key-passed (Ok x) h = absurd h
key-passed (Err y) h = ap (λ (x : WrongAt). no_key_at x.place) h

module _ (key : List ℕ) (i : ℕ) (before : Reading) (s : List ℕ) (size : length key ≡ 24) where
  -- one more byte
  pub key_more : i < 24 → {a : Reading} → a ≡ answer (onward before byte s)
      → onward before (key_rest (take i key) (24 - i)) s ≡ onward a (key_rest (take (i + 1) (set key i a.value)) (24 - (i + 1))) s
  key_more h {a} e =
      let z : 24 - i ≡ suc (24 - (i + 1)) = omega arith in
      let l : i < length key = omega arith in
      let t : take i key ++ (a.value ∷ []) ≡ take (i + 1) (set key i a.value) =
      sym (ap (λ (n : ℕ). take n (set key i a.value)) (add-one i) ∙ take-suc-set key i a.value l) in
      ap (λ (f : Form (List ℕ)). onward before f s) (ap (key_rest (take i key)) z ∙ rest_more (take i key) (24 - (i + 1)))
      ∙ on_then before byte _ s e
      ∙ ap (λ (k : List ℕ). onward a (key_rest k (24 - (i + 1))) s) t

  -- all bytes are read
  pub key-all : 24 ≤ i → onward before (key_rest (take i key) (24 - i)) s ≡ onward before (named (ascii "\n") (done key)) s
  key-all h =
      let z : 24 - i ≡ 0 = omega arith in
      ap (λ (f : Form (List ℕ)). onward before f s)
      ((λ j. key_rest (take_all i key (omega arith) j) (z j)) ∙ rest-none key)
