-- What is answered, by the tests that led to it. Assumes nothing.
use mathlib.Core.Path.{◌≡◌, refl, sym, ap, ◌∙◌}
use mathlib.Core.Bool.{Bool, true, false, not}
use mathlib.Core.List.{List, ◌++◌}
use Prim.Native.Nat.{ℕ, ◌<◌, ◌≤◌}
use native.Mathlib.Nat.{zero-add}
use native.Mathlib.Omega.{arith}
use lib.Dec.{eqb, ltb}
use lib.ListN.{length, take, drop, length-append}
use lib.Seq.{sets-eq, take_at}
use borrow.Author.Tests.{lt-ltb, le-ltb, ltb-false, eqb-false}
use Rattle.laws.specs.Choice.{pick}
use Rattle.laws.proofs.Cases.{neither}
use Rattle.refusals.specs.Numbers.{done, record_too_long}
use Rattle.refusals.specs.Refused.{number}
use Rattle.refusals.specs.declared.Refusal.{Refusal}
use Rattle.refusals.proofs.Judged.{number-above_0}
use Rattle.writing.specs.Text.{digits, line_text}
use Rattle.writing.specs.Writing.{Room, Put, at_front}
use Rattle.writing.proofs.Puts.{put_then, put-length}
use Rattle.writing.proofs.Digits.{digits-fit, line-length}
use Rattle.sheet_faults.specs.Sheet.{most_bytes, lines_of, sheet_bad}
use Rattle.mended_text.specs.Text.{text_mended}
use Rattle.mended_text.proofs.Sizes.{text-most}
use Rattle.mending.specs.Changes.{is_record, changes_text, sheet_mended}
use Rattle.mending.proofs.Changed.{changes-short}
use Rattle.mending.specs.Answer.{sheet_names_bad, sheet_value_bad, mend_refusal, mend_answer, MendOut, mend_as, mend_out, print_room, text_printed, PrintOut, print_as, print_out}

-- a text that was put at the front of a buffer is what the buffer begins with
module _ {b b' : List ℕ} {t : List ℕ} {end : ℕ} (p : Put b 0 t b' end) (r : Room b 0 t) where
  pub put_front : b' ≡ at_front t b
  put_front = p.holds ∙ sets-eq t b 0 r.fits ∙ ap (λ (k : ℕ). t ++ drop k b) (zero-add (length t))

  pub put-taken : take end b' ≡ t
  put-taken = ap (take end) put_front ∙ take_at t (drop (length t) b) end (sym (p.ends ∙ zero-add (length t)))

-- a sheet that is not refused with 25 is not too long
pub bad-long : (text : List ℕ) → sheet_bad text ≡ false → length text ≤ most_bytes
unfolding sheet_bad
bad-long text e = ltb-false most_bytes (length text) (neither _ _ e).0

-- the text, and then the changes, put into a buffer that is large enough
module _ (text : List ℕ) (bad : sheet_bad text ≡ false) {zeros : List ℕ} (size : length zeros ≡ 4277) where
  pub text-room : Room zeros 0 (text_mended (lines_of text))
  text-room = record { fits = omega (arith, text-most text, bad-long text bad) }

  module _ {b : List ℕ} {end : ℕ} (p : Put zeros 0 (text_mended (lines_of text)) b end) where
    pub end-within : end ≤ length b
    end-within = omega (arith, p.ends, put-length p, text-most text, bad-long text bad)

    pub changes-room : Room b end (changes_text (lines_of text))
    changes-room = record { fits = omega (arith, p.ends, put-length p, text-most text, bad-long text bad, changes-short (lines_of text)) }

    module _ {b' : List ℕ} {last : ℕ} (q : Put b end (changes_text (lines_of text)) b' last) where
      whole : Put zeros 0 (sheet_mended (lines_of text)) b' last
      unfolding sheet_mended
      whole = put_then p q

      whole_room : Room zeros 0 (sheet_mended (lines_of text))
      unfolding sheet_mended
      whole_room =
          record {
            fits =
                omega (
                  arith,
                  length-append (text_mended (lines_of text)) (changes_text (lines_of text)),
                  text-most text,
                  bad-long text bad,
                  changes-short (lines_of text),
                );
          }

      pub last_within : last ≤ length b'
      last_within = omega (arith, whole.ends, put-length whole, whole_room.fits)

      pub last-is : last ≡ length (sheet_mended (lines_of text))
      last-is = whole.ends ∙ zero-add (length (sheet_mended (lines_of text)))

      pub sheet-taken : take last b' ≡ sheet_mended (lines_of text)
      sheet-taken = put-taken whole whole_room

module _ (text b : List ℕ) where
  pub out-names : sheet_bad text ≡ true → mend_as sheet_names_bad 0 b ≡ mend_out text b
  unfolding mend_out mend_answer mend_refusal
  out-names e = rw e

  pub out-value : sheet_bad text ≡ false → is_record (text_mended (lines_of text)) ≡ false → mend_as sheet_value_bad 0 b ≡ mend_out text b
  unfolding mend_out mend_answer mend_refusal
  out-value e v = rw (e, v)

  module _ (e : sheet_bad text ≡ false) (v : is_record (text_mended (lines_of text)) ≡ true) where
    pub out-room : length b < length (sheet_mended (lines_of text)) → mend_as record_too_long 0 b ≡ mend_out text b
    unfolding mend_out mend_answer mend_refusal
    out-room h = rw (e, v, lt-ltb (length b) (length (sheet_mended (lines_of text))) h)

    pub out-done : length (sheet_mended (lines_of text)) ≤ length b
        → mend_as done (length (sheet_mended (lines_of text))) (at_front (sheet_mended (lines_of text)) b) ≡ mend_out text b
    unfolding mend_out mend_answer mend_refusal
    out-done h = rw (e, v, le-ltb (length b) (length (sheet_mended (lines_of text))) h)

-- no refusal has a larger number
answer-most : (text : List ℕ) (room : ℕ) → mend_answer text room ≤ 26
unfolding mend_answer mend_refusal
answer-most text room = go (sheet_bad text) (is_record (text_mended (lines_of text))) (ltb room (length (sheet_mended (lines_of text))))
  where
    go : (x y z : Bool)
        → pick (not (eqb (pick x sheet_names_bad (pick (not y) sheet_value_bad done)) done)) (pick x sheet_names_bad (pick (not y) sheet_value_bad done)) (pick z record_too_long done)
        ≤ 26
    go true y z = omega arith
    go false false z = omega arith
    go false true true = omega arith
    go false true false = omega arith

-- a refusal's number is not that of done
pub not-done : (refusal : Refusal) → number refusal ≡ done → ⊥
not-done refusal e = omega (arith, number-above_0 refusal)

-- what is printed, by what mending left
module _ (text b : List ℕ) {refusal size : ℕ} {b' : List ℕ} (room : print_room ≤ length b) (e : mend_as refusal size b' ≡ mend_out text b) where
  pub print-done : refusal ≡ done → print_as size b' ≡ print_out text b
  unfolding mend_out print_out text_printed
  print-done z = rw (le-ltb (length b) print_room room) (go (eqb (mend_answer text (length b)) done) refl e)
    where
      sheet : List ℕ
      sheet = sheet_mended (lines_of text)

      line : List ℕ
      line = line_text "refused=" (digits (mend_answer text (length b)))

      go : (t : Bool) → eqb (mend_answer text (length b)) done ≡ t
          → mend_as refusal size b' ≡ pick t (mend_as done (length sheet) (at_front sheet b)) (mend_as (mend_answer text (length b)) 0 b)
          → print_as size b' ≡ print_as (length (pick t sheet line)) (at_front (pick t sheet line) b)
      go true n o = λ i. print_as (o i).length (o i).buffer
      go false n o = absurd (eqb-false _ _ n (sym (ap (λ (x : MendOut). x.refusal) o) ∙ z))

  print-refused : (refusal ≡ done → ⊥) → (refusal ≡ mend_answer text (length b)) × (b' ≡ b)
      × ((n : ℕ) → n ≡ length (line_text "refused=" (digits refusal)) → print_as n (at_front (line_text "refused=" (digits refusal)) b) ≡ print_out text b)
  unfolding mend_out print_out text_printed
  print-refused z = rw (le-ltb (length b) print_room room) (go (eqb (mend_answer text (length b)) done) refl e)
    where
      sheet : List ℕ
      sheet = sheet_mended (lines_of text)

      line : ℕ → List ℕ
      line n = line_text "refused=" (digits n)

      go : (t : Bool) → eqb (mend_answer text (length b)) done ≡ t
          → mend_as refusal size b' ≡ pick t (mend_as done (length sheet) (at_front sheet b)) (mend_as (mend_answer text (length b)) 0 b)
          → (refusal ≡ mend_answer text (length b)) × (b' ≡ b)
          × ((n : ℕ) → n ≡ length (line refusal) → print_as n (at_front (line refusal) b)
          ≡ print_as (length (pick t sheet (line (mend_answer text (length b))))) (at_front (pick t sheet (line (mend_answer text (length b)))) b))
      go true n o = absurd (z (ap (λ (x : MendOut). x.refusal) o))
      go false n o = (
        ap (λ (x : MendOut). x.refusal) o,
        ap (λ (x : MendOut). x.buffer) o,
        λ m s. λ i. print_as ((s ∙ ap (λ (x : MendOut). length (line x.refusal)) o) i) (at_front (line (o i).refusal) b),
      )

  refused-short : (refusal ≡ done → ⊥) → length (line_text "refused=" (digits refusal)) ≤ print_room
  refused-short z =
      let most : refusal < 100 = omega (arith, (print-refused z).0, answer-most text (length b)) in
      omega (arith, line-length "refused=" (digits refusal), digits-fit 1 refusal most)

  pub refused-room : (refusal ≡ done → ⊥) → Room b' 0 (line_text "refused=" (digits refusal))
  refused-room z = record { fits = omega (arith, refused-short z, ap length (print-refused z).1) }

  pub refused-printed : (refusal ≡ done → ⊥) → {b'' : List ℕ} {n : ℕ} → Put b' 0 (line_text "refused=" (digits refusal)) b'' n → print_as n b'' ≡ print_out text b
  refused-printed z {b''} {n} p =
      let r = print-refused z in
      (λ i. print_as n ((put_front p (refused-room z) ∙ ap (at_front (line_text "refused=" (digits refusal))) r.1) i))
      ∙ r.2 n (p.ends ∙ zero-add (length (line_text "refused=" (digits refusal))))

-- what printing answers lies within the buffer
pub print-within : (text b : List ℕ) {b' : List ℕ} {n : ℕ} → print_as n b' ≡ print_out text b → n ≤ length b'
unfolding print_out
print-within text b {b'} {n} e = go (ltb (length b) print_room) e
  where
    t : List ℕ
    t = text_printed text (length b)

    go : (x : Bool) → print_as n b' ≡ pick x (print_as 0 b) (print_as (length t) (at_front t b)) → n ≤ length b'
    go true o = omega (arith, ap (λ (p : PrintOut). p.length) o)
    go false o =
        omega (arith, ap (λ (p : PrintOut). p.length) o, ap (λ (p : PrintOut). length p.buffer) o, length-append t (drop (length t) b))
