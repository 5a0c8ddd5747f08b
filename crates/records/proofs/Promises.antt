-- What reading and writing promise, in terms of the texts of good records alone (crates/record_text/specs/Text.antt). Read that file first, then the statements
-- here; the forms (specs/Form.antt and the files after it) are one way to read that keeps these promises, and the contracts cite it.
-- proofs/Lengths.antt has the length of a text: 105 to 111 bytes of form 1, 124 to 137 of form 2. Assumes nothing.
use mathlib.Core.Path.{◌≡◌, refl, sym, ap, subst, ◌∙◌}
use mathlib.Core.Logic.{◌⊎◌, inl, inr, ⊎_elim}
use mathlib.Core.Bool.{Bool, true, false, true≢false}
use mathlib.Core.List.{List, [], ◌∷◌, ◌++◌, append-nil, append_assoc}
use Prim.Native.Nat.{ℕ, zero, suc, ◌+◌, ◌≤◌, ◌<◌}
use native.Mathlib.Nat.{zero-add, eq-or-lt_of_le}
use native.Mathlib.Numerals.{add-one}
use native.Mathlib.Omega.{arith}
use lib.Dec.{eqb}
use lib.ListN.{length, get_or, take, drop, take-append-drop}
use lib.Seq.{take_at, take-take, take-suc, drop-cons}
use borrow.Author.Tests.{eqb-true, eq-eqb}
use Rattle.laws.specs.Choice.{pick}
use Rattle.laws.proofs.Cases.{lt-or-le}
use Rattle.refusals.specs.Numbers.{done, record_text_bad}
use Rattle.fields.specs.Fields.{stored_of, asked_of}
use Rattle.fields.specs.declared.Asked.{Asked}
use Rattle.fields.specs.declared.Fields.{Fields}
use Rattle.record_text.specs.Text.{lines_text, form_text, record_text, InCode, Good}
use Rattle.forms.specs.Form.{Outcome, found, wrong, read_at, literal, ◌>>=◌}
use Rattle.record_reader.specs.Record.{Entry, lines_form, record_form, starts_form, entry_read, refused_at, read_answer, record_read}
use Rattle.lines.specs.Line.{line_ends, line_of, place_at}
use Rattle.lines.proofs.Ends.{place-named}
use Rattle.record_writer.specs.Written.{record_written, buffer_written}
use Rattle.forms.proofs.Forms.{Spells, reads, spelt, Stop, stops, stop-within}
use Rattle.record_reader.proofs.Records.{record-means}
use Rattle.reading.proofs.Steps.{step-no}
use Rattle.records.proofs.Lines.{fewer-ends}
use Rattle.record_writer.proofs.Refusals.{right, accepted as writing-accepts, nothing-refused, put_whole}

-- READING

-- a text that begins with a good record of form 2, or of form 1
pub record Begins (s : List ℕ) (two : Bool) (number : ℕ) (f : Fields) (key : List ℕ) : Type 0 where
  pub good : Good two number f key
  pub rest : List ℕ
  pub is : s ≡ form_text two number f key ++ rest

-- the bytes front begin some good record
pub record Could (front : List ℕ) : Type 0 where
  pub two : Bool
  pub number : ℕ
  pub fields : Fields
  pub key : List ℕ
  pub more : List ℕ
  pub good : Good two number fields key
  pub is : form_text two number fields key ≡ front ++ more

-- a text at whose place no good record can go on: the bytes before it begin one, and with the byte there, if there is one, they begin none
pub record Stuck (s : List ℕ) (place : ℕ) : Type 0 where
  pub within : place ≤ length s
  pub could : Could (take place s)
  pub no : place < length s → Could (take (place + 1) s) → ⊥

-- the first byte of a good record tells its form
starts : (two : Bool) (number : ℕ) (f : Fields) (key rest : List ℕ) → starts_form (form_text two number f key ++ rest) ≡ two
unfolding starts_form form_text lines_text
starts true number f key rest = refl
starts false number f key rest = refl

-- so no text begins with good records of both forms
pub one_form : (s : List ℕ) {number other : ℕ} {f g : Fields} {key k : List ℕ} → Begins s true number f key → Begins s false other g k → ⊥
one_form s {number} {other} {f} {g} {key} {k} a b =
    let e : ◌≡◌ {A = Bool} true false =
    sym (starts true number f key a.rest) ∙ ap starts_form (sym a.is) ∙ ap starts_form b.is ∙ starts false other g k b.rest in
    true≢false e

-- a good record at the front is read, whatever follows it
pub good-is-read : (s : List ℕ) (two : Bool) (number : ℕ) (f : Fields) (key : List ℕ) → Begins s two number f key
    → record_read s ≡ entry_read (record { number = number; fields = f; key = key }) (length (form_text two number f key))
unfolding record_read
good-is-read s two number f key b =
    let e : Entry = record { number = number; fields = f; key = key } in
    ap (λ (t : Bool). read_answer s (read_at (record_form t) s 0)) (ap starts_form b.is ∙ starts two number f key b.rest)
    ∙ ap (read_answer s)
    (reads (record_form two) s 0 e (form_text two number f key) b.rest ((record-means two).spells e b.good) b.is
    ∙ ap (found e) (zero-add (length (form_text two number f key))))

-- what is read is a good record at the front, of the form that its first byte tells; `used` is its length
pub read-is-good : (s : List ℕ) → (record_read s).refusal ≡ done
    → Begins s (starts_form s) (record_read s).number (record_read s).fields (record_read s).key
    × ((record_read s).used ≡ length (form_text (starts_form s) (record_read s).number (record_read s).fields (record_read s).key))
unfolding record_read
read-is-good s h = go (read_at (record_form (starts_form s)) s 0) refl h
  where
    go : (o : Outcome Entry) → read_at (record_form (starts_form s)) s 0 ≡ o → (read_answer s o).refusal ≡ done
        → Begins s (starts_form s) (read_answer s o).number (read_answer s o).fields (read_answer s o).key
        × ((read_answer s o).used ≡ length (form_text (starts_form s) (read_answer s o).number (read_answer s o).fields (read_answer s o).key))
    go (wrong q) e h = absurd (omega arith)
    go (found v q) e h =
        let r = spelt (record_form (starts_form s)) s 0 v q e in
        let m = (record-means (starts_form s)).only v r.text r.spells in (
          record { good = m.0; rest = drop q s; is = r.splits ∙ ap (λ (t : List ℕ). t ++ drop q s) m.1 },
          r.after ∙ zero-add (length r.text) ∙ ap length m.1,
        )

-- a record of form 1 gives 0 for both network codes
pub old-has-no-network : (s : List ℕ) → (record_read s).refusal ≡ done → starts_form s ≡ false → ((record_read s).fields.mcc ≡ 0) × ((record_read s).fields.mnc ≡ 0)
old-has-no-network s h e =
    let g = (read-is-good s h).0.good in
    (subst (λ (t : Bool). InCode t 1023 (record_read s).fields.mcc) e g.mcc, subst (λ (t : Bool). InCode t 16383 (record_read s).fields.mnc) e g.mnc)

-- a reader of form 1 alone meets a text of form 2 as wrong at its first byte: line 1, column 1
pub old-reader : (s : List ℕ) → 0 < length s → starts_form s ≡ true → read_at (record_form false) s 0 ≡ wrong 0
unfolding starts_form record_form lines_form literal ◌>>=◌
old-reader s h e = step-no _ _ s 0 h (rw (eqb-true (get_or s 0 0) 102 e))

-- any other text is refused with 15, and its line and column are those of the first place at which no good record can go on
pub record Refused (s : List ℕ) : Type 0 where
  pub place : ℕ
  pub stuck : Stuck s place
  pub answer : record_read s ≡ refused_at s place

-- a record that begins with some bytes of a text has the form that the text's first byte tells
same-form : (s : List ℕ) (q : ℕ) → q < length s → (c : Could (take (q + 1) s)) → c.two ≡ starts_form s
unfolding starts_form
same-form [] q h c = absurd (omega arith)
same-form (b ∷ s) q h c =
    sym (starts c.two c.number c.fields c.key [])
    ∙ ap starts_form (append-nil (form_text c.two c.number c.fields c.key) ∙ c.is ∙ ap (λ (n : ℕ). take n (b ∷ s) ++ c.more) (add-one q))

stop-is-stuck : (s : List ℕ) (q : ℕ) → Stop (record_form (starts_form s)) s 0 q → Stuck s q
stop-is-stuck s q r = record { within = stop-within r (omega arith); could = could; no = no }
  where
    before : take q s ≡ r.front
    before = ap (take q) r.splits ∙ take_at r.front (drop q s) q (sym (r.place ∙ zero-add (length r.front)))

    could : Could (take q s)
    could =
        let m = (record-means (starts_form s)).only r.value (r.front ++ r.more) r.spells in
        record {
          two = starts_form s;
          number = r.value.number;
          fields = r.value.fields;
          key = r.value.key;
          more = r.more;
          good = m.0;
          is = sym m.1 ∙ ap (λ (t : List ℕ). t ++ r.more) (sym before);
        }

    no : q < length s → Could (take (q + 1) s) → ⊥
    no h c =
        let b = get_or s q 0 in
        let e : Entry = record { number = c.number; fields = c.fields; key = c.key } in
        let t : take (q + 1) s ≡ r.front ++ (b ∷ []) =
        ap (λ (n : ℕ). take n s) (add-one q) ∙ take-suc s q 0 h ∙ ap (λ (l : List ℕ). l ++ (b ∷ [])) before in
        let w : form_text c.two c.number c.fields c.key ≡ r.front ++ (b ∷ c.more) =
        c.is ∙ ap (λ (l : List ℕ). l ++ c.more) t ∙ append_assoc r.front (b ∷ []) c.more in
        r.stuck b (drop (suc q) s) (drop-cons s q 0 h) e c.more
        (subst (λ (two : Bool). Spells (record_form two) e (r.front ++ (b ∷ c.more))) (same-form s q h c)
        (subst (Spells (record_form c.two) e) w ((record-means c.two).spells e c.good)))

pub read-or-refused : (s : List ℕ) → ((record_read s).refusal ≡ done) ⊎ Refused s
unfolding record_read
read-or-refused s = go (read_at (record_form (starts_form s)) s 0) refl
  where
    go : (o : Outcome Entry) → read_at (record_form (starts_form s)) s 0 ≡ o → ((read_answer s o).refusal ≡ done) ⊎ Refused s
    go (found v q) e = inl refl
    go (wrong q) e =
        inr (record {
          place = q;
          stuck = stop-is-stuck s q (stops (record_form (starts_form s)) (record-means (starts_form s)).live s 0 q e);
          answer = ap (read_answer s) e;
        })

-- fewer bytes begin a good record too
fewer : (front tail : List ℕ) → Could (front ++ tail) → Could front
fewer front tail c =
    record {
      two = c.two;
      number = c.number;
      fields = c.fields;
      key = c.key;
      more = tail ++ c.more;
      good = c.good;
      is = c.is ∙ append_assoc front tail c.more;
    }

not-before : (s : List ℕ) (p q : ℕ) → p < q → Stuck s p → Stuck s q → ⊥
not-before s p q h a b =
    a.no (omega (arith, b.within))
    (fewer (take (p + 1) s) (drop (p + 1) (take q s))
    (subst Could (sym (take-append-drop (p + 1) (take q s)) ∙ ap (λ (t : List ℕ). t ++ drop (p + 1) (take q s)) (take-take (p + 1) q s (omega arith))) b.could))

-- there is one such place in a text, so these promises leave one answer to each text
pub one_place : (s : List ℕ) (p q : ℕ) → Stuck s p → Stuck s q → p ≡ q
one_place s p q a b =
    ⊎_elim (λ h. absurd (not-before s p q h a b))
    (λ h. ⊎_elim (λ e. sym e) (λ l. absurd (not-before s q p l b a)) (eq-or-lt_of_le {n = q} {m = p} h))
    (lt-or-le p q)

-- line and column name that place
pub names : (s : List ℕ) (r : Refused s) → place_at s (record_read s).line (record_read s).column ≡ r.place
names s r = (λ i. place_at s (r.answer i).line (r.answer i).column) ∙ place-named s r.place r.stuck.within

-- so at the place that they name the bytes before it begin some good record, and with the byte there, if there is one, they begin none
pub stuck_there : (s : List ℕ) → ((record_read s).refusal ≡ done → ⊥) → Stuck s (place_at s (record_read s).line (record_read s).column)
stuck_there s n = ⊎_elim (λ e. absurd (n e)) (λ r. subst (Stuck s) (sym (names s r)) r.stuck) (read-or-refused s)

-- a text that is read has neither
pub nowhere : (s : List ℕ) → (record_read s).refusal ≡ done → ((record_read s).line ≡ 0) × ((record_read s).column ≡ 0)
unfolding record_read
nowhere s = go (read_at (record_form (starts_form s)) s 0)
  where
    go : (o : Outcome Entry) → (read_answer s o).refusal ≡ done → ((read_answer s o).line ≡ 0) × ((read_answer s o).column ≡ 0)
    go (found v q) h = (refl, refl)
    go (wrong q) h = absurd (omega arith)

-- the line is 1 to 7; a line up to 10 only where the record is of form 2
pub line-number : (s : List ℕ) (r : Refused s) → (1 ≤ (record_read s).line) × ((record_read s).line ≤ pick r.stuck.could.two 10 7)
unfolding line_of
line-number s r =
    let c = r.stuck.could in
    let line : (record_read s).line ≡ 1 + line_ends (take r.place s) = ap (λ x. x.line) r.answer in
    let ends = fewer-ends c.two c.number c.fields c.key (take r.place s) c.more c.is whole in
    (omega arith, omega arith)
  where
    -- a whole record would have been read
    whole : r.stuck.could.more ≡ [] → ⊥
    whole e =
        let c = r.stuck.could in
        let t : form_text c.two c.number c.fields c.key ≡ take r.place s =
        c.is ∙ ap (λ (l : List ℕ). take r.place s ++ l) e ∙ append-nil (take r.place s) in
        let b : Begins s c.two c.number c.fields c.key =
        record { good = c.good; rest = drop r.place s; is = sym (take-append-drop r.place s) ∙ ap (λ (l : List ℕ). l ++ drop r.place s) (sym t) } in
        let z : ◌≡◌ {A = ℕ} done record_text_bad =
        sym (ap (λ x. x.refusal) (good-is-read s c.two c.number c.fields c.key b)) ∙ ap (λ x. x.refusal) r.answer in
        omega arith

first_byte : (s more : List ℕ) (p : ℕ) → 0 < line_ends (take p s) → get_or (take p s ++ more) 0 0 ≡ get_or s 0 0
unfolding line_ends
first_byte [] more zero h = absurd (omega arith)
first_byte [] more (suc p) h = absurd (omega arith)
first_byte (b ∷ s) more zero h = absurd (omega arith)
first_byte (b ∷ s) more (suc p) h = refl

-- lines above 7 only in a text whose first line is that of form 2
pub above-seven : (s : List ℕ) (r : Refused s) → 7 < (record_read s).line → starts_form s ≡ true
unfolding line_of starts_form form_text
above-seven s r h = go r.stuck.could.two refl
  where
    line : (record_read s).line ≡ 1 + line_ends (take r.place s)
    line = ap (λ x. x.line) r.answer

    go : (two : Bool) → r.stuck.could.two ≡ two → eqb (get_or s 0 0) 102 ≡ true
    go true e =
        let c = r.stuck.could in
        eq-eqb (get_or s 0 0) 102
        (sym (first_byte s c.more r.place (omega (arith, line, h))) ∙ ap (λ (l : List ℕ). get_or l 0 0) (sym c.is)
        ∙ ap (λ (two : Bool). get_or (form_text two c.number c.fields c.key) 0 0) e)
    go false e =
        let most : (record_read s).line ≤ 7 = subst (λ (two : Bool). (record_read s).line ≤ pick two 10 7) e (line-number s r).1 in
        absurd (omega (arith, h, most))

-- WRITING, in form 2 only

-- a good record is good for the other form too, if its network codes are
pub of-form : (two other : Bool) {number : ℕ} {f : Fields} {key : List ℕ} → Good two number f key → InCode other 1023 f.mcc → InCode other 16383 f.mnc
    → Good other number f key
of-form two other g mcc mnc =
    record {
      slot = g.slot;
      version = g.version;
      algorithm = g.algorithm;
      usage = g.usage;
      side = g.side;
      place = g.place;
      mcc = mcc;
      mnc = mnc;
      size = g.size;
      bytes = g.bytes;
    }

-- what is read, of either form, is good for form 2
pub for-two : (two : Bool) {number : ℕ} {f : Fields} {key : List ℕ} → Good two number f key → Good true number f key
for-two true g = g
for-two false g = of-form false true g (omega (arith, g.mcc)) (omega (arith, g.mnc))

-- what is read is written as the text of form 2 of the same key, into any buffer that has room for it
pub read-then-written-new : (s b : List ℕ) → (record_read s).refusal ≡ done
    → length (record_text (record_read s).number (record_read s).fields (record_read s).key) ≤ length b
    → let t = record_text (record_read s).number (record_read s).fields (record_read s).key in
    (record_written (record_read s).number (asked_of (record_read s).fields) (record_read s).key b ≡ record { refusal = done; length = length t })
    × (buffer_written (record_read s).number (asked_of (record_read s).fields) (record_read s).key b ≡ t ++ drop (length t) b)
read-then-written-new s b h l =
    put_whole _ (asked_of (record_read s).fields) _ b
    (nothing-refused _ (record_read s).fields _ b (for-two (starts_form s) (read-is-good s h).0.good) l)

-- so a record of form 2 is written back as the same bytes
pub read-then-written : (s b : List ℕ) → (record_read s).refusal ≡ done → starts_form s ≡ true → (record_read s).used ≤ length b
    → (record_written (record_read s).number (asked_of (record_read s).fields) (record_read s).key b ≡ record { refusal = done; length = (record_read s).used })
    × (buffer_written (record_read s).number (asked_of (record_read s).fields) (record_read s).key b ≡ take (record_read s).used s ++ drop (record_read s).used b)
read-then-written s b h two l =
    let r = read-is-good s h in
    let t = record_text (record_read s).number (record_read s).fields (record_read s).key in
    let form : form_text (starts_form s) (record_read s).number (record_read s).fields (record_read s).key ≡ t =
    ap (λ (x : Bool). form_text x (record_read s).number (record_read s).fields (record_read s).key) two in
    let used : (record_read s).used ≡ length t = r.1 ∙ ap length form in
    let w = read-then-written-new s b h (omega (arith, used)) in
    let same : take (record_read s).used s ≡ t =
    ap (take (record_read s).used) (r.0.is ∙ ap (λ (x : List ℕ). x ++ r.0.rest) form) ∙ take_at t r.0.rest _ (sym used) in (
      w.0 ∙ (λ i. record { refusal = done; length = sym used i }),
      w.1 ∙ (λ i. sym same i ++ drop (sym used i) b),
    )

-- what is written is read back. (A version is 16 bits and a key's bytes are 8 bits by their kind.)
pub written-then-read : (number : ℕ) (asked : Asked) (key b : List ℕ) → asked.version ≤ 65535 → length key ≡ 24 → ((i : ℕ) → get_or key i 0 < 256)
    → (record_written number asked key b).refusal ≡ done
    → record_read (buffer_written number asked key b)
    ≡ entry_read (record { number = number; fields = stored_of asked; key = key }) (record_written number asked key b).length
unfolding record_written
written-then-read number asked key b v n k h =
    let t = record_text number (stored_of asked) key in
    let a = writing-accepts number asked key b h in
    let r = right asked a.rights in
    let w = put_whole number asked key b h in
    let g : Good true number (stored_of asked) key =
    record {
      slot = a.slot;
      version = v;
      algorithm = a.algorithm;
      usage = r.usage;
      side = r.side;
      place = r.place;
      mcc = r.mcc;
      mnc = r.mnc;
      size = n;
      bytes = k;
    } in
    good-is-read (buffer_written number asked key b) true number (stored_of asked) key (record { good = g; rest = drop (length t) b; is = w.1 })
    ∙ ap (entry_read (record { number = number; fields = stored_of asked; key = key })) (sym (ap (λ x. x.length) w.0))
