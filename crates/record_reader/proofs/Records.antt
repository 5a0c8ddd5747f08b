-- The form of a record spells exactly the good records, each as its text. Assumes nothing.
use mathlib.Core.Path.{◌≡◌, refl, sym, ap, ◌∙◌}
use mathlib.Core.List.{List, [], ◌∷◌}
use mathlib.Core.Bool.{Bool, true, false}
use Prim.Native.Nat.{ℕ, ◌≤◌}
use Prim.Native.String.{String}
use Rattle.algorithms.specs.Algorithm.{name_of}
use Rattle.fields.specs.Fields.{is_algorithm, is_use}
use Rattle.fields.specs.declared.Fields.{Fields}
use native.Mathlib.Omega.{arith}
use borrow.Author.Tests.{leb-true, le-leb}
use Rattle.fields.proofs.Ranges.{between-low, between-high}
use Rattle.laws.specs.Choice.{pick}
use Rattle.std.proofs.Common.{Result, Ok, Err}
use Rattle.std.specs.Result.{IsErrAnd}
use Rattle.reading.specs.declared.WrongAt.{WrongAt}
use Rattle.record_reader.specs.declared.Record.{Record}
use Rattle.reading.specs.declared.Reading.{Reading}
use Rattle.reading.specs.Reading.{onward, answer}
use Rattle.record_reader.specs.Lines.{KeyReading, key_answer, use_form, algorithm_form, code_form, key_form}
use Rattle.writing.specs.Text.{ascii, digits, hex_text, line_text}
use Rattle.record_text.specs.Text.{use_word, code_text, lines_text, form_text, InCode, Good}
use Rattle.forms.specs.Form.{Form, done, Outcome, found, wrong, read_at, literal, line, ◌>>=◌}
use Rattle.forms.specs.Decimals.{decimal}
use Rattle.record_reader.specs.Record.{Entry, lines_form, record_form, opened, outcome_of, read_answer, record_read, starts_form}
use Rattle.forms.proofs.Forms.{Spells, spelt, onto, Means, line-means, then-means, last-means, stops, stop-within}
use Prim.Native.Nat.{zero-le}
use Rattle.std.specs.Prelude.{IfErr, length}
use Rattle.forms.proofs.Decimals.{decimal-means, between_is}
use Rattle.record_reader.proofs.Lines.{use-means, algorithm-means, key-means}
use Rattle.reading.proofs.Steps.{on_both, on-at, on_then, step-done}
use Rattle.forms.proofs.Hexes.{Bytes}

-- the lines

abbrev pub NumberLine : String → ℕ → ℕ → Type 0
NumberLine name low high = Means (line name (decimal low high)) (λ n. (low ≤ n) × (n ≤ high)) (λ n. line_text name (digits n))

number-line : NumberLine "number=" 1 32
number-line = line-means "number=" (decimal 1 32) (decimal-means 1 32 (omega arith) (λ _. omega arith))

pub version-line : NumberLine "version=" 0 65535
version-line = line-means "version=" (decimal 0 65535) (decimal-means 0 65535 (omega arith) (λ _. omega arith))

pub algorithm-line : Means (line "alg=" algorithm_form) (λ a. is_algorithm a ≡ true) (λ a. line_text "alg=" (name_of a))
algorithm-line = line-means "alg=" algorithm_form algorithm-means

pub use-line : Means (line "use=" use_form) (λ u. is_use u ≡ true) (λ u. line_text "use=" (use_word u))
use-line = line-means "use=" use_form use-means

pub side-line : NumberLine "side=" 0 1
side-line = line-means "side=" (decimal 0 1) (decimal-means 0 1 (omega arith) (λ h. omega arith))

pub place-line : NumberLine "place=" 0 79
place-line = line-means "place=" (decimal 0 79) (decimal-means 0 79 (omega arith) (λ _. omega arith))

code-line : (two : Bool) (name : String) (high : ℕ) → Means (code_form two name high) (InCode two high) (code_text two name)
code-line true name high =
    let m = line-means name (decimal 0 high) (decimal-means 0 high (omega arith) (λ _. omega arith)) in
    record { spells = λ n g. m.spells n (omega arith, g); only = λ n w h. let r = m.only n w h in (r.0.1, r.1); live = m.live }
code-line false name high = record { spells = λ n g. sym g; only = only; live = tt }
  where
    only : (n : ℕ) (w : List ℕ) → Spells (done 0) n w → (n ≡ 0) × (w ≡ [])
    only n [] h = (sym h, refl)
    only n (b ∷ w) h = absurd h

key-line : Means (line "key=" key_form) (Bytes 24) (λ key. line_text "key=" (hex_text key))
key-line = line-means "key=" key_form key-means

-- the record

abbrev InRange : ℕ → ℕ → ℕ → Type 0
InRange low n high = (low ≤ n) × (n ≤ high)

abbrev AllGood : Bool → Entry → Type 0
AllGood two e =
    InRange 1 e.number 32
    × (InRange 0 e.fields.version 65535
    × ((is_algorithm e.fields.algorithm ≡ true)
    × ((is_use e.fields.usage ≡ true)
    × (InRange 0 e.fields.side 1
    × (InRange 0 e.fields.place 79
    × (InCode two 1023 e.fields.mcc
    × (InCode two 16383 e.fields.mnc
    × Bytes 24 e.key)))))))

lines-mean : (two : Bool) → Means (lines_form two) (λ e. AllGood two e × Unit) (λ e. lines_text two e.number e.fields e.key)
unfolding lines_form lines_text
lines-mean two =
    then-means (line "number=" (decimal 1 32)) (λ e. e.number) number-line _
    (λ number. then-means (line "version=" (decimal 0 65535)) (λ e. e.fields.version) version-line _
    (λ version. then-means (line "alg=" algorithm_form) (λ e. e.fields.algorithm) algorithm-line _
    (λ algorithm. then-means (line "use=" use_form) (λ e. e.fields.usage) use-line _
    (λ usage. then-means (line "side=" (decimal 0 1)) (λ e. e.fields.side) side-line _
    (λ side. then-means (line "place=" (decimal 0 79)) (λ e. e.fields.place) place-line _
    (λ place. then-means (code_form two "mcc=" 1023) (λ e. e.fields.mcc) (code-line two "mcc=" 1023) _
    (λ mcc. then-means (code_form two "mnc=" 16383) (λ e. e.fields.mnc) (code-line two "mnc=" 16383) _
    (λ mnc. last-means (line "key=" key_form) (λ e. e.key) key-line _
    (λ key. ((((((((tt, refl), refl), refl), refl), refl), refl), refl), refl)) (λ key. refl)
    (λ e k. sym (λ i.
    record {
      number = k.0.0.0.0.0.0.0.1 i;
      fields =
          record {
            version = k.0.0.0.0.0.0.1 i;
            algorithm = k.0.0.0.0.0.1 i;
            usage = k.0.0.0.0.1 i;
            side = k.0.0.0.1 i;
            place = k.0.0.1 i;
            mcc = k.0.1 i;
            mnc = k.1 i;
          };
      key = e.key;
    }))))))))))

is-good : (two : Bool) (e : Entry) → AllGood two e → Good two e.number e.fields e.key
is-good two e g =
    let r = g.1.1.1.1.1 in
    record {
      slot = between_is 1 e.number 32 g.0.0 g.0.1;
      version = g.1.0.1;
      algorithm = g.1.1.0;
      usage = g.1.1.1.0;
      side = le-leb e.fields.side 1 g.1.1.1.1.0.1;
      place = le-leb e.fields.place 79 r.0.1;
      mcc = r.1.0;
      mnc = r.1.1.0;
      size = r.1.1.1.0;
      bytes = r.1.1.1.1;
    }

all-good : (two : Bool) (e : Entry) → Good two e.number e.fields e.key → AllGood two e
all-good two e g = (
  (between-low 1 e.number 32 g.slot, between-high 1 e.number 32 g.slot),
  (
    (omega arith, g.version),
    (
      g.algorithm,
      (
        g.usage,
        (
          (omega arith, leb-true e.fields.side 1 g.side),
          ((omega arith, leb-true e.fields.place 79 g.place), (g.mcc, (g.mnc, (g.size, g.bytes)))),
        ),
      ),
    ),
  ),
)

-- the fields of a good record fit a slot
pub record Small (f : Fields) : Type 0 where
  pub version : f.version ≤ 65535
  pub algorithm : f.algorithm ≤ 7
  pub usage : f.usage ≤ 3
  pub side : f.side ≤ 1
  pub place : f.place ≤ 79
  pub mcc : f.mcc ≤ 1023
  pub mnc : f.mnc ≤ 16383

code-small : (two : Bool) (high n : ℕ) → InCode two high n → n ≤ high
code-small true high n h = h
code-small false high n h = omega arith

pub small : {two : Bool} {number : ℕ} {f : Fields} {key : List ℕ} → Good two number f key → Small f
small {two} {number} {f} {key} g =
    record {
      version = g.version;
      algorithm = between-high 5 f.algorithm 7 g.algorithm;
      usage = between-high 1 f.usage 3 g.usage;
      side = leb-true f.side 1 g.side;
      place = leb-true f.place 79 g.place;
      mcc = code-small two 1023 f.mcc g.mcc;
      mnc = code-small two 16383 f.mnc g.mnc;
    }

form-means : (two : Bool) → Means (record_form two) (λ e. AllGood two e × Unit) (λ e. form_text two e.number e.fields e.key)
unfolding record_form form_text
form-means true = line-means "form=2\n" (lines_form true) (lines-mean true)
form-means false = lines-mean false

pub record-means : (two : Bool) → Means (record_form two) (λ e. Good two e.number e.fields e.key) (λ e. form_text two e.number e.fields e.key)
record-means two =
    let m = form-means two in
    record {
      spells = λ e g. m.spells e (all-good two e g, tt);
      only = λ e w h. let r = m.only e w h in (is-good two e r.0.0, r.1);
      live = m.live;
    }

-- the fields of a record that is read fit a slot
pub small-read : (two : Bool) (s : List ℕ) (e : Entry) (place : ℕ) → read_at (record_form two) s 0 ≡ found e place → Small e.fields
small-read two s e place q =
    let r = spelt (record_form two) s 0 e place q in
    small ((record-means two).only e r.text r.spells).0

-- a wrong place that is passed on
pub outcome-passed : (r : Result Record WrongAt) {w : WrongAt} → IsErrAnd r (λ y. y ≡ w) → outcome_of r ≡ wrong w.place
outcome-passed (Ok x) h = absurd h
outcome-passed (Err y) h = ap (λ (x : WrongAt). wrong x.place) h

-- a key, and then what follows it
key-then : {B : Type 0} (before : Reading) (f : Form (List ℕ)) (g : List ℕ → Form B) (s : List ℕ) {a : KeyReading} → a ≡ key_answer (onward before f s)
    → onward before (f >>= g) s ≡ pick a.good (read_at (g a.key) s a.place) (wrong a.place)
key-then {B} before f g s {a} e =
    on_both before f s g ∙ go (onward before f s)
    ∙ ap (λ (x : KeyReading). pick x.good (read_at (g x.key) s x.place) (wrong x.place)) (sym e)
  where
    go : (o : Outcome (List ℕ))
        → onto o (λ v q. read_at (g v) s q) ≡ pick (key_answer o).good (read_at (g (key_answer o).key) s (key_answer o).place) (wrong (key_answer o).place)
    go (found v q) = refl
    go (wrong q) = refl

-- Reading line after line, each after the one before it, is reading the record.
opened-on : (two : Bool) (s : List ℕ) → read_at (record_form two) s 0 ≡ onward (opened two s) (lines_form two) s
unfolding record_form opened
opened-on true s = sym (on-at (record_form true) s refl) ∙ on_then _ _ _ _ refl
opened-on false s = sym (on-at (record_form false) s refl)

module _ (two : Bool) (s : List ℕ) {start number version alg_name algorithm use_name usage side place mcc mnc key_name : Reading} {key : KeyReading} where
  pub lines-read :
      start ≡ opened two s
      → number ≡ answer (onward start (line "number=" (decimal 1 32)) s)
      → version ≡ answer (onward number (line "version=" (decimal 0 65535)) s)
      → alg_name ≡ answer (onward version (literal (ascii "alg=")) s)
      → algorithm ≡ answer (onward alg_name algorithm_form s)
      → use_name ≡ answer (onward algorithm (literal (ascii "use=")) s)
      → usage ≡ answer (onward use_name use_form s)
      → side ≡ answer (onward usage (line "side=" (decimal 0 1)) s)
      → place ≡ answer (onward side (line "place=" (decimal 0 79)) s)
      → mcc ≡ answer (onward place (code_form two "mcc=" 1023) s)
      → mnc ≡ answer (onward mcc (code_form two "mnc=" 16383) s)
      → key_name ≡ answer (onward mnc (literal (ascii "key=")) s)
      → key ≡ key_answer (onward key_name key_form s)
      → read_at (record_form two) s 0
      ≡ pick key.good
      (found (record {
        number = number.value;
        fields =
            record {
              version = version.value;
              algorithm = algorithm.value;
              usage = usage.value;
              side = side.value;
              place = place.value;
              mcc = mcc.value;
              mnc = mnc.value;
            };
        key = key.key;
      }) key.place)
      (wrong key.place)
  unfolding lines_form
  lines-read o n v an a un u si p c w kn k =
      opened-on two s
      ∙ ap (λ (x : Reading). onward x (lines_form two) s) (sym o)
      ∙ on_then _ _ _ _ n
      ∙ on_then _ _ _ _ v
      ∙ on_then _ _ _ _ (a ∙ ap answer (sym (on_then _ _ _ _ an)))
      ∙ on_then _ _ _ _ (u ∙ ap answer (sym (on_then _ _ _ _ un)))
      ∙ on_then _ _ _ _ si
      ∙ on_then _ _ _ _ p
      ∙ on_then _ _ _ _ c
      ∙ on_then _ _ _ _ w
      ∙ key-then _ _ _ _ (k ∙ ap key_answer (sym (on_then _ _ _ _ kn)))
      ∙ ap (λ o. pick key.good o (wrong key.place)) (step-done _ s key.place)

-- a byte that is wrong, or the end, lies within the text
pub front_within : (two : Bool) (s : List ℕ) (r : Result Record WrongAt) → outcome_of r ≡ read_at (record_form two) s 0 → IfErr r (λ w. w.place ≤ length s)
front_within two s (Ok _) e = tt
front_within two s (Err w) e = stop-within (stops (record_form two) (record-means two).live _ 0 _ (sym e)) zero-le

-- what was read of the form that the first byte tells is what reading answers
pub lines_answer : (s : List ℕ) (two : Bool) (r : Result Record WrongAt) → two ≡ starts_form s → outcome_of r ≡ read_at (record_form two) s 0
    → read_answer s (outcome_of r) ≡ record_read s
unfolding record_read
lines_answer s two r e o = ap (read_answer s) (o ∙ ap (λ (t : Bool). read_at (record_form t) s 0) e)
