-- What writing refuses, and what it answers. Assumes nothing.
use Rattle.std.specs.Prelude.{Ok}
use mathlib.Core.Path.{◌≡◌, refl, ap, ◌∙◌}
use mathlib.Core.List.{List, ◌++◌}
use mathlib.Core.Bool.{true, not, ◌&&◌}
use Prim.Native.Nat.{ℕ, ◌+◌, ◌≤◌}
use native.Mathlib.Nat.{zero-add}
use native.Mathlib.Omega.{arith}
use lib.Dec.{ltb, lit<}
use lib.ListN.{length, drop}
use lib.Seq.{sets-eq}
use borrow.Author.Tests.{le-ltb, le-leb, ltb-false, leb-true, eqb-true, not-false}
use Rattle.laws.proofs.Cases.{and_left, and_right, unpicked, unpicked-own}
use Rattle.refusals.specs.Numbers.{done, slot_number_bad, algorithm_unknown, code_unknown, side_or_place_bad, network_bad, record_too_long}
use Rattle.fields.specs.Fields.{is_slot_number, is_algorithm, is_use, is_side, is_place, is_mcc, is_mnc, rights_refusal, stored_of, asked_of}
use Rattle.fields.specs.declared.Asked.{Asked}
use Rattle.fields.specs.declared.Fields.{Fields}
use Rattle.record_text.specs.Text.{record_text, Good}
use Rattle.writing.specs.Writing.{Room, Put, at_front}
use Rattle.refusals.proofs.Judged.{number-above_0}
use Rattle.writing.specs.Text.{digits}
use Rattle.record_text.proofs.Lengths.{text-length}
use Rattle.record_writer.specs.Written.{write_refusal, record_written_as, record_written, buffer_written}

module _ (number : ℕ) (asked : Asked) (key b : List ℕ) where
  pub record Accepted : Type 0 where
    pub slot : is_slot_number number ≡ true
    pub algorithm : is_algorithm asked.algorithm ≡ true
    pub rights : rights_refusal asked ≡ done
    pub room : length (record_text number (stored_of asked) key) ≤ length b

  pub accepted : write_refusal number asked key (length b) ≡ done → Accepted
  unfolding write_refusal
  accepted e =
      let s = unpicked (not (is_slot_number number)) slot_number_bad _ (lit< tt) e in
      let a = unpicked (not (is_algorithm asked.algorithm)) algorithm_unknown _ (lit< tt) s.1 in
      let r = unpicked-own (rights_refusal asked) _ a.1 in
      let l = unpicked (ltb (length b) (length (record_text number (stored_of asked) key))) record_too_long _ (lit< tt) r.1 in
      record {
        slot = not-false (is_slot_number number) s.0;
        algorithm = not-false (is_algorithm asked.algorithm) a.0;
        rights = eqb-true (rights_refusal asked) done r.0;
        room = ltb-false (length b) _ l.0;
      }

  -- the answers of what is not refused

  module _ (e : write_refusal number asked key (length b) ≡ done) where
    pub room : Room b 0 (record_text number (stored_of asked) key)
    room = record { fits = omega (arith, (accepted e).room) }

    pub written : {b' : List ℕ} {n : ℕ} → Put b 0 (record_text number (stored_of asked) key) b' n
        → (record_written_as (Ok n) ≡ record_written number asked key b) × (b' ≡ buffer_written number asked key b)
    unfolding record_written buffer_written
    written {b'} {n} p =
        let t = record_text number (stored_of asked) key in
        rw e (
          λ i. record_written_as (Ok ((p.ends ∙ zero-add (length t)) i)),
          p.holds ∙ sets-eq t b 0 room.fits ∙ ap (λ (k : ℕ). t ++ drop k b) (zero-add (length t)),
        )

-- a good record is refused only for want of room
pub nothing-refused : (number : ℕ) (f : Fields) (key b : List ℕ) → Good true number f key → length (record_text number f key) ≤ length b
    → write_refusal number (asked_of f) key (length b) ≡ done
unfolding write_refusal
nothing-refused number f key b g h =
    rw (
      g.slot,
      g.algorithm,
      g.usage,
      g.side,
      g.place,
      le-leb f.mcc 1023 g.mcc,
      le-leb f.mnc 16383 g.mnc,
      le-ltb (length b) (length (record_text number f key)) h,
    )

-- and then its text is put
pub put_whole : (number : ℕ) (asked : Asked) (key b : List ℕ) → write_refusal number asked key (length b) ≡ done
    → (record_written number asked key b ≡ record { refusal = done; length = length (record_text number (stored_of asked) key) })
    × (buffer_written number asked key b ≡ at_front (record_text number (stored_of asked) key) b)
unfolding record_written buffer_written
put_whole number asked key b e = rw e (refl, refl)

-- the fields that have no refusal
pub record Right (a : Asked) : Type 0 where
  pub usage : is_use a.usage ≡ true
  pub side : is_side a.side ≡ true
  pub place : is_place a.place ≡ true
  pub mcc : a.mcc ≤ 1023
  pub mnc : a.mnc ≤ 16383

pub right : (a : Asked) → rights_refusal a ≡ done → Right a
right a e =
    let u = unpicked (not (is_use a.usage)) code_unknown _ (lit< tt) e in
    let p = unpicked (not (is_side a.side && is_place a.place)) side_or_place_bad _ (lit< tt) u.1 in
    let n = unpicked (not (is_mcc a.mcc && is_mnc a.mnc)) network_bad _ (lit< tt) p.1 in
    let both = not-false _ p.0 in
    let codes = not-false _ n.0 in
    record {
      usage = not-false _ u.0;
      side = and_left (is_side a.side) _ both;
      place = and_right (is_side a.side) _ both;
      mcc = leb-true a.mcc 1023 (and_left (is_mcc a.mcc) _ codes);
      mnc = leb-true a.mnc 16383 (and_right (is_mcc a.mcc) _ codes);
    }

-- the length of a text whose rights are not refused
pub written-length : (number : ℕ) (a : Asked) (key : List ℕ) → rights_refusal a ≡ done → length key ≡ 24
    → length (record_text number (stored_of a) key)
    ≡ 119 + (length (digits number) + (length (digits a.version) + (length (digits a.place) + (length (digits a.mcc) + length (digits a.mnc)))))
written-length number a key e size = text-length number (stored_of a) key (right a e).side size

pub ruleset write_steps = (written-length, number-above_0)
