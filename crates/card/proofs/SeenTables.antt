-- What the calls see of a lent list decides as the list does, and what they put there is what document 01 asks. Assumes nothing.
use mathlib.Core.Bool.{Bool, true, false, ◌&&◌, not}
use mathlib.Core.List.{List}
use mathlib.Core.Path.{◌≡◌, sym, ap, ◌∙◌}
use Prim.Native.Nat.{ℕ, ◌-◌}
use native.Mathlib.Omega.{arith}
use borrow.Author.Tests.{eqb-true, eq-eqb, lt-ltb, le-ltb, not-false}
use lib.Dec.{eqb, ltb}
use lib.ListN.{length, get_or, set, length-set}
use Rattle.laws.specs.Choice.{pick}
use Rattle.laws.proofs.Cases.{neither, pick-cases}
use Rattle.refusals.specs.Numbers.{done}
use Rattle.fields.specs.declared.Asked.{Asked}
use Rattle.fields.specs.Fields.{is_slot_number}
use Rattle.fields.proofs.Ranges.{between-low, between-high}
use Rattle.slots.specs.declared.Slot.{Slot}
use Rattle.slot_calls.specs.declared.Put.{Put}
use Rattle.slot_calls.specs.Answers.{Changed}
use Rattle.slots.specs.Slots.{has_bad, empty, keyless, nil, slot_at, with_slot}
use Rattle.rights.specs.Rights.{stays_within}
use Rattle.slot_calls.specs.Calls.{move_refusal_of, shown_of}
use Rattle.slot_calls.specs.Seen.{key_slot, put_to, changed_by, load_put, move_put, emptied_by, clear_put}
use Rattle.slots.proofs.Tables.{good-at}
use Rattle.slot_calls.proofs.Alike.{Seen, seen}
use Rattle.slot_calls.proofs.AsSeen.{Same, keyless-same, shown-seen}
use Rattle.slot_calls.proofs.Puts.{load-put, move-put, clear-put}
use Rattle.slot_calls.proofs.Passed.{MovePassedOf, load-passed-of, move-passed-of, clear-passed-of}
use Rattle.plan.specs.declared.Plan.{Plan}
use Rattle.traffic.specs.Traffic.{traffic_refusal_of, traffic_after}
use Rattle.traffic.proofs.Passed.{use-passed-of, traffic-passed-of}
use Rattle.traffic.proofs.SeenTraffic.{traffic-seen}
use Rattle.whole.specs.declared.Pdu.{Pdu}
use Rattle.whole.specs.Whole.{has_no_piece, judged_plan, whole_after}
use Rattle.whole.proofs.Passed.{whole-passed}
use Rattle.whole.proofs.Seen.{judged-number, whole-seen}
use Rattle.slot_list.specs.List.{is_table, is_no_table, place_of, fields_in, slot_in, put_in}
use Rattle.card.specs.Table.{loaded_in, moved_in, cleared_in, shown_in, traffic_answer_in, whole_answer_in}

abbrev refusal_of : Put → ℕ
refusal_of p = p.refusal

module _ (ys : List Slot) where
  a-table : is_no_table ys ≡ false → is_table ys ≡ true
  a-table e = not-false (is_table ys) (neither (not (is_table ys)) (has_bad ys) e).0

  module _ (number : ℕ) where
    -- the place of a slot's number lies in a table
    in_table : {A : Type 0} (x y : A) → is_table ys ≡ true → is_slot_number number ≡ true → pick (ltb (number - 1) (length ys)) x y ≡ x
    in_table {A} x y t h =
        ap (λ (b : Bool). pick b x y) (lt-ltb (number - 1) (length ys) (omega (arith, eqb-true (length ys) 32 t, between-low 1 number 32 h, between-high 1 number 32 h)))

    -- past the end there is nothing
    past_end : {A : Type 0} (x y : A) → pick (ltb (length ys) (length ys)) x y ≡ y
    past_end {A} x y = ap (λ (b : Bool). pick b x y) (le-ltb (length ys) (length ys) (omega arith))

    slot-there : is_no_table ys ≡ false → is_slot_number number ≡ true → slot_in ys number ≡ slot_at ys number
    slot-there e h =
        (λ i. let p = pick (a-table e i && h i) (number - 1) (length ys) in pick (ltb p (length ys)) (get_or ys p nil) empty)
        ∙ in_table (get_or ys (number - 1) nil) empty (a-table e) h

    -- the fields stand for the slot
    pub there-in : Same (is_no_table ys) number (keyless (fields_in ys number)) (slot_at ys number)
    there-in e h =
        ap (λ (s : Slot). seen (keyless s.fields)) (slot-there e h)
        ∙ keyless-same (slot_at ys number) (good-at ys (number - 1) (neither (not (is_table ys)) (has_bad ys) e).1)

    -- and the slot is read where its key is needed
    key_in : (needed : Bool) → needed ≡ true → is_no_table ys ≡ false → is_slot_number number ≡ true → slot_in ys (key_slot needed number) ≡ slot_at ys number
    key_in needed n e h = ap (λ (b : Bool). slot_in ys (key_slot b number)) n ∙ slot-there e h

    pub shown-in : shown_of (is_no_table ys) (keyless (fields_in ys number)) number ≡ shown_in ys number
    shown-in = shown-seen (is_no_table ys) number (keyless (fields_in ys number)) (slot_at ys number) there-in

    module _ (direction : ℕ) (iv buf : List ℕ) (start n skip : ℕ) where
      abbrev pub judged : ℕ
      judged = traffic_refusal_of (is_no_table ys) (keyless (fields_in ys number)) direction number iv buf start n skip

      pub traffic-in : (r : ℕ) → r ≡ judged → (k : ℕ) → k ≡ key_slot (eqb r done) number
          → traffic_after r (slot_in ys k) iv buf start n skip ≡ traffic_answer_in ys direction number iv buf start n skip
      traffic-in r e k f =
          (λ i. traffic_after (e i) (slot_in ys ((f ∙ ap (λ (x : ℕ). key_slot (eqb x done) number) e) i)) iv buf start n skip)
          ∙ traffic-seen (is_no_table ys) number (keyless (fields_in ys number)) (slot_at ys number) there-in direction iv buf start n skip (slot_in ys (key_slot (eqb judged done) number))
          (λ d. let passed = (traffic-passed-of _ _ _ _ _ _ _ _ _ d).allowed in key_in (eqb judged done) (eq-eqb judged done d) passed.good passed.slot.numbered)

    module _ (direction : ℕ) (iv buf : List ℕ) (u : Pdu) where
      abbrev pub planned : Plan
      planned = judged_plan (is_no_table ys) (keyless (fields_in ys number)) direction number iv buf u

      pub whole_in : (p : Plan) → p ≡ planned → (k : ℕ) → k ≡ key_slot (not (has_no_piece p)) number
          → whole_after p (slot_in ys k) iv buf ≡ whole_answer_in ys direction number iv buf u
      whole_in p e k f =
          (λ i. whole_after (e i) (slot_in ys ((f ∙ ap (λ (x : Plan). key_slot (not (has_no_piece x)) number) e) i)) iv buf)
          ∙ whole-seen (is_no_table ys) number (keyless (fields_in ys number)) (slot_at ys number) there-in direction iv buf u (slot_in ys (key_slot (not (has_no_piece planned)) number))
          (λ d some.
          let accepted = sym (judged-number (is_no_table ys) (keyless (fields_in ys number)) direction number iv buf u) ∙ d in
          let passed = use-passed-of _ _ _ _ _ (whole-passed _ _ _ _ _ _ _ accepted).room.allowed in
          key_in (not (has_no_piece planned)) (ap not some) passed.good passed.slot.numbered)

    module _ (put : Put) where
      abbrev from-to : ℕ → List Slot
      from-to i = pick (ltb i (length ys)) (set ys i put.slot) ys

      pub put_refused : eqb put.refusal done ≡ false → put_in ys number put ≡ ys
      put_refused e = ap (λ (b : Bool). from-to (pick b (place_of (length ys) number) (length ys))) e ∙ past_end (set ys (length ys) put.slot) ys

      put-done : eqb put.refusal done ≡ true → is_table ys ≡ true → is_slot_number number ≡ true → put_in ys number put ≡ with_slot ys number put.slot
      put-done e t h =
          ap (λ (b : Bool). from-to (pick b (place_of (length ys) number) (length ys))) e ∙ (λ i. from-to (pick (t i && h i) (number - 1) (length ys)))
          ∙ in_table (set ys (number - 1) put.slot) ys t h

      -- what is put into a table where it lies is what is put into a table
      pub put-in : (put.refusal ≡ done → (is_table ys ≡ true) × (is_slot_number number ≡ true)) → put_in ys number put ≡ put_to ys number put
      put-in h =
          pick-cases (λ (l : List Slot). put_in ys number put ≡ l) (eqb put.refusal done)
          (λ e. let passed = h (eqb-true put.refusal done e) in put-done e passed.0 passed.1)
          put_refused

      answers : (answer : Changed) → (put.refusal ≡ done → (is_table ys ≡ true) × (is_slot_number number ≡ true)) → changed_by ys number put ≡ answer
          → (r : ℕ) (zs : List Slot) → (r ≡ put.refusal) × (zs ≡ put_in ys number put) → (r ≡ answer.refusal) × (zs ≡ answer.table)
      answers answer h e r zs s = (s.0 ∙ ap (λ (c : Changed). c.refusal) e, s.1 ∙ put-in h ∙ ap (λ (c : Changed). c.table) e)

module _ (ys : List Slot) (number : ℕ) where
  pub cleared-in : (c : Put) → c ≡ clear_put (is_no_table ys) (keyless (fields_in ys number)) number → (r : ℕ) (zs : List Slot) → (r ≡ c.refusal) × (zs ≡ put_in ys number c) → (r ≡ (cleared_in ys number).refusal) × (zs ≡ (cleared_in ys number).table)
  cleared-in c e =
      answers ys number c (cleared_in ys number)
      (λ d. let passed = clear-passed-of (is_no_table ys) (keyless (fields_in ys number)) number (sym (ap refusal_of e) ∙ d) in (a-table ys passed.good, passed.slot.numbered))
      (ap (changed_by ys number) e ∙ clear-put (is_no_table ys) ys number (keyless (fields_in ys number)) (there-in ys number))

  pub loaded-in : (a : Asked) (key : List ℕ) (c : Put) → c ≡ load_put (is_no_table ys) (keyless (fields_in ys number)) number a key → (r : ℕ) (zs : List Slot) → (r ≡ c.refusal) × (zs ≡ put_in ys number c) → (r ≡ (loaded_in ys number a key).refusal) × (zs ≡ (loaded_in ys number a key).table)
  loaded-in a key c e =
      answers ys number c (loaded_in ys number a key)
      (λ d. let passed = load-passed-of (is_no_table ys) (keyless (fields_in ys number)) number a (sym (ap refusal_of e) ∙ d) in (a-table ys passed.good, passed.numbered))
      (ap (changed_by ys number) e ∙ load-put (is_no_table ys) ys number (keyless (fields_in ys number)) (there-in ys number) a key)

module _ (ys : List Slot) (from to asked : ℕ) where
  abbrev pub moving : ℕ
  moving = move_refusal_of (is_no_table ys) (keyless (fields_in ys from)) (keyless (fields_in ys to)) from to asked

  abbrev Passes : Type 0
  Passes = MovePassedOf (is_no_table ys) (keyless (fields_in ys from)) (keyless (fields_in ys to)) from to asked

  module _ (r : ℕ) (judged : r ≡ moving) (k : ℕ) (key : k ≡ key_slot (eqb r done) from) where
    passes : r ≡ done → Passes
    passes d = move-passed-of (is_no_table ys) (keyless (fields_in ys from)) (keyless (fields_in ys to)) from to asked (sym judged ∙ d)

    -- the slot that is carried
    carried : r ≡ done → slot_in ys k ≡ slot_at ys from
    carried d = ap (slot_in ys) key ∙ key_in ys from (eqb r done) (eq-eqb r done d) (passes d).good (passes d).from-numbered

    -- what it shows was judged
    pub carried-within : r ≡ done → stays_within (slot_in ys k).fields.usage asked ≡ true
    carried-within d =
        ap (λ (s : Slot). stays_within s.fields.usage asked) (carried d)
        ∙ sym (ap (λ (v : Seen). stays_within v.fields.usage asked) (there-in ys from (passes d).good (passes d).from-numbered))
        ∙ (passes d).narrow

    pub moved_in-put : (c : Put) → c ≡ move_put r (slot_in ys k) asked → (xs : List Slot) → xs ≡ put_in ys to c → (d : Put) → d ≡ emptied_by c → (q : ℕ) (zs : List Slot)
        → (q ≡ d.refusal) × (zs ≡ put_in xs from d) → (q ≡ (moved_in ys from to asked).refusal) × (zs ≡ (moved_in ys from to asked).table)
    moved_in-put c e xs x d f =
        answers xs from d (moved_in ys from to asked)
        (λ u. let passed = went (sym (ap refusal_of f) ∙ u) in (ap is_table first ∙ still passed.good, passed.from-numbered))
        ((λ i. changed_by (first i) from (f i)) ∙ (λ i. changed_by (put_to ys to (made i)) from (emptied_by (made i)))
        ∙ move-put (is_no_table ys) ys from to asked (keyless (fields_in ys from)) (keyless (fields_in ys to)) (there-in ys from) (there-in ys to) (slot_in ys k) (λ u. carried (judged ∙ u)))
      where
        went : c.refusal ≡ done → Passes
        went u = passes (sym (ap refusal_of e) ∙ u)

        made : c ≡ move_put moving (slot_in ys k) asked
        made = e ∙ ap (λ (n : ℕ). move_put n (slot_in ys k) asked) judged

        first : xs ≡ put_to ys to c
        first = x ∙ put-in ys to c (λ u. let passed = went u in (a-table ys passed.good, passed.to-numbered))

        -- a slot that is put leaves as many
        still : is_no_table ys ≡ false → is_table (put_to ys to c) ≡ true
        still good =
            pick-cases (λ (l : List Slot). is_table l ≡ true) (eqb c.refusal done)
            (λ u. ap (λ (m : ℕ). eqb m 32) (length-set ys (to - 1) c.slot) ∙ a-table ys good)
            (λ u. a-table ys good)
