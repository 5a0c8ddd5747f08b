-- The step is also that of the calls on a lent list of slot records: on 32 records, what their contracts cite is the step. Assumes nothing.
use mathlib.Core.List.{List}
use mathlib.Core.Path.{◌≡◌}
use Prim.Native.Nat.{ℕ}
use borrow.Author.Tests.{eq-eqb}
use lib.ListN.{length}
use Rattle.fields.specs.declared.Asked.{Asked}
use Rattle.slots.specs.declared.Slot.{Slot}
use Rattle.card.specs.Table.{loaded_in, moved_in, cleared_in, shown_in, traffic_answer_in, whole_answer_in}
use Rattle.whole.specs.declared.Pdu.{Pdu}
use Rattle.two_runs.specs.Calls.{span, pdu, load, move, clear, read, traffic}
use Rattle.two_runs.specs.Step.{changing, reading, ciphering}
use Rattle.two_runs.specs.Card.{step}
use Rattle.demand_3.specs.Ours.{our_card}

module _ (t : List Slot) (whole : length t ≡ 32) where
  pub lent-load-steps : (number : ℕ) (a : Asked) (key : List ℕ) → changing (loaded_in t number a key) ≡ step our_card t (load number a key)
  unfolding step
  lent-load-steps number a key = rw (eq-eqb (length t) 32 whole)

  pub lent-move-steps : (from to asked : ℕ) → changing (moved_in t from to asked) ≡ step our_card t (move from to asked)
  unfolding step
  lent-move-steps from to asked = rw (eq-eqb (length t) 32 whole)

  pub lent-clear-steps : (number : ℕ) → changing (cleared_in t number) ≡ step our_card t (clear number)
  unfolding step
  lent-clear-steps number = rw (eq-eqb (length t) 32 whole)

  pub lent-read-steps : (number : ℕ) → reading t (shown_in t number) ≡ step our_card t (read number)
  unfolding step
  lent-read-steps number = rw (eq-eqb (length t) 32 whole)

  pub lent-traffic-steps : (direction number : ℕ) (iv buf : List ℕ) (begin n skip : ℕ)
      → ciphering t ((traffic_answer_in t direction number iv buf begin n skip).refusal) ((traffic_answer_in t direction number iv buf begin n skip).blocks) ((traffic_answer_in t direction number iv buf begin n skip).buffer)
      ≡ step our_card t (traffic (record { direction = direction; number = number; iv = iv }) buf (span begin n skip))
  unfolding step
  lent-traffic-steps direction number iv buf begin n skip = rw (eq-eqb (length t) 32 whole)

  pub lent-pdu-steps : (direction number : ℕ) (iv buf : List ℕ) (u : Pdu)
      → ciphering t ((whole_answer_in t direction number iv buf u).refusal) ((whole_answer_in t direction number iv buf u).blocks) ((whole_answer_in t direction number iv buf u).buffer)
      ≡ step our_card t (traffic (record { direction = direction; number = number; iv = iv }) buf (pdu u))
  unfolding step
  lent-pdu-steps direction number iv buf u = rw (eq-eqb (length t) 32 whole)
