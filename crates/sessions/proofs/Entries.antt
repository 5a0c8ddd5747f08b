-- The entries that C calls, tied to the run by their own contracts. Assumes nothing.
use mathlib.Core.List.{List}
use mathlib.Core.Path.{◌≡◌, ◌∙◌}
use lib.ListN.{length}
use base.Logic.{SProp, ent}
use contract.Lifetimes.{Lfts}
use contract.Monad.{Fun, fact, fact_mono}
use denote.Triple.Entry.{Args, Res}
use denote.Triple.Clauses.{Ended, Lasts, AtExit, at_exit}
use types.Logic.{Logic}
use seplogic.Ra.Ura.{Ura}
use prog.Memory.{Memory}
use prog.Routine.{Routine}
use Rattle.slots.specs.declared.Slot.{Slot}
use Rattle.faces.specs.Faces.{asking, pdu_as}
use Rattle.faces.specs.Faces.{shown_as}
use Rattle.card.specs.contracts.table.card_load as entry-load
use Rattle.card.specs.contracts.table.card_move as entry-move
use Rattle.card.specs.contracts.table.card_clear as entry-clear
use Rattle.card.specs.contracts.table.card_read as entry_read
use Rattle.card.specs.contracts.table.card_traffic as entry-traffic
use Rattle.card.specs.contracts.table.card_pdu as entry-pdu
use Rattle.two_runs.specs.Calls.{span, pdu, Call, load, move, clear, read, traffic}
use Rattle.two_runs.specs.Step.{Step, changing, reading, ciphering}
use Rattle.two_runs.specs.Card.{step}
use Rattle.demand_3.specs.Ours.{our_card}
use Rattle.sessions.proofs.Lent.{lent-load-steps, lent-move-steps, lent-clear-steps, lent-read-steps, lent-traffic-steps, lent-pdu-steps}

-- a call of a function, as its caller has it: the arguments, the last value of all that was lent to be written, and the answer
pub record Made (T : Ended) : Type 0 where
  pub κs : Lfts T.signature.lifetimes
  pub args : Args T.signature κs
  pub last : Lasts T κs args
  pub answer : Res T.signature κs

-- the parameters as they are seen at exit
abbrev ends : (T : Ended) (m : Made T) → AtExit T m.κs
ends T m = at_exit T m.κs m.args m.last

-- a call of an entry
pub data Entry : Type 0 where
  card-load : Made entry-load.ended → Entry
  card-move : Made entry-move.ended → Entry
  card-clear : Made entry-clear.ended → Entry
  card-read : Made entry_read.ended → Entry
  card-traffic : Made entry-traffic.ended → Entry
  card-pdu : Made entry-pdu.ended → Entry

-- the records that it was lent
abbrev pub before : Entry → List Slot
before (card-load m) = m.args.0.now
before (card-move m) = m.args.0.now
before (card-clear m) = m.args.0.now
before (card-read m) = m.args.0.now
before (card-traffic m) = m.args.0.now
before (card-pdu m) = m.args.0.now

-- the call that it is, in the terms of demand 3
abbrev pub called : Entry → Call
called (card-load m) =
    let (t, (number, (version, (algorithm, (usage, (side, (place, (mcc, (mnc, (key, end)))))))))) = m.args in
    load number (asking version algorithm usage side place mcc mnc) key.now
called (card-move m) = let (t, (from, (to, (asked, end)))) = m.args in move from to asked
called (card-clear m) = let (t, (number, end)) = m.args in clear number
called (card-read m) = let (t, (number, end)) = m.args in read number
called (card-traffic m) =
    let (t, (direction, (number, (iv, (buf, (start, (n, (skip, end)))))))) = m.args in
    traffic (record { direction = direction; number = number; iv = iv.now }) buf.now (span start n skip)
called (card-pdu m) =
    let (t, (direction, (number, (iv, (buf, (kind, (state, (l, (a, (s, end)))))))))) = m.args in
    traffic (record { direction = direction; number = number; iv = iv.now }) buf.now (pdu (pdu_as kind state l a s))

-- what C has afterwards: the records, and all that was given to it
abbrev pub left : Entry → Step
left (card-load m) = let (t, rest) = ends _ m in changing (record { refusal = m.answer; table = t.now })
left (card-move m) = let (t, rest) = ends _ m in changing (record { refusal = m.answer; table = t.now })
left (card-clear m) = let (t, rest) = ends _ m in changing (record { refusal = m.answer; table = t.now })
left (card-read m) =
    let (t, (number, (there, (version, (algorithm, (usage, (side, (place, (mcc, (mnc, end)))))))))) = ends _ m in
    reading t.now (shown_as m.answer there.now version.now algorithm.now usage.now side.now place.now mcc.now mnc.now)
left (card-traffic m) =
    let (t, (direction, (number, (iv, (buf, (start, (n, (skip, (blocks, end))))))))) = ends _ m in
    ciphering t.now m.answer blocks.now buf.now
left (card-pdu m) =
    let (t, (direction, (number, (iv, (buf, (kind, (state, (l, (a, (s, (blocks, end))))))))))) = ends _ m in
    ciphering t.now m.answer blocks.now buf.now

module _ {M : Type 1} {𝓤 : Ura M} (𝓛 : Logic 𝓤) (mem : Memory → SProp 𝓤) (run : Routine → Fun 𝓤) where
  -- what the entry's contract promises of the call
  abbrev pub promised : Entry → SProp 𝓤
  promised (card-load m) = (entry-load.clauses 𝓛 mem run m.κs m.args).ensures tt m.answer (ends _ m)
  promised (card-move m) = (entry-move.clauses 𝓛 mem run m.κs m.args).ensures tt m.answer (ends _ m)
  promised (card-clear m) = (entry-clear.clauses 𝓛 mem run m.κs m.args).ensures tt m.answer (ends _ m)
  promised (card-read m) = (entry_read.clauses 𝓛 mem run m.κs m.args).ensures tt m.answer (ends _ m)
  promised (card-traffic m) = (entry-traffic.clauses 𝓛 mem run m.κs m.args).ensures tt m.answer (ends _ m)
  promised (card-pdu m) = (entry-pdu.clauses 𝓛 mem run m.κs m.args).ensures tt m.answer (ends _ m)

  -- the contract makes the call the step
  abbrev pub Steps : Entry → Type 1
  Steps x = length (before x) ≡ 32 → ent 𝓤 (promised x) (fact 𝓤 (left x ≡ step our_card (before x) (called x)))

  pub card-load-steps : (m : Made entry-load.ended) → Steps (card-load m)
  card-load-steps m whole = fact_mono 𝓤 _ _ (λ e. (λ i. changing (e i)) ∙ lent-load-steps _ whole _ _ _)

  pub card-move-steps : (m : Made entry-move.ended) → Steps (card-move m)
  card-move-steps m whole = fact_mono 𝓤 _ _ (λ e. (λ i. changing (e i)) ∙ lent-move-steps _ whole _ _ _)

  pub card-clear-steps : (m : Made entry-clear.ended) → Steps (card-clear m)
  card-clear-steps m whole = fact_mono 𝓤 _ _ (λ e. (λ i. changing (e i)) ∙ lent-clear-steps _ whole _)

  pub card-read-steps : (m : Made entry_read.ended) → Steps (card-read m)
  card-read-steps m whole = fact_mono 𝓤 _ _ (λ e. (λ i. reading (before (card-read m)) (e i)) ∙ lent-read-steps _ whole _)

  pub card-traffic-steps : (m : Made entry-traffic.ended) → Steps (card-traffic m)
  card-traffic-steps m whole = fact_mono 𝓤 _ _ (λ e. (λ i. ciphering (before (card-traffic m)) (e i).refusal (e i).blocks (e i).buffer) ∙ lent-traffic-steps _ whole _ _ _ _ _ _ _)

  pub card-pdu-steps : (m : Made entry-pdu.ended) → Steps (card-pdu m)
  card-pdu-steps m whole = fact_mono 𝓤 _ _ (λ e. (λ i. ciphering (before (card-pdu m)) (e i).refusal (e i).blocks (e i).buffer) ∙ lent-pdu-steps _ whole _ _ _ _ _)
