-- What a caller wants to know of traffic: the same call again brings the buffer back, two adjacent spans are one, a refused call changes
-- nothing, and the blocks reported are those that hold a used bit, with their bound. Assumes nothing.
use mathlib.Core.Bool.{Bool}
use mathlib.Core.Path.{◌≡◌, sym, ◌∙◌}
use mathlib.Core.List.{List}
use Prim.Native.Nat.{ℕ, ◌+◌, ◌-◌, ◌*◌, ◌<◌, ◌≤◌}
use native.Mathlib.Omega.{arith}
use borrow.Author.Tests.{eq-eqb, ne_eqb, lt-ltb, le-ltb}
use lib.ListN.{length, get_or}
use Rattle.slots.specs.declared.Slot.{Slot}
use Rattle.slots.specs.Slots.{slot_at}
use Rattle.span.specs.Span.{longest_buffer, longest_stream, xored}
use Rattle.block_counts.specs.Counts.{most_blocks}
use Rattle.span.proofs.Laws.{length-xored, xored-join, xored-twice}
use Rattle.span.proofs.Stream.{stream-lt}
use Rattle.block_counts.proofs.Blocks.{UsedBlock, Enumerates, blocks-counted, used-bound, used-most, used-beyond, used-to-end}
use Rattle.ciphering.specs.Span.{span_refusal}
use Rattle.traffic.proofs.Passed.{traffic-passed-of}
use Rattle.traffic.specs.Traffic.{slot_stream, use_refusal_of, traffic_refusal_of, trafficked_of, traffic_blocks_of, traffic_refusal, trafficked, traffic_blocks}

module _ (table : List Slot) (direction number : ℕ) (iv : List ℕ) where
  -- the refusal looks at the buffer's size alone
  same_size : (a b : List ℕ) (start n skip : ℕ) → length a ≡ length b
      → traffic_refusal table direction number iv a start n skip ≡ traffic_refusal table direction number iv b start n skip
  unfolding traffic_refusal_of
  same_size a b start n skip e = rw e

  module _ (buf : List ℕ) (start n skip : ℕ) where
    pub traffic-accepted : traffic_refusal table direction number iv buf start n skip ≡ 0
        → trafficked table direction number iv buf start n skip ≡ xored buf (slot_stream (slot_at table number) iv) start skip n
    unfolding trafficked_of
    traffic-accepted e = rw (eq-eqb _ 0 e)

    pub traffic-refused : (traffic_refusal table direction number iv buf start n skip ≡ 0 → ⊥) → trafficked table direction number iv buf start n skip ≡ buf
    unfolding trafficked_of
    traffic-refused ne = rw (ne_eqb _ 0 ne)

    -- the blocks of an accepted call are those that hold a used keystream bit, each counted once
    pub traffic-blocks : traffic_refusal table direction number iv buf start n skip ≡ 0
        → (l : List ℕ) × (length l ≡ traffic_blocks table direction number iv buf start n skip) × Enumerates (UsedBlock skip n) l
    unfolding traffic_blocks_of
    traffic-blocks e = rw (eq-eqb _ 0 e) (blocks-counted skip n)

  -- the same call on the result, with the table as it was, brings the buffer back
  pub traffic-twice : (buf : List ℕ) (start n skip : ℕ) → ((q : ℕ) → get_or buf q 0 < 256)
      → traffic_refusal table direction number iv buf start n skip ≡ 0
      → trafficked table direction number iv (trafficked table direction number iv buf start n skip) start n skip ≡ buf
  traffic-twice buf start n skip bytes e =
      let k = slot_stream (slot_at table number) iv in
      let once : trafficked table direction number iv buf start n skip ≡ xored buf k start skip n = traffic-accepted buf start n skip e in
      rw once
      (traffic-accepted (xored buf k start skip n) start n skip (same_size (xored buf k start skip n) buf start n skip (length-xored buf k start skip n) ∙ e)
      ∙ xored-twice k (stream-lt _) buf start skip n bytes)

  -- a call on n bits and then one on the m bits behind them is one call on n + m bits
  pub traffic-adjacent : (buf : List ℕ) (start n m skip : ℕ) → traffic_refusal table direction number iv buf start n skip ≡ 0
      → traffic_refusal table direction number iv buf (start + n) m (skip + n) ≡ 0 → traffic_refusal table direction number iv buf start (n + m) skip ≡ 0
      → trafficked table direction number iv (trafficked table direction number iv buf start n skip) (start + n) m (skip + n)
      ≡ trafficked table direction number iv buf start (n + m) skip
  traffic-adjacent buf start n m skip first second whole =
      let k = slot_stream (slot_at table number) iv in
      let once : trafficked table direction number iv buf start n skip ≡ xored buf k start skip n = traffic-accepted buf start n skip first in
      rw once
      (traffic-accepted (xored buf k start skip n) (start + n) m (skip + n) (same_size (xored buf k start skip n) buf (start + n) m (skip + n) (length-xored buf k start skip n) ∙ second)
      ∙ xored-join k (stream-lt _) buf start skip n m
      ∙ sym (traffic-accepted buf start (n + m) skip whole))

-- How much work a call may take (document 02, [10]), of any list of slots: by what the call sees of it.
module _ (bad : Bool) (slot : Slot) (direction number : ℕ) (iv buf : List ℕ) where
  -- what 5, 4 and 6 do not refuse is accepted, where the use is
  pub span-accepted : (start n skip : ℕ) → use_refusal_of bad slot direction number iv ≡ 0 → length buf ≤ longest_buffer → start + n ≤ 8 * length buf
      → skip + n ≤ longest_stream → 0 < n → traffic_refusal_of bad slot direction number iv buf start n skip ≡ 0
  unfolding traffic_refusal_of span_refusal
  span-accepted start n skip e small inside streamed some =
      rw
      (eq-eqb _ 0 e, le-ltb longest_buffer (length buf) small, ne_eqb n 0 (λ z. omega arith), le-ltb longest_stream (skip + n) streamed, le-ltb (8 * length buf) (start + n) inside)

  -- the bound: n bits take at most (n + 254) div 256 + 1 blocks
  pub traffic-bound : (start n skip : ℕ) → traffic_refusal_of bad slot direction number iv buf start n skip ≡ 0 → 0 < n
      → traffic_blocks_of bad slot direction number iv buf start n skip ≤ most_blocks n
  unfolding traffic_blocks_of
  traffic-bound start n skip e h = rw (eq-eqb _ 0 e) (used-bound skip n h)

  module _ (allowed : use_refusal_of bad slot direction number iv ≡ 0) (small : length buf ≤ longest_buffer) (n : ℕ) (fits : n ≤ 8 * length buf) where
    -- they take as many at skip 255, for each length from 1 to 8,033
    pub traffic-most : 0 < n → n ≤ 8033
        → (traffic_refusal_of bad slot direction number iv buf 0 n 255 ≡ 0) × (traffic_blocks_of bad slot direction number iv buf 0 n 255 ≡ most_blocks n)
    unfolding traffic_blocks_of
    traffic-most some h =
        let ok = span-accepted 0 n 255 allowed small (omega arith) (omega arith) some in
        (ok, rw (eq-eqb _ 0 ok) (used-most n some))

    -- beyond, skip 255 is refused with 4; the keystream's last bits are reached by a skip of 8,288 - n, with all of its 33 blocks
    pub traffic-past : 8033 < n → traffic_refusal_of bad slot direction number iv buf 0 n 255 ≡ 4
    unfolding traffic_refusal_of span_refusal
    traffic-past h = rw (eq-eqb _ 0 allowed, le-ltb longest_buffer (length buf) small, ne_eqb n 0 (λ z. omega arith), lt-ltb longest_stream (255 + n) (omega arith))

    pub traffic-to-end : 8033 < n → n ≤ longest_stream
        → (traffic_refusal_of bad slot direction number iv buf 0 n (longest_stream - n) ≡ 0) × (traffic_blocks_of bad slot direction number iv buf 0 n (longest_stream - n) ≡ 33)
    unfolding traffic_blocks_of
    traffic-to-end h streamed =
        let ok = span-accepted 0 n (longest_stream - n) allowed small (omega arith) (omega arith) (omega arith) in
        (ok, rw (eq-eqb _ 0 ok) (used-to-end n h streamed))

  -- and no call has more than 33
  pub traffic-beyond : (start n skip : ℕ) → traffic_refusal_of bad slot direction number iv buf start n skip ≡ 0 → 8033 < n
      → traffic_blocks_of bad slot direction number iv buf start n skip ≤ 33
  unfolding traffic_blocks_of
  traffic-beyond start n skip e h = rw (eq-eqb _ 0 e) (used-beyond skip n h (traffic-passed-of bad slot direction number iv buf start n skip e).span.streamed)
