-- Each answer of the check with what it says, in the order of document 02, [11]: of a list of pairs that is checked, exactly one of these holds.
-- Assumes nothing: these are definitions.
use Rattle.std.specs.Prelude.{◌≡◌, List, ℕ, ◌+◌, ◌<◌, ◌≤◌, length, get_or}
use Rattle.refusals.specs.Numbers.{conversion_text_bad, pair_list_bad, pair_differs}
use Rattle.record_reader.specs.Record.{Entry}
use Rattle.conversion.specs.Conversion.{Checked}
use Rattle.conversion.specs.Conversion.{checked_as, passes}
use Rattle.conversions.specs.Conforms.{In, Known, Pair, AlikeEntries, Numbered, Stands, Conforms}

-- past the end only ever a default
abbrev pub pair_at : List Pair → ℕ → Pair
pair_at pairs i = get_or pairs i (record { before = 0; after = 0 })

-- pair i names a number that is not there, or that an earlier pair names on its side
pub data Misnames (before after : List Entry) (pairs : List Pair) (i : ℕ) : Type 0 where
  before-missing : (Numbered before (pair_at pairs i).before → ⊥) → Misnames before after pairs i
  before-again : (k : ℕ) → k < i → (pair_at pairs k).before ≡ (pair_at pairs i).before → Misnames before after pairs i
  after-missing : (Numbered after (pair_at pairs i).after → ⊥) → Misnames before after pairs i
  after-again : (k : ℕ) → k < i → (pair_at pairs k).after ≡ (pair_at pairs i).after → Misnames before after pairs i

-- pair i is of two records that do not agree
pub record Differs (before after : List Entry) (pairs : List Pair) (i : ℕ) : Type 0 where
  pub from : Numbered before (pair_at pairs i).before
  pub to : Numbered after (pair_at pairs i).after
  pub apart : AlikeEntries from.entry to.entry → ⊥

-- i is the first of n for which something holds
pub record First (Holds : ℕ → Type 0) (n i : ℕ) : Type 0 where
  pub within : i < n
  pub here : Holds i
  pub earlier : (k : ℕ) → k < i → Holds k → ⊥

abbrev pub Never : (ℕ → Type 0) → ℕ → Type 0
Never Holds n = (i : ℕ) → i < n → Holds i → ⊥

-- an after record without a pair
pub record LeftOut (after : List Entry) (pairs : List Pair) : Type 0 where
  pub entry : Entry
  pub stands : In entry after
  pub alone : Stands pairs entry → ⊥

-- of two texts that read
pub data OfPairs (before after : List Entry) (pairs : List Pair) (c : Checked) : Type 0 where
  too_many : 32 < length pairs → c ≡ checked_as pair_list_bad 0 → OfPairs before after pairs c
  misnamed : length pairs ≤ 32 → (i : ℕ) → First (Misnames before after pairs) (length pairs) i → c ≡ checked_as pair_list_bad (i + 1) → OfPairs before after pairs c
  left_out : length pairs ≤ 32 → Never (Misnames before after pairs) (length pairs) → LeftOut after pairs → c ≡ checked_as pair_list_bad 0 → OfPairs before after pairs c
  widened : length pairs ≤ 32 → Never (Misnames before after pairs) (length pairs) → (LeftOut after pairs → ⊥)
      → (i : ℕ) → First (Differs before after pairs) (length pairs) i → c ≡ checked_as pair_differs (i + 1) → OfPairs before after pairs c
  conforming : Conforms before after pairs → c ≡ passes → OfPairs before after pairs c

-- of any two texts
pub data Verdict (before after : List ℕ) (pairs : List Pair) (c : Checked) : Type 0 where
  unread : (Known before × Known after → ⊥) → c ≡ checked_as conversion_text_bad 0 → Verdict before after pairs c
  checked : (b : Known before) (a : Known after) → OfPairs b.records a.records pairs c → Verdict before after pairs c
