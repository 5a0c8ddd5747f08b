-- What it means that a conversion gives no right more (document 02, [11]): a statement about two lists of records and a list of pairs. Nothing
-- here reads a text or goes through a table. Assumes nothing: these are definitions.
use Rattle.std.specs.Prelude.{◌≡◌, Bool, true, ◌⊎◌, List, [], ◌∷◌, ◌++◌, ℕ}
use Rattle.rights.specs.Rights.{within}
use Rattle.record_text.specs.Text.{form_text, Good}
use Rattle.record_reader.specs.Record.{Entry}

-- stands in a list
abbrev pub In : {A : Type 0} → A → List A → Type 0
In x [] = ⊥
In x (y ∷ l) = (x ≡ y) ⊎ In x l

-- no two of a list have one number
abbrev pub Apart : {A : Type 0} → (A → ℕ) → List A → Type 0
Apart number [] = Unit
Apart {A} number (x ∷ l) = ((y : A) → In y l → number y ≡ number x → ⊥) × Apart number l

-- a text reads whole: it is the texts of good records one after the other, each of form 1 or of form 2
pub record Opens (Rest : List ℕ → Type 0) (text : List ℕ) (e : Entry) : Type 0 where
  pub two : Bool
  pub good : Good two e.number e.fields e.key
  pub rest : List ℕ
  pub is : text ≡ form_text two e.number e.fields e.key ++ rest
  pub then : Rest rest

abbrev pub Reads : List ℕ → List Entry → Type 0
Reads text [] = text ≡ []
Reads text (e ∷ es) = Opens (λ rest. Reads rest es) text e

-- the records of a text that reads whole and repeats no number
pub record Known (text : List ℕ) : Type 0 where
  pub records : List Entry
  pub reads : Reads text records
  pub once : Apart (λ (e : Entry). e.number) records

pub record Pair : Type 0 where
  pub before : ℕ
  pub after : ℕ

-- key, version, algorithm, side, place and network are the same, and the use lies within the use before
pub record AlikeEntries (before after : Entry) : Type 0 where
  pub key : before.key ≡ after.key
  pub version : before.fields.version ≡ after.fields.version
  pub algorithm : before.fields.algorithm ≡ after.fields.algorithm
  pub side : before.fields.side ≡ after.fields.side
  pub place : before.fields.place ≡ after.fields.place
  pub mcc : before.fields.mcc ≡ after.fields.mcc
  pub mnc : before.fields.mnc ≡ after.fields.mnc
  pub usage : within after.fields.usage before.fields.usage ≡ true

-- a record of this number stands in a list
pub record Numbered (es : List Entry) (n : ℕ) : Type 0 where
  pub entry : Entry
  pub stands : In entry es
  pub number : entry.number ≡ n

-- both numbers of a pair exist, and the pair agrees
pub record Joins (before after : List Entry) (p : Pair) : Type 0 where
  pub from : Numbered before p.before
  pub to : Numbered after p.after
  pub agree : AlikeEntries from.entry to.entry

-- a record stands in a pair
pub record Stands (pairs : List Pair) (e : Entry) : Type 0 where
  pub pair : Pair
  pub listed : In pair pairs
  pub number : pair.after ≡ e.number

-- numbers don't repeat in either text; every after record stands in exactly one pair, and no before number stands in two; both numbers of each
-- pair exist, and the pair agrees
pub record Conforms (before after : List Entry) (pairs : List Pair) : Type 0 where
  pub before-once : Apart (λ (e : Entry). e.number) before
  pub after-once : Apart (λ (e : Entry). e.number) after
  pub each_stands : (e : Entry) → In e after → Stands pairs e
  pub in-one-pair : Apart (λ (p : Pair). p.after) pairs
  pub not-in-two : Apart (λ (p : Pair). p.before) pairs
  pub joined : (p : Pair) → In p pairs → Joins before after p

-- the same of two texts
pub record Converts (before after : List ℕ) (pairs : List Pair) : Type 0 where
  pub befores : List Entry
  pub afters : List Entry
  pub before-reads : Reads before befores
  pub after-reads : Reads after afters
  pub conforms : Conforms befores afters pairs

-- a flat list of numbers as pairs. One that is missing counts as 0, which is no record's number
abbrev pub pairs_of : List ℕ → List Pair
pairs_of [] = []
pairs_of (b ∷ []) = record { before = b; after = 0 } ∷ []
pairs_of (b ∷ a ∷ l) = record { before = b; after = a } ∷ pairs_of l
