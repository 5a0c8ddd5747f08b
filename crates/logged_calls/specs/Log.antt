-- The call log (document 02, [13]): what a line says, its text, and which lines are good. Assumes nothing: these are definitions.
use Rattle.std.specs.Prelude.{Bool, true, ◌&&◌, ◌||◌, List, [], ◌∷◌, ◌++◌, ◌≡◌, ℕ, ◌*◌, ◌≤◌, eqb, ltb, leb, length}
use Rattle.laws.specs.Choice.{pick}
use Rattle.fields.specs.Fields.{between}
use Rattle.writing.specs.Text.{digits, item, line_text}
use Rattle.logged_calls.specs.declared.Call.{Call}

-- the text of a line, with the LF that ends it
unfoldable pub call_text : Call → List ℕ
call_text c =
    item "slot=" (digits c.slot)
    ++ (item " dir=" (digits c.direction)
    ++ (item " bits=" (digits c.bits)
    ++ (item " blocks=" (digits c.blocks)
    ++ line_text " code=" (digits c.code))))

-- the largest number of a line's slot, direction, bits and blocks
abbrev pub largest_number : ℕ
largest_number = 65535

-- the last refusal's number, which is the largest code
abbrev pub largest_code : ℕ
largest_code = 27

-- the numbers that a line may have, whatever became of the call
pub record InForm (c : Call) : Type 0 where
  pub slot : c.slot ≤ largest_number
  pub direction : c.direction ≤ largest_number
  pub bits : c.bits ≤ largest_number
  pub blocks : c.blocks ≤ largest_number
  pub code : c.code ≤ largest_code

abbrev pub is_accepted : Call → Bool
is_accepted c = eqb c.code 0

-- the bits of a call, at most
abbrev pub most_bits : ℕ
most_bits = 8288

-- the blocks of a call, at most
abbrev pub largest_blocks : ℕ
largest_blocks = 33

-- an accepted call's slot is 1 to 32 and its direction 1 or 2; its bits fit its blocks, and there are no blocks where there are no bits
unfoldable pub sound_accepted : ℕ → ℕ → ℕ → ℕ → Bool
sound_accepted slot direction bits blocks =
    between 1 slot 32
    && (between 1 direction 2
    && (leb bits most_bits
    && (leb blocks largest_blocks
    && (leb bits (256 * blocks)
    && (ltb 0 bits || eqb blocks 0)))))

-- a refused call has a refusal's number, no bits and no blocks
unfoldable pub sound_refused : ℕ → ℕ → ℕ → Bool
sound_refused bits blocks code = leb code largest_code && (eqb bits 0 && eqb blocks 0)

unfoldable pub is_sound : Call → Bool
is_sound c = pick (is_accepted c) (sound_accepted c.slot c.direction c.bits c.blocks) (sound_refused c.bits c.blocks c.code)

-- a good line
pub record GoodCall (c : Call) : Type 0 where
  pub form : InForm c
  pub sound : is_sound c ≡ true

-- the lines of a log, at most
abbrev pub most_lines : ℕ
most_lines = 65535

-- the text of lines, one after the other
unfoldable pub log_text : List Call → List ℕ
log_text [] = []
log_text (c ∷ cs) = call_text c ++ log_text cs

pub data AllGood : List Call → Type 0 where
  none : AllGood []
  more : {c : Call} {cs : List Call} → GoodCall c → AllGood cs → AllGood (c ∷ cs)
