-- What a use allows, and what a move may make of it (document 01, "Slots and rights"). Assumes nothing: these are definitions.
use Rattle.std.specs.Prelude.{Bool, ◌&&◌, ◌||◌, not, ℕ, eqb, leb}
use Rattle.laws.specs.Choice.{pick}
use Rattle.fields.specs.Fields.{between, is_use}

-- 1 send, 2 receive
abbrev pub is_direction : ℕ → Bool
is_direction d = between 1 d 2

-- use 3 includes both directions, another use itself alone
abbrev pub includes : ℕ → ℕ → Bool
includes usage code = eqb usage 3 || eqb usage code

-- 1 lies within 1 and 3, 2 within 2 and 3, 3 only within 3
abbrev pub within : ℕ → ℕ → Bool
within usage present = is_use usage && includes present usage

-- 0 asks for no other use
abbrev pub is_asked_use : ℕ → Bool
is_asked_use asked = leb asked 3

-- asked 0 keeps the present use
abbrev pub moved_use : ℕ → ℕ → ℕ
moved_use present asked = pick (eqb asked 0) present asked

-- the moved use lies within the present one
abbrev pub stays_within : ℕ → ℕ → Bool
stays_within present asked = within (moved_use present asked) present

-- asked 0 keeps send or receive alone: both has to be asked for
abbrev pub may_move : ℕ → ℕ → Bool
may_move present asked = stays_within present asked && not (eqb asked 0 && eqb present 3)
