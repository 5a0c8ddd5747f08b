-- The cipher (the Rijndael proposal, 4.1 and 4.4) with blocks of 256 bits, keys of 192 bits and so 14 rounds. Assumes nothing: these are definitions.
use Rattle.std.specs.Prelude.{List, ℕ, zero, suc, ◌+◌, ◌*◌, ◌/◌, ◌%◌, get_or}
use Rattle.laws.specs.Lists.{tabulate, cell, grid}
use Rattle.round_steps.specs.Steps.{add_round_key, round_of, final_round}
use Rattle.schedule.specs.Schedule.{key_word}

-- byte k of a block stands in row k mod 4, column k div 4
unfoldable pub to_state : List ℕ → List (List ℕ)
to_state b = grid 4 8 (λ r c. get_or b (4 * c + r) 0)

unfoldable pub to_block : List (List ℕ) → List ℕ
to_block s = tabulate (λ k. cell s (k % 4) (k / 4)) 0 32

-- rounds 1 to n
unfoldable pub rounds : List ℕ → List (List ℕ) → ℕ → List (List ℕ)
rounds w s zero = s
rounds w s (suc n) = round_of w (suc n) (rounds w s n)

-- the initial key, rounds 1 to 13, and the final round
unfoldable pub encrypted : List ℕ → List (List ℕ) → List (List ℕ)
encrypted w s = final_round w 14 (rounds w (add_round_key w 0 s) 13)

-- the block b under the key k
unfoldable pub cipher : List ℕ → List ℕ → List ℕ
cipher k b = to_block (encrypted (tabulate (key_word k) 0 120) (to_state b))
