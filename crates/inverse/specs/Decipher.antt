-- The inverse cipher (the Rijndael proposal, 5.3) with blocks of 256 bits, keys of 192 bits and so 14 rounds. Assumes nothing: these are definitions.
use Rattle.std.specs.Prelude.{List, ℕ, zero, suc, ◌-◌}
use Rattle.laws.specs.Lists.{tabulate}
use Rattle.round_steps.specs.Steps.{add_round_key}
use Rattle.rijndael.specs.Cipher.{to_state, to_block}
use Rattle.inv_parts.specs.Steps.{inv_byte_sub, inv_shift_row, inv_mix_column}
use Rattle.inv_parts.specs.Schedule.{inv_key_word}

-- round n of the inverse, and its final round, which mixes no column
abbrev pub inv_round_of : List ℕ → ℕ → List (List ℕ) → List (List ℕ)
inv_round_of w n s = add_round_key w n (inv_mix_column (inv_shift_row (inv_byte_sub s)))

abbrev pub inv_final_round : List ℕ → ℕ → List (List ℕ) → List (List ℕ)
inv_final_round w n s = add_round_key w n (inv_shift_row (inv_byte_sub s))

-- n rounds: 13, 12, ..
unfoldable pub inv_rounds : List ℕ → List (List ℕ) → ℕ → List (List ℕ)
inv_rounds w s zero = s
inv_rounds w s (suc n) = inv_round_of w (13 - n) (inv_rounds w s n)

-- the last key, rounds 13 to 1, and the final round
unfoldable pub decrypted : List ℕ → List (List ℕ) → List (List ℕ)
decrypted w s = inv_final_round w 0 (inv_rounds w (add_round_key w 14 s) 13)

-- the block b under the key k
unfoldable pub decipher : List ℕ → List ℕ → List ℕ
decipher k b = to_block (decrypted (tabulate (inv_key_word k) 0 120) (to_state b))
