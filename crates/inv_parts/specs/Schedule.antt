-- The inverse's own key schedule (the Rijndael proposal, 5.3): the words of the cipher's, with the round keys between the first and the last
-- through the inverse column mixing. Assumes nothing: these are definitions.
use Rattle.std.specs.Prelude.{List, ℕ, ltb}
use Rattle.laws.specs.Choice.{pick}
use Rattle.words.specs.Words.{join, byte_of}
use Rattle.schedule.specs.Schedule.{key_word}
use Rattle.inv_bytes.specs.Bytes.{inv_mixed_byte}

-- a word as a column, through the inverse column mixing
unfoldable pub inv_mixed_word : ℕ → ℕ
inv_mixed_word x =
    let a = byte_of x 0 in
    let b = byte_of x 1 in
    let c = byte_of x 2 in
    let d = byte_of x 3 in
    join (inv_mixed_byte a b c d) (inv_mixed_byte b c d a) (inv_mixed_byte c d a b) (inv_mixed_byte d a b c)

-- word i of a schedule, x, in the inverse's: words 8 to 111 are round keys 1 to 13
abbrev pub mixed_back : ℕ → ℕ → ℕ
mixed_back i x = pick (ltb i 8) x (pick (ltb i 112) (inv_mixed_word x) x)

-- word i of the inverse's schedule
unfoldable pub inv_key_word : List ℕ → ℕ → ℕ
inv_key_word k i = mixed_back i (key_word k i)
