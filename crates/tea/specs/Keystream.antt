-- The blocks of the keystream (ETSI TS 104 053-2, clauses 5.4, 6.4, 7.4), over the mode. Assumes nothing: these are definitions.
use Rattle.std.specs.Prelude.{List, [], ◌∷◌, ◌++◌, ℕ}
use Rattle.words.specs.Words.{byte_of}
use Rattle.rijndael.specs.Cipher.{cipher}
use Rattle.tea.specs.declared.mode.Mode.{Mode}

-- 'T', 'E', 'A', the digit, and j as four bytes, the most significant first
abbrev pub tag : ℕ → ℕ → List ℕ
tag digit j = 84 ∷ 69 ∷ 65 ∷ digit ∷ byte_of j 0 ∷ byte_of j 1 ∷ byte_of j 2 ∷ byte_of j 3 ∷ []

-- p[0] to p[31]
unfoldable pub plaintext : List ℕ → ℕ → ℕ → List ℕ
plaintext ivm digit j = ivm ++ tag digit j

-- block j: the ciphertext of encryption j, under the mode key
unfoldable pub block_of : Mode → ℕ → List ℕ
block_of m j = cipher m.key (plaintext m.value m.digit j)
