-- The inverse's rounds undo the cipher's, and the cipher's the inverse's, under the two schedules of one key. Assumes nothing.
use mathlib.Core.Path.{◌≡◌, refl, sym, ap, ◌∙◌}
use mathlib.Core.List.{List}
use Prim.Native.Nat.{ℕ, zero, suc, ◌+◌, ◌-◌, ◌*◌, ◌<◌, ◌≤◌}
use native.Mathlib.Omega.{arith}
use lib.ListN.{get_or}
use Rattle.laws.specs.Lists.{tabulate}
use Rattle.laws.proofs.Lists.{tabulate-at}
use Rattle.round_steps.specs.Steps.{mix_column, add_round_key, round_of}
use Rattle.schedule.specs.Schedule.{key_word}
use Rattle.rijndael.specs.Cipher.{rounds, encrypted}
use Rattle.inv_parts.specs.Steps.{inv_mix_column}
use Rattle.inv_parts.specs.Schedule.{inv_mixed_word, mixed_back, inv_key_word}
use Rattle.inverse.specs.Decipher.{inv_round_of, inv_rounds, decrypted}
use Rattle.inv_parts.proofs.MixedBack.{first-stays, last-stays, between-mixed}
use Rattle.both_ways.proofs.Steps.{Good, sub, unsub, sub-good, unsub-good, unsub-sub, sub-unsub, mix-good, unmix-good, unmix-mix, mix-unmix, key-good, key_twice, key-same, key-through}

no-round : (w : List ℕ) (s : List (List ℕ)) → rounds w s 0 ≡ s
unfolding rounds
no-round w s = refl

no-inv-round : (v : List ℕ) (s : List (List ℕ)) → inv_rounds v s 0 ≡ s
unfolding inv_rounds
no-inv-round v s = refl

module _ (k : List ℕ) where
  -- the two schedules
  abbrev w : List ℕ
  w = tabulate (key_word k) 0 120

  abbrev v : List ℕ
  v = tabulate (inv_key_word k) 0 120

  w_at : (i : ℕ) → i < 120 → get_or w i 0 ≡ key_word k i
  w_at i h = tabulate-at (key_word k) 0 refl i h

  v-at : (i : ℕ) → i < 120 → get_or v i 0 ≡ mixed_back i (key_word k i)
  unfolding inv_key_word
  v-at i h = tabulate-at (inv_key_word k) 0 refl i h

  -- the first and the last round key are the same in both
  first_key : (s : List (List ℕ)) → add_round_key v 0 s ≡ add_round_key w 0 s
  first_key s =
      key-same v w 0 s
      (λ c h. let i : 8 * 0 + c < 120 = omega arith in v-at (8 * 0 + c) i ∙ sym (first-stays (8 * 0 + c) (key_word k (8 * 0 + c)) (omega arith)) ∙ sym (w_at (8 * 0 + c) i))

  last-key : (s : List (List ℕ)) → add_round_key v 14 s ≡ add_round_key w 14 s
  last-key s =
      key-same v w 14 s
      (λ c h. let i : 8 * 14 + c < 120 = omega arith in v-at (8 * 14 + c) i ∙ sym (last-stays (8 * 14 + c) (key_word k (8 * 14 + c)) (omega arith)) ∙ sym (w_at (8 * 14 + c) i))

  -- and each between them went through the inverse mixing
  key-between : (n : ℕ) → 1 ≤ n → n < 14 → {s : List (List ℕ)} → Good s → add_round_key v n (inv_mix_column s) ≡ inv_mix_column (add_round_key w n s)
  key-between n l h g =
      key-through v w n g
      (λ c hc.
      let i : 8 * n + c < 120 = omega arith in
      v-at (8 * n + c) i ∙ sym (between-mixed (8 * n + c) (key_word k (8 * n + c)) (omega arith) (omega arith)) ∙ ap inv_mixed_word (sym (w_at (8 * n + c) i)))

  -- one round, and then its inverse
  back : (n : ℕ) → 1 ≤ n → n < 14 → {s : List (List ℕ)} → Good s → inv_round_of v n (sub (round_of w n s)) ≡ sub s
  back n l h {s} g =
      let u = sub-good g in
      let m = mix-good u in
      ap (λ (t : List (List ℕ)). add_round_key v n (inv_mix_column t)) (unsub-sub (key-good w n m))
      ∙ key-between n l h (key-good w n m)
      ∙ ap inv_mix_column (key_twice w n m)
      ∙ unmix-mix u

  -- one round of the inverse, and then the cipher's
  forth : (n : ℕ) → 1 ≤ n → n < 14 → {s : List (List ℕ)} → Good s → round_of w n (unsub (inv_round_of v n s)) ≡ unsub s
  forth n l h {s} g =
      let u = unsub-good g in
      ap (λ (t : List (List ℕ)). add_round_key w n (mix_column t)) (sub-unsub (key-good v n (unmix-good u)) ∙ key-between n l h u)
      ∙ ap (add_round_key w n) (mix-unmix (key-good w n u))
      ∙ key_twice w n u

  rounds-good : {s : List (List ℕ)} → Good s → (n : ℕ) → Good (rounds w s n)
  unfolding rounds
  rounds-good g zero = g
  rounds-good g (suc n) = key-good w (suc n) (mix-good (sub-good (rounds-good g n)))

  inv-rounds-good : {s : List (List ℕ)} → Good s → (n : ℕ) → Good (inv_rounds v s n)
  unfolding inv_rounds
  inv-rounds-good g zero = g
  inv-rounds-good g (suc n) = key-good v (13 - n) (unmix-good (unsub-good (inv-rounds-good g n)))

  -- m of the inverse's rounds leave n of the cipher's 13
  rounds-back : {s : List (List ℕ)} → Good s → (m n : ℕ) → m + n ≡ 13 → inv_rounds v (sub (rounds w s 13)) m ≡ sub (rounds w s n)
  unfolding rounds inv_rounds
  rounds-back {s} g zero n e = let z : 13 ≡ n = omega arith in ap (λ (j : ℕ). sub (rounds w s j)) z
  rounds-back {s} g (suc m) n e =
      let z : 13 - m ≡ suc n = omega arith in
      (λ i. inv_round_of v (z i) (rounds-back g m (suc n) (omega arith) i))
      ∙ back (suc n) (omega arith) (omega arith) (rounds-good g n)

  -- n of the cipher's rounds leave m of the inverse's 13
  rounds-forth : {s : List (List ℕ)} → Good s → (n m : ℕ) → n + m ≡ 13 → rounds w (unsub (inv_rounds v s 13)) n ≡ unsub (inv_rounds v s m)
  unfolding rounds inv_rounds
  rounds-forth {s} g zero m e = let z : 13 ≡ m = omega arith in ap (λ (j : ℕ). unsub (inv_rounds v s j)) z
  rounds-forth {s} g (suc n) m e =
      let z : 13 - m ≡ suc n = omega arith in
      ap (round_of w (suc n)) (rounds-forth g n (suc m) (omega arith) ∙ ap (λ (j : ℕ). unsub (inv_round_of v j (inv_rounds v s m))) z)
      ∙ forth (suc n) (omega arith) (omega arith) (inv-rounds-good g m)

  pub encrypted-good : {s : List (List ℕ)} → Good s → Good (encrypted w s)
  unfolding encrypted
  encrypted-good g = key-good w 14 (sub-good (rounds-good (key-good w 0 g) 13))

  pub decrypted-good : {s : List (List ℕ)} → Good s → Good (decrypted v s)
  unfolding decrypted
  decrypted-good g = key-good v 0 (unsub-good (inv-rounds-good (key-good v 14 g) 13))

  pub decrypted-back : {s : List (List ℕ)} → Good s → decrypted v (encrypted w s) ≡ s
  unfolding encrypted decrypted
  decrypted-back {s} g =
      let g0 = key-good w 0 g in
      let u = sub-good (rounds-good g0 13) in
      ap (λ (t : List (List ℕ)). add_round_key v 0 (unsub (inv_rounds v t 13))) (last-key _ ∙ key_twice w 14 u)
      ∙ ap (λ (t : List (List ℕ)). add_round_key v 0 (unsub t)) (rounds-back g0 13 0 refl)
      ∙ ap (add_round_key v 0) (unsub-sub (rounds-good g0 0))
      ∙ first_key _
      ∙ ap (add_round_key w 0) (no-round w (add_round_key w 0 s))
      ∙ key_twice w 0 g

  pub encrypted-again : {s : List (List ℕ)} → Good s → encrypted w (decrypted v s) ≡ s
  unfolding encrypted decrypted
  encrypted-again {s} g =
      let g14 = key-good v 14 g in
      let u = unsub-good (inv-rounds-good g14 13) in
      ap (λ (t : List (List ℕ)). add_round_key w 14 (sub (rounds w t 13))) (ap (add_round_key w 0) (first_key _) ∙ key_twice w 0 u)
      ∙ ap (λ (t : List (List ℕ)). add_round_key w 14 (sub t)) (rounds-forth g14 13 0 refl)
      ∙ ap (add_round_key w 14) (sub-unsub (inv-rounds-good g14 0) ∙ no-inv-round v (add_round_key v 14 s) ∙ last-key s)
      ∙ key_twice w 14 g
