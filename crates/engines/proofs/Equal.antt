-- The plain engine is the quick one: by the two contracts, for every input, refused ones too, and once for all three algorithms. At skip 0
-- it is the bench call. Assumes nothing.
-- `Learnt`, of a function's module, is its `ensures` as it stands in the source: of the arguments, the result r, and e, the parameters at exit.
use mathlib.Core.Path.{◌≡◌, sym, ap, ◌∙◌}
use mathlib.Core.List.{List}
use Prim.Native.Nat.{ℕ}
use denote.Ref.{Bor, MutBor}
use Rattle.ciphering.specs.declared.Report.{Report}
use Rattle.ciphering.specs.Span.{Ciphered}
use Rattle.card.proofs.bench_call.card_bench.Reads as card-bench
use Rattle.plain.specs.Given.{given_refusal, given_buffer, given_blocks}
use Rattle.plain.proofs.Given.{given-bench}
use Rattle.plain.proofs.call.card_plain.Reads as card-plain
use Rattle.engines.proofs.quick.Reads as quick

-- two calls, whose keys, initial values and buffers hold the same bytes
module _ (algorithm n : ℕ) (key iv : Bor (List ℕ)) (buf : MutBor (List ℕ)) (key' iv' : Bor (List ℕ)) (buf' : MutBor (List ℕ)) (blocks : MutBor ℕ)
    (same_key : key.now ≡ key'.now) (same-iv : iv.now ≡ iv'.now) (same-buf : buf.now ≡ buf'.now) where
  -- refusal, whole buffer and blocks are the same: the buffer is the fourth parameter, and the plain engine's number of blocks the seventh
  pub plain-is-quick : (skip r : ℕ) (s : Report) (κs κs' : _) (e e' : _)
      → card-plain.Learnt κs (algorithm, (key, (iv, (buf, (n, (skip, (blocks, tt))))))) r e
      → quick.Learnt κs' (algorithm, (key', (iv', (buf', (n, (skip, tt)))))) s e'
      → (r ≡ s.refusal) × (e.1.1.1.0.now ≡ e'.1.1.1.0.now) × (e.1.1.1.1.1.1.0.now ≡ s.blocks)
  plain-is-quick skip r s κs κs' e e' p q = (
    p.0 ∙ (λ i. given_refusal algorithm (same_key i) (same-iv i) (same-buf i) n skip) ∙ sym q.0,
    p.1 ∙ (λ i. given_buffer algorithm (same_key i) (same-iv i) (same-buf i) n skip) ∙ sym q.1,
    p.2 ∙ (λ i. given_blocks algorithm (same_key i) (same-iv i) (same-buf i) n skip) ∙ sym q.2,
  )

  -- the bench call's number of blocks is its sixth parameter
  pub plain-is-bench : (blocks' : MutBor ℕ) (r s : ℕ) (κs κs' : _) (e e' : _)
      → card-plain.Learnt κs (algorithm, (key, (iv, (buf, (n, (0, (blocks, tt))))))) r e
      → card-bench.Learnt κs' (algorithm, (key', (iv', (buf', (n, (blocks', tt)))))) s e'
      → (r ≡ s) × (e.1.1.1.0.now ≡ e'.1.1.1.0.now) × (e.1.1.1.1.1.1.0.now ≡ e'.1.1.1.1.1.0.now)
  plain-is-bench blocks' r s κs κs' e e' p q =
      let same = given-bench algorithm key'.now iv'.now buf'.now n in (
        p.0 ∙ (λ i. given_refusal algorithm (same_key i) (same-iv i) (same-buf i) n 0) ∙ same.0 ∙ sym (ap (λ (x : Ciphered). x.refusal) q),
        p.1 ∙ (λ i. given_buffer algorithm (same_key i) (same-iv i) (same-buf i) n 0) ∙ same.1 ∙ sym (ap (λ (x : Ciphered). x.buffer) q),
        p.2 ∙ (λ i. given_blocks algorithm (same_key i) (same-iv i) (same-buf i) n 0) ∙ same.2 ∙ sym (ap (λ (x : Ciphered). x.blocks) q),
      )
