use Rattle.drive_gen.proofs.Common.{◌≡◌, ℕ, ◌+◌, map, ap, arith, refl, ◌∙◌, range_with_len, Config, next_state, generator_after, drawn_batch, drawn_write, page_count}
use Rattle.std.proofs.lemmas.List.FromFn.{map-range_with_len_more}
use Rattle.tx_types.specs.Batch.{Writes}
use Rattle.drive_gen.specs.Generator.{high_bits}
use Rattle.drive_gen.proofs.DrawLemmas.{state_more, state_first}
use Rattle.drive_gen.proofs.transaction.draw_batch.Goals as goal

-- a batch of as many drawn writes as there are to be
batch_is : (b : Writes) (c : Config) (x n : ℕ) → b.page_bytes ≡ c.page_bytes →
    b.entries ≡ map (drawn_write c x) (range_with_len 0 n) → n ≡ page_count c x
    → b ≡ drawn_batch c x
batch_is b c x n p q r =
    let whole : b.entries ≡ map (drawn_write c x) (range_with_len 0 (page_count c x)) = rw r at q in
    ap (λ z. record { page_bytes = z; entries = b.entries }) p
    ∙ ap (λ z. record { page_bytes = c.page_bytes; entries = z }) whole

-- the state behind two draws
second : (x a b : ℕ) → a ≡ next_state x → b ≡ next_state a → b ≡ generator_after x 2
second x a b p q = q ∙ ap next_state (p ∙ state_first x) ∙ state_more x 1 2 refl

pub loop-k-init : goal.loop-k-init
loop-k-init c = record {
  size = rw c.in_ok-batch.ensures refl;
  entries = rw c.in_ok-batch.ensures refl;
  state = second c.args.generator.now.state c.draw_page_count-pages.new.generator.state c.draw-first.new.self.state
      c.draw_page_count-pages.ensures.state
      c.draw-first.ensures.state;
}

pub loop-k-preserved : goal.loop-k-preserved
loop-k-preserved c =
    let x = c.args.generator.now.state in
    let pages = c.args.config.logical in
    let counted = c.draw_page_count-pages.new.generator.state in
    let next : next_state c.loop-k.generator.state ≡ generator_after x (c.loop-k.k + 3) =
    ap next_state c.loop-k.invariant.state ∙ state_more x (c.loop-k.k + 2) (c.loop-k.k + 3) (omega arith)
    in
    let first : c.draw-first.result ≡ high_bits (generator_after x 2) pages =
    c.draw-first.ensures.number ∙ ap (λ s. high_bits s pages)
    (second x counted (next_state counted) c.draw_page_count-pages.ensures.state refl)
    in
    let byte : c.draw.result ≡ high_bits (generator_after x (c.loop-k.k + 3)) 256 = c.draw.ensures.number
    ∙ ap (λ s. high_bits s 256) next in
    let one_more = map-range_with_len_more (drawn_write c.args.config x) 0 c.loop-k.k c.loop-k.k (omega arith) in
    record {
      size = rw (c.in_ok-add.ensures.ok) c.loop-k.invariant.size;
      entries = rw (
        c.in_ok-add.ensures.ok,
        c.loop-k.invariant.entries,
        c.loop-k.invariant.size,
        one_more,
        c.page_behind-page.ensures,
        first,
        byte,
      ) refl;
      state = let e : c.loop-k.k + 1 + 2 ≡ c.loop-k.k + 3 = omega arith in rw e (c.draw.ensures.state ∙ next);
    }

count_is : (c : goal.After-loop-k) → c.loop-k.k ≡ page_count c.args.config c.args.generator.now.state
count_is c =
    let all : c.loop-k.k ≡ c.draw_page_count-pages.result = omega arith in
    rw (← state_first c.args.generator.now.state) (all ∙ c.draw_page_count-pages.ensures.count)

pub returns-clause-batch : goal.returns-clause-batch
returns-clause-batch c = batch_is c.loop-k.batch c.args.config c.args.generator.now.state c.loop-k.k
    c.loop-k.invariant.size c.loop-k.invariant.entries
    (count_is c)

pub returns-clause-state : goal.returns-clause-state
returns-clause-state c = rw (← count_is c) c.loop-k.invariant.state
