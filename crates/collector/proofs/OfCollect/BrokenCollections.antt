-- What a collection that breaks costs, and that no record is new then.
use Rattle.collector.proofs.Common.{◌≡◌, ℕ, ◌+◌, ◌<◌, ◌≤◌, subst, arith, Ok, Err, Result, Config, Protocol, Broken, Erases, FlashState, IndexState, BlocksState, Unsure, CostsAtMost, StoreParts}
use Rattle.std.specs.Prelude.{OnErr}
use Rattle.collector.specs.Going.{CostsBroken, CostsCopying}
use Rattle.collector.proofs.OfCopies.CopyingBlocks.{CopiedSoFar, needed_before}
use Rattle.collector.proofs.OfCollect.RoundCosts.{copies_programs, copies_erases}

module _ (p : Protocol) (a : StoreParts) (n : IndexState) (s : FlashState) (t : BlocksState) (u : Unsure)
    (first start at used : ℕ)
    (h : CopiedSoFar p a n s t u first start at used) (few : used < a.noted.config.pages_per_block) where
  -- there were fewer copies than the block has slots
  pub copying_costs : CostsCopying a.noted.config.pages_per_block a.flash s
  copying_costs = record {
    programs = (let low = copies_programs a.flash s a.noted.config.page_bytes a.flash.image start
        (needed_before a.noted first at) h.does in
        omega (arith, low, few, h.count));
    erases = copies_erases a.flash s a.noted.config.page_bytes a.flash.image start
        (needed_before a.noted first at) h.does;
  }

  -- also where the next copy was broken
  pub copying_costs_torn : (s' : FlashState) → (s'.programs ≡ s.programs) × (s'.erases ≡ s.erases) →
      CostsCopying a.noted.config.pages_per_block a.flash s'
  copying_costs_torn s' same = record {
    programs = (let low = copying_costs.programs in omega (arith, low, same.0));
    erases = (let low = copying_costs.erases in omega (arith, low, same.1));
  }

-- the costs of making the spare blank and of copying
pub broken_costs : (n0 n1 : IndexState) (s0 s1 s2 : FlashState) → n1.config ≡ n0.config → s1.programs ≡ s0.programs →
    s1.erases ≤ s0.erases + 1 →
    CostsCopying n1.config.pages_per_block s1 s2 → CostsBroken n0.config.pages_per_block s0 s2
broken_costs n0 n1 s0 s1 s2 same programs erases copying =
    let its = subst (λ (k : Config). CostsCopying k.pages_per_block s1 s2) same copying in
    record {
      programs = (let low = its.programs in omega arith);
      erases = (let low = its.erases in omega arith);
    }

-- what a broken collection does is no more than a whole one
pub broken_at_most : (pages : ℕ) (s0 s1 : FlashState) → CostsBroken pages s0 s1 → CostsAtMost pages 1 s0 s1
broken_at_most pages s0 s1 costs = record {
  programs = (let low = costs.programs in omega arith);
  erases = (let low = costs.erases in omega arith);
}

-- the erase of the block comes last, and is not counted where it is broken
module _ (pages : ℕ) (s0 s1 s2 : FlashState) (block : ℕ) (costs : CostsBroken pages s0 s1) where
  pub erase_broken : (r : Result (Unit {0}) Broken) → Erases s1 s2 block r → OnErr r (CostsBroken pages s0 s2)
  erase_broken (Ok x) e = tt
  erase_broken (Err x) e = record {
    programs = (let low = costs.programs in omega (arith, low, e.torn.programs));
    erases = (let low = costs.erases in omega (arith, low, e.torn.erases));
  }

  pub erase_costs : (r : Result (Unit {0}) Broken) → Erases s1 s2 block r → CostsAtMost pages 1 s0 s2
  erase_costs (Ok x) e = record {
    programs = (let low = costs.programs in omega (arith, low, e.done.programs));
    erases = (let low = costs.erases in omega (arith, low, e.done.erases));
  }
  erase_costs (Err x) e = broken_at_most pages s0 s2 (erase_broken (Err x) e)
