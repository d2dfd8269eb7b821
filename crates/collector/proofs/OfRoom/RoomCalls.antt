-- Making room: the spare is made blank, and the block with the most garbage is collected, if there is any.
use Rattle.collector.proofs.Common.{◌≡◌, ◌≢◌, ◌*◌, ◌<◌, true, false, length, List, Result, None, Ok, Err, refl, sym, ap, ap₂, ◌∙◌, subst, inl, inr, arith, shape_of, blocks_of, Config, Block, Protocol, Shape, Link, Broken, LossLaw, IndexState, needed_of, BlocksState, IsFull, Cleans, Collects, CollectsVictim, is_noted_blank, needed_slots, noted_cleaned, HasUnneeded, IsNextName, CostsAtMost, Matches, IsNextOfSpare, StoreParts, IsVictim, HasNoGarbage}
use Rattle.judged_records.specs.IndexState.{FindsMostGarbageNow, HasMostGarbageNow}
use Rattle.collector.specs.declared.unsure.Unsure.TheVariants as unsure
use Rattle.collector.specs.Calls.{CollectsClean}
use Rattle.collector.specs.StoreParts.{IsSure}
use Rattle.collector.proofs.OfCollect.CollectCalls.{collects_cleaned}
use Rattle.collector.proofs.OfCollect.Collections.{first_of_spare}
use Rattle.collector.proofs.OfRoom.NextNames.{next_stays}
use Rattle.collector.proofs.OfRoom.NowVictims.{none_now, victim_now}
use Rattle.collector.proofs.OfRoom.RoomMade.{blank_erased, spare_within, victim_apart, victim_unneeded, some_garbage, room_made}
use Rattle.list_lemmas.proofs.Ranges.{filter_fewer}

-- what making the spare blank costs, done or broken
costs_cleaning : (p : Protocol) (a b : StoreParts) (r : Result (Unit {0}) Broken) → Cleans p a b r →
    CostsAtMost a.noted.config.pages_per_block 1 a.flash b.flash
costs_cleaning p a b r c = record { programs = omega (arith, c.programs); erases = omega (arith, c.erases) }

-- the spare could not be made blank
pub most_unclean : (p : Protocol) (a b : StoreParts) (x y : Broken) → Cleans p a b (Err x) →
    CollectsVictim p a b (Err y)
most_unclean p a b x y c = record {
  keeps = c.keeps;
  done = tt;
  room = tt;
  stays = c.blocks;
  broken = inl (c.torn.0, c.broken, c.torn.1);
  costs = costs_cleaning p a b (Err x) c;
}

module _ (p : Protocol) (loss : LossLaw p) (a m : StoreParts) (k : IsSure p a) (cleaned : Cleans p a m (Ok tt)) where
  calm0 : Matches a.flash a.noted a.table unsure.Nothing
  calm0 = subst (Matches a.flash a.noted a.table) k.nothing k.matches

  calm : Matches m.flash m.noted m.table unsure.Nothing
  calm = subst (Matches m.flash m.noted m.table) cleaned.keeps.sure cleaned.keeps.matches

  -- the first slot of the blank spare comes next
  pub blank_spare : IsNextOfSpare m.noted m.table.spare (m.table.spare * m.noted.config.pages_per_block)
  blank_spare = first_of_spare p loss a.flash a.noted a.table a.unsure k.rule k.matches m.noted m.table cleaned.noted
      cleaned.blocks

  -- there is no garbage
  pub most_none : FindsMostGarbageNow m.noted None → CollectsVictim p a m (Ok false)
  most_none clear = let none = none_now m.flash m.noted m.table unsure.Nothing calm clear in record {
    keeps = cleaned.keeps;
    done = record {
      none = subst (HasNoGarbage (noted_cleaned a.noted a.table.spare)) cleaned.blocks
          (subst (λ (n : IndexState). HasNoGarbage n m.table) cleaned.noted none);
      does = cleaned.done;
      noted = cleaned.noted;
      table = cleaned.blocks;
    };
    room = λ any. absurd (let e = any in cc);
    stays = tt;
    broken = tt;
    costs = costs_cleaning p a m (Ok tt) cleaned;
  }

  module _ (block : Block) (most : HasMostGarbageNow m.noted block.0) where
    v : IsVictim m.noted m.table block.0
    v = victim_now m.flash m.noted m.table unsure.Nothing calm block.0 most

    pub chosen_apart : block.0 ≢ m.table.spare
    chosen_apart = victim_apart m.flash m.noted m.table calm block.0 v

    unneeded : HasUnneeded m.noted block.0
    unneeded = victim_unneeded m.flash m.noted m.table calm block.0 v

    its : IsVictim (noted_cleaned a.noted a.table.spare) a.table block.0
    its = subst (λ (t : BlocksState). IsVictim (noted_cleaned a.noted a.table.spare) t block.0) cleaned.blocks
        (subst (λ (n : IndexState). IsVictim n m.table block.0) cleaned.noted v)

    collected_so : (b : StoreParts) (r : Result (Unit {0}) Broken) → CollectsClean p m b block r →
        Collects p a b block.0 r
    collected_so =
        collects_cleaned p loss a m k cleaned block (subst (λ (x : Config). block.0 < blocks_of (shape_of x))
        cleaned.keeps.preserves.config v.exists)
        (λ same. chosen_apart (same ∙ ap (λ (t : BlocksState). t.spare) (sym cleaned.blocks))) unneeded

    -- the collection broke off
    pub most_broke : (b : StoreParts) (x y : Broken) → CollectsClean p m b block (Err x) → CollectsVictim p a b (Err y)
    most_broke b x y h =
        let c = collected_so b (Err x) h in
        record {
          keeps = c.keeps;
          done = tt;
          room = tt;
          stays = c.stays;
          broken = inr (block.0, its, c.broken);
          costs = c.at_most;
        }

    few : length (needed_slots (noted_cleaned a.noted a.table.spare) block.0) < a.table.shape.pages_per_block
    few =
        let less : length (needed_slots m.noted block.0) < m.noted.config.pages_per_block =
        filter_fewer (needed_of m.noted)
        (block.0 * m.noted.config.pages_per_block) m.noted.config.pages_per_block unneeded in
        subst (λ (x : Shape). length (needed_slots (noted_cleaned a.noted a.table.spare) block.0) < x.pages_per_block)
        (sym (calm0.blocks ∙ calm0.shape))
        (subst (λ (n : IndexState). length (needed_slots n block.0) < n.config.pages_per_block) cleaned.noted less)

    -- it was done, and leaves room in the old spare
    pub most_done : (b : StoreParts) (x : Unit {0}) → CollectsClean p m b block (Ok x) → CollectsVictim p a b (Ok true)
    most_done b x h =
        let c = collected_so b (Ok x) h in
        record {
          keeps = c.keeps;
          done = record { victim = block.0; is_victim = its; does = c.done; noted = c.noted; table = c.blocks };
          room = λ any full. room_made a.table calm0.table block.0 _ few (subst IsFull c.blocks full);
          stays = tt;
          broken = tt;
          costs = c.at_most;
        }

-- where no block has room there is garbage
pub full_collects : (p : Protocol) (a b : StoreParts) → IsSure p a → IsFull a.table →
    ((names : List Link) × (name : Link) × IsNextName a.noted names name) →
    (any : _) →
    CollectsVictim p a b (Ok any) → any ≡ true
full_collects p a b k full next true c = refl
full_collects p a b k full next false c =
    let calm0 = subst (Matches a.flash a.noted a.table) k.nothing k.matches in
    let blanked : is_noted_blank b.noted b.table.spare ≡ true =
    ap₂ (λ (n : IndexState) (t : BlocksState). is_noted_blank n t.spare) c.done.noted c.done.table
    ∙ blank_erased a.noted k.matches.noted a.table.spare (spare_within a.flash a.noted a.table calm0) in
    let none : HasNoGarbage b.noted b.table =
    subst (λ (n : IndexState). HasNoGarbage n b.table) (sym c.done.noted)
    (subst (HasNoGarbage (noted_cleaned a.noted a.table.spare)) (sym c.done.table) c.done.none) in
    absurd (some_garbage b.flash b.noted b.table (subst (Matches b.flash b.noted b.table) c.keeps.sure c.keeps.matches)
    blanked
    (subst IsFull (sym c.done.table) full) next.0 next.1
    (next_stays a.noted b.noted next.0 next.1 k.matches.noted.pages c.keeps.preserves next.2) none)
