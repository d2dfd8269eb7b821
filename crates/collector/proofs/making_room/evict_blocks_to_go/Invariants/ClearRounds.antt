-- The rounds of clearing: what is so between two rounds, and what a round leaves.
use Rattle.collector.proofs.Common.{◌≡◌, ◌≢◌, ℕ, ◌+◌, ◌<◌, ◌≤◌, true, false, List, None, Some, Ok, Err, refl, sym, ap, ◌∙◌, subst, inl, inr, arith, cases_eq, shape_of, blocks_of, Config, Protocol, Link, Broken, LossLaw, Blank, IndexState, block_to_go, erased, BlocksState, BreaksOff, Keeps, HasUnneeded, IsNextName, CostsAtMost, is_going, blocks_to_go, Matches, Preserves, StoreParts}
use Rattle.collector.specs.declared.unsure.Unsure.TheVariants as unsure
use Rattle.collector.specs.Calls.{EvictsBlocksToGo, Evicts}
use Rattle.collector.specs.Going.{EvictsInTurn, none, one_more}
use Rattle.collector.specs.StoreParts.{IsSure}
use Rattle.collector.proofs.OfCollect.Chains.{CostsAtMost-nothing, CostsAtMost-then, CostsAtMost-more}
use Rattle.collector.proofs.OfNotes.KeepsLemmas.{keeps_same, keeps_then}
use Rattle.collector.proofs.OfRoom.GoneRecords.{GoesFrom, going_some}
use Rattle.collector.proofs.OfRoom.GoingCounts.{Leaves, at_going, still_going, fewer_going, goes_unneeded, erased_left, collected_left, some_going}
use Rattle.collector.proofs.making_room.evict_blocks_to_go.Invariants.GoingOrder.{slot_exists}
use Rattle.collector.proofs.OfNotes.Losing.{preserves}
use Rattle.collector.proofs.OfRoom.NextNames.{next_stays}
use Rattle.collector.proofs.OfRoom.RoomMade.{spare_within}

-- what is so between two rounds, and which blocks were evicted
pub record ClearsSoFar (p : Protocol) (page below : ℕ) (a b : StoreParts) : Type 0 where
  pub keeps : Keeps p a b false
  pub names : List Link
  pub next : IsNextName b.noted names (record { page = page; version = below })
  pub rounds : ℕ
  pub left : rounds + blocks_to_go b.noted page below ≤ blocks_to_go a.noted page below
  pub turns : EvictsInTurn page below a.noted a.table rounds b.noted b.table
  pub costs : CostsAtMost a.noted.config.pages_per_block rounds a.flash b.flash

pub clears_none : (p : Protocol) (page below : ℕ) (a : StoreParts) → IsSure p a →
    ((names : List Link) × IsNextName a.noted names (record { page = page; version = below })) →
    ClearsSoFar p page below a a
clears_none p page below a k next = record {
  keeps = keeps_same p a k;
  names = next.0;
  next = next.1;
  rounds = 0;
  left = omega arith;
  turns = none;
  costs = CostsAtMost-nothing a.noted.config.pages_per_block a.flash;
}

module _ (p : Protocol) (page below : ℕ) (a b : StoreParts) (so : ClearsSoFar p page below a b) where
  -- none is left
  pub clears_all : block_to_go b.noted page below ≡ None → EvictsBlocksToGo p a b page below (Ok tt)
  clears_all gone = record {
    keeps = so.keeps;
    cleared = gone;
    turns = record { rounds = so.rounds; most = let low = so.left in omega arith; turns = so.turns };
    broken = tt;
    costs = CostsAtMost-more a.noted.config.pages_per_block so.rounds (blocks_to_go a.noted page below) a.flash b.flash
        (let low = so.left in omega arith)
        so.costs;
  }

  module _ (block : ℕ) (found : block_to_go b.noted page below ≡ Some block) where
    from : GoesFrom b.noted page below block
    from = going_some b.noted page below block found

    block_exists : block < blocks_of (shape_of b.noted.config)
    block_exists = subst (λ x. x < blocks_of (shape_of b.noted.config)) from.slot
        (slot_exists b.noted so.keeps.matches.noted from.found from.is_in)

    pub block_unneeded : HasUnneeded b.noted block
    block_unneeded = goes_unneeded b.noted so.keeps.matches.noted page below so.names so.next block from

    now : is_going b.noted page below block ≡ true
    now = at_going b.noted page below block from.found (record {
      is_in = from.is_in;
      slot = from.slot;
      goes = from.goes;
    })

    some_left : 0 < blocks_to_go b.noted page below
    some_left = some_going b.noted page below block block_exists now

    module _ (c : StoreParts) (per : b.noted.config.pages_per_block ≡ a.noted.config.pages_per_block)
        (costs : CostsAtMost b.noted.config.pages_per_block 1 b.flash c.flash) where
      costs_more : CostsAtMost a.noted.config.pages_per_block (so.rounds + 1) a.flash c.flash
      costs_more =
          CostsAtMost-then a.noted.config.pages_per_block so.rounds 1 a.flash b.flash c.flash so.costs
          (subst (λ k. CostsAtMost k 1 b.flash c.flash) per costs)

    per_same : b.noted.config.pages_per_block ≡ a.noted.config.pages_per_block
    per_same = ap (λ (k : Config). k.pages_per_block) so.keeps.preserves.config

    -- the round breaks off
    pub round_broke : (c : StoreParts) (x y : Broken) → Evicts p b c block (Err x) →
        EvictsBlocksToGo p a c page below (Err y)
    round_broke c x y t = record {
      keeps = keeps_then p a b c true so.keeps t.keeps;
      cleared = tt;
      turns = tt;
      broken = record {
        turn = b.noted;
        rounds = so.rounds;
        fewer = let some = some_left in let low = so.left in omega arith;
        turns = subst (EvictsInTurn page below a.noted a.table so.rounds b.noted) (sym t.stays) so.turns;
        block = block;
        next = found;
        between = b.flash;
        moves = so.keeps.moves;
        breaks = subst (λ (k : BlocksState). BreaksOff b.noted b.flash c.flash k.spare block c.noted c.unsure)
            (sym t.stays) t.broken;
      };
      costs = CostsAtMost-more a.noted.config.pages_per_block (so.rounds + 1) (blocks_to_go a.noted page below)
          a.flash c.flash
          (let some = some_left in let low = so.left in omega arith) (costs_more c per_same t.costs);
    }

    -- it is done
    module _ (loss : LossLaw p) (k : IsSure p a) (c : StoreParts) (x : Unit {0}) (t : Evicts p b c block (Ok x)) where
      calm : Matches b.flash b.noted b.table unsure.Nothing
      calm = subst (Matches b.flash b.noted b.table) so.keeps.sure so.keeps.matches

      law : LossLaw b.noted.config.protocol
      law = subst LossLaw (sym (ap (λ (x : Config). x.protocol) so.keeps.preserves.config ∙ k.rule)) loss

      -- each record that must go after the round stood there before, and none is left of the block
      leaves : Leaves b.noted c.noted page below block
      leaves = elim (cases_eq block b.table.spare) [
        | inl same ↦ (
            let is : c.noted ≡ erased b.noted block = (t.treated.0 same).0 ∙ ap (erased b.noted) (sym same) in
            subst (λ (k : IndexState). Leaves b.noted k page below block) (sym is)
            (erased_left b.noted so.keeps.matches.noted page below so.names so.next block block_exists
            (subst (Preserves b.noted) is t.keeps.preserves)))
        | inr apart ↦ (
            let is = (t.treated.1 apart).0 in
            let low = spare_within b.flash b.noted b.table calm in
            subst (λ (k : IndexState). Leaves b.noted k page below block) (sym is)
            (collected_left b.noted so.keeps.matches.noted page below so.names so.next block b.table.spare
            low block_exists
            (preserves b.noted so.keeps.matches.noted law b.table.spare low so.keeps.matches.spared Blank refl)
            (subst (Preserves b.noted) is t.keeps.preserves)))
      ]

      pub round_still : (other : ℕ) → is_going c.noted page below other ≡ true →
          (is_going b.noted page below other ≡ true) × (other ≢ block)
      round_still = still_going b.noted c.noted page below block leaves

      -- there are fewer such blocks after the round
      fewer : blocks_to_go c.noted page below < blocks_to_go b.noted page below
      fewer = fewer_going b.noted c.noted page below block t.keeps.preserves.config block_exists now leaves

      pub round_done : ClearsSoFar p page below a c
      round_done = record {
        keeps = keeps_then p a b c false so.keeps t.keeps;
        names = so.names;
        next = next_stays b.noted c.noted so.names (record { page = page; version = below })
            so.keeps.matches.noted.pages t.keeps.preserves so.next;
        rounds = so.rounds + 1;
        left = (let less = fewer in let low = so.left in omega arith);
        turns = one_more so.rounds b.noted c.noted b.table c.table block so.turns found t.treated;
        costs = costs_more c per_same t.costs;
      }
