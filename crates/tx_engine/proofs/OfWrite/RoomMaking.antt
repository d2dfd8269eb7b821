-- Making room for the next page of a transaction as a whole: what each of its ends leaves.
use Rattle.tx_engine.proofs.Common.{◌≡◌, ℕ, zero, suc, ◌+◌, Bool, true, false, cond, None, Result, Ok, Err, refl, sym, ap, subst, inl, inr, arith, count_by, range_with_len, cases_Bool, both_ways, shape_of, blocks_of, Protocol, Slot, Link, Broken, FlashState, must_go, found_in, IndexState, block_to_go, blocks_to_go, FlashMoves-nothing, Carries-nothing, IsReady, IsDueAt, OpenTransactionsState, name_due, DeviceState, StoreState, device_in}
use Rattle.list_lemmas.proofs.Counts.{count_first}
use Rattle.die_alloc.specs.BlocksState.{IsFull, block_of_slot}
use Rattle.die_alloc.proofs.Changes.{block_within}
use Rattle.collector.specs.Going.{is_going}
use Rattle.flash_model.specs.Operations.{moment_of}
use Rattle.collector.proofs.OfNotes.Keeping.{preserves_same}
use Rattle.collector.proofs.OfNotes.SinceErases.{works_nothing}
use Rattle.collector.proofs.OfRoom.GoingCounts.{going_at}
use Rattle.collector.proofs.OfRoom.GoneRecords.{going_none}
use Rattle.tx_engine.specs.Calls.{ClearsFor, FindsFor, IsClearFor}
use Rattle.tx_engine.specs.Readying.{MakesRoom, ReadiesSettled}
use Rattle.tx_engine.specs.Settling.{IsLeft}
use Rattle.tx_engine.proofs.OfDevice.ExitsThen.{exits_still}
use Rattle.tx_engine.proofs.OfWrite.Breaking.{seeking_breaks}
use Rattle.tx_engine.proofs.OfWrite.Leaving.{left_then}
use Rattle.tx_engine.proofs.OfWrite.PageWrites.{ready_cleared}

counts_none : (test : ℕ → Bool) (first n : ℕ) → ((k : ℕ) → test k ≡ false) → count_by test (range_with_len first n) ≡ 0
counts_none test first zero h = refl
counts_none test first (suc n) h =
    let head = count_first test first n in
    let off : cond {A = ℕ} (test first) 1 0 ≡ 0 = ap (λ b. cond {A = ℕ} b 1 0) (h first) in
    omega (arith, head, off, counts_none test (first + 1) n h)

-- where no block is found that is to go there is none
pub none_counted : (n : IndexState) (page below : ℕ) → block_to_go n page below ≡ None →
    blocks_to_go n page below ≡ 0
unfolding blocks_to_go
none_counted n page below none =
    counts_none (is_going n page below) 0 (blocks_of (shape_of n.config)) (λ k.
    elim (cases_Bool (is_going n page below k)) [
      | inr off ↦ off
      | inl going ↦ (
          let at = going_at n page below k going in
          absurd (both_ways (must_go n.config.protocol (found_in n.notes) n.config.logical page below at.0.rec)
          (going_none n page below none at.0 at.1.is_in) at.1.goes))
    ])

-- where nothing is done all is left
pub left_still : {F : Type 0} (state : F → FlashState) (p : Protocol) (S : StoreState F) (O : OpenTransactionsState) →
    IsReady state p S O → IsLeft state (device_in state S O) (device_in state S O) false
left_still state p S O ready = record {
  stands = ready.stands;
  machine = refl;
  exits = exits_still state (device_in state S O) S.flash false (device_in state S O) refl refl refl
      (FlashMoves-nothing (state S.flash) (state S.flash) false refl) (Carries-nothing (state S.flash));
  versions = λ page low. refl;
  kept = preserves_same S.noted;
  since = works_nothing S.noted.config.protocol S.noted.config.logical (state S.flash).shape (moment_of (state S.flash))
      false ready.stands.matches.sound;
}

module _ {F : Type 0} (state : F → FlashState) (p : Protocol) (S : StoreState F) (O : OpenTransactionsState) (i : ℕ)
    (ready : IsReady state p S O) (due : IsDueAt O i) where
  abbrev its_name : Link
  its_name = name_due O i

  abbrev first : DeviceState F
  first = device_in state S O

  pub room_unclear : (S1 : StoreState F) (x y : Broken) → ClearsFor state p S S1 O its_name (Err x) →
      MakesRoom state S S1 O its_name (Err y)
  room_unclear S1 x y cl = record { left = cl.left; sure = tt; ready = tt; breaks = inl cl.clears.broken }

  -- The store was asked whether a block has room, and is the same.
  module _ (S1 : StoreState F) (cl : ClearsFor state p S S1 O its_name (Ok tt)) (T : StoreState F) (same : T ≡ S1) where
    pub room_there : (IsFull S1.table → ⊥) → MakesRoom state S T O its_name (Ok tt)
    room_there room = subst (λ (X : StoreState F). MakesRoom state S X O its_name (Ok tt)) (sym same) (record {
      left = cl.left;
      sure = cl.clears.keeps.sure;
      ready = record {
        none = none_counted S1.noted its_name.page its_name.version cl.clears.cleared;
        room = room;
      };
      breaks = tt;
    })

    pub clear_still : IsClearFor state p T O i
    clear_still = subst (λ (X : StoreState F). IsClearFor state p X O i) (sym same) (record {
      ready = ready_cleared state p S O i ready due S1 cl;
      due = due;
      clear = cl.clears.cleared;
    })

    module _ (S2 : StoreState F) where
      found_from : (r : Result Slot Broken) → FindsFor state p T S2 O its_name r → FindsFor state p S1 S2 O its_name r
      found_from r fd = subst (λ (X : StoreState F). FindsFor state p X S2 O its_name r) same fd

      pub room_unfound : (x y : Broken) → FindsFor state p T S2 O its_name (Err x) →
          MakesRoom state S S2 O its_name (Err y)
      room_unfound x y found =
          let fd = found_from (Err x) found in
          record {
            left = left_then state first (device_in state S1 O) (device_in state S2 O) true refl refl cl.left fd.left;
            sure = tt;
            ready = tt;
            breaks = seeking_breaks state S S1 S2 O O its_name cl.clears.turns cl.left.exits.moves fd.finds.stays
                fd.finds.broken;
          }

      pub room_found : (at : Slot) → FindsFor state p T S2 O its_name (Ok at) →
          MakesRoom state S S2 O its_name (Ok tt)
      room_found at found =
          let fd = found_from (Ok at) found in
          let free = fd.finds.free.free in
          record {
            left = left_then state first (device_in state S1 O) (device_in state S2 O) false refl refl cl.left fd.left;
            sure = fd.finds.keeps.sure;
            ready = record {
              none = none_counted S2.noted its_name.page its_name.version fd.clear;
              room = λ full. full (block_of_slot S2.table.shape at.0)
                  (block_within S2.table fd.left.stands.matches.table at.0 free.within) free.room;
            };
            breaks = tt;
          }

-- room was made for the next page of a transaction
pub readied : {F : Type 0} (state : F → FlashState) (S S' : StoreState F) (O : OpenTransactionsState) (i : ℕ)
    (r : Result (Unit {0}) Broken) → MakesRoom state S S' O (name_due O i) r → ReadiesSettled state S S' O i r
readied state S S' O i (Ok done) made =
    record { left = made.left; sure = made.sure; ready = λ absent. made.ready; breaks = tt }
readied state S S' O i (Err broken) made =
    record { left = made.left; sure = tt; ready = tt; breaks = made.breaks }
