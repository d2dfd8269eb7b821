-- A block that was retired once a device had settled: what the whole did to the flash.
use Rattle.tx_engine.proofs.Common.{◌≡◌, ◌⊎◌, ℕ, ◌/◌, ◌<◌, ◌==◌, Bool, false, true, List, length, Option, Some, None, Ok, Err, refl, sym, ap, ◌∙◌, subst, inl, inr, arith, nat_lt, cases_eq, shape_of, blocks_of, Protocol, Shape, Broken, FlashState, IsImage, blank, slot_at, Carries, Does, FlashMoves, Moment, moment_of, Carries-nothing, Carries-then, FlashMoves-nothing, FlashMoves-then, IndexState, BlocksState, Unsure, counted_times, Preserves, Settlement, slots_read, OpenTransactionsState, settlement_of, DeviceState, StoreState, store_in, device_in}
use Rattle.std.proofs.Common.{if◌then◌else◌}
use Rattle.flash_model.specs.Flash.{Extras, IsFlash}
use Rattle.flash_model.specs.Operations.{Operation}
use Rattle.flash_model.specs.Retiring.{CarriesRetiring, IsNotReplaced, IsReplaced, RetiresAfter, RetiresTorn}
use Rattle.flash_model.proofs.ImageLemmas.{IsImage-does, slot_at-with_block_in}
use Rattle.flash_model.proofs.RetireLemmas.{CarriesRetiring-carries}
use Rattle.judged_records.proofs.OfNotes.Blocks.{inside_block}
use Rattle.collector.specs.declared.unsure.Unsure.TheVariants as unsure
use Rattle.collector.specs.Matches.{AllOfBlock}
use Rattle.collector.specs.Going.{IsEvicted}
use Rattle.collector.specs.Retiring.{RetiresBlock, RetiresNone, RetiringBreaks, EndsRetiring, moved_slots, retiring_first}
use Rattle.tx_engine.specs.DeviceCalls.{RetiresDevice}
use Rattle.tx_engine.specs.Retire.{AnswersRetire, RetireEnds, RetireExits, RetiresKnown, RetiringFails, is_retire_fault, retire_refusal, worn}
use Rattle.tx_engine.specs.declared.device.retire.RetireError.{RetireError}
use Rattle.tx_engine.specs.declared.device.retire.RetireError.TheVariants as failed
use Rattle.tx_engine.proofs.OfWrite.Breaking.{broke_then}
use Rattle.tx_engine.proofs.OfDevice.ExitsThen.{before_itself}
use Rattle.tx_engine.proofs.OfDevice.HeldRecords.{held_same}
use Rattle.tx_engine.proofs.OfSettle.SettleExits.{rises_unread}

-- the flash was only read before
module _ (a b c : FlashState) (carries : Carries a b false) (moves : FlashMoves a b false) (block : ℕ) where
  pub retired_after : moment_of b ≡ moment_of a → (n m : IndexState) (t v : BlocksState) → m ≡ n → v ≡ t →
      RetiresAfter b c (retiring_first m b.image v.spare block) block →
      RetiresAfter a c (retiring_first n a.image t.spare block) block
  retired_after moment n m t v noted table r = record {
    between = r.between;
    does = subst (λ (k : IndexState). Does a.shape (moment_of a) (retiring_first k a.image t.spare block)
        (moment_of r.between)) noted
        (subst (λ (k : BlocksState). Does a.shape (moment_of a) (retiring_first m a.image k.spare block)
        (moment_of r.between)) table
        (subst (λ (q : Moment). Does a.shape q (retiring_first m q.image v.spare block) (moment_of r.between)) moment
        (subst (λ (sh : Shape). Does sh (moment_of b) (retiring_first m b.image v.spare block) (moment_of r.between))
        carries.shape r.does)));
    carries = Carries-then a b r.between false carries r.carries;
    replaced = r.replaced;
    started = r.started;
  }

  -- or worked on by operations that were not broken
  pub broke_after : RetiresNone b c ⊎ RetiresTorn b c block → RetiresNone a c ⊎ RetiresTorn a c block
  broke_after (inl none) = inl (FlashMoves-then a b c true carries.shape moves none.0, none.1 ∙ carries.extras)
  broke_after (inr torn) = inr (record {
    between = torn.between;
    moves = FlashMoves-then a b torn.between false carries.shape moves torn.moves;
    carries = Carries-then a b torn.between false carries torn.carries;
    left = torn.left;
    started = torn.started;
  })

-- how retiring a block breaks off, as it is told of the flash
pub retiring_broke : (n : IndexState) (old new : FlashState) (spare block : ℕ) (n' : IndexState) (u : Unsure) →
    RetiringBreaks n old new spare block n' u →
    RetiresNone old new ⊎ RetiresTorn old new block
retiring_broke n old new spare block n' u breaks = elim (cases_eq block spare) [
  | inl same ↦ inr (record {
    between = old;
    moves = FlashMoves-nothing old old false refl;
    carries = Carries-nothing old;
    left = subst (λ b. IsNotReplaced old new ⊎ IsReplaced old new b) (sym same) (breaks.0 same).left;
    started = (breaks.0 same).started;
  })
  | inr other ↦ ends u (breaks.1 other).1
]
  where
    ends : (u : Unsure) → EndsRetiring old new block u → RetiresNone old new ⊎ RetiresTorn old new block
    ends unsure.Nothing e = inl e
    ends (unsure.Own at rec) e = inl e
    ends (unsure.Copy from to) e = inl e
    ends unsure.SpareErase e = inl e
    ends (unsure.VictimErase b) e = inr e

-- the block is all blank then
pub retired_blank : (old new : FlashState) (n : IndexState) (first : List Operation) (block : ℕ) → IsFlash old →
    old.shape ≡ shape_of n.config →
    block < blocks_of old.shape → RetiresAfter old new first block →
    AllOfBlock n block (λ slot. slot_at new.image slot ≡ blank)
retired_blank old new n first block flash shape below r slot within here =
    let mid = r.between in
    let same : mid.shape ≡ old.shape = r.carries.shape in
    let image : IsImage mid.shape mid.image = subst (λ sh. IsImage sh mid.image) (sym same)
    (IsImage-does old.shape (moment_of old) (moment_of mid) first flash r.does) in
    let per : mid.shape.pages_per_block ≡ n.config.pages_per_block =
    ap (λ (x : Shape). x.pages_per_block) (same ∙ shape) in
    let some : 0 < mid.shape.pages_per_block = (let b = image.bounds.pages_least in omega arith) in
    let place = inside_block mid.shape.pages_per_block block slot some (ap (λ k. slot / k) per ∙ here) in
    ap (λ i. slot_at i slot) r.replaced.image
    ∙ slot_at-with_block_in mid.shape mid.image image block (omega (arith, below, ap blocks_of same)) blank slot
    place.0 place.1

-- a refusal is none of a fault
module _ (shape : Shape) (extras : Option Extras) (block : ℕ) where
  not_worn : (o : Option Extras) → worn o ≡ Some failed.Fault → ⊥
  not_worn None e = cc
  not_worn (Some its) e = by (its.retired == its.allowance) e
    where
      by : (b : Bool) → (if b then Some (failed.Worn its.allowance) else None) ≡ Some failed.Fault → ⊥
      by true e = cc
      by false e = cc

  no_fault : retire_refusal shape extras block ≡ Some failed.Fault → ⊥
  no_fault e = by (nat_lt block (blocks_of shape)) e
    where
      by : (b : Bool) → (if b then worn extras else Some failed.Range) ≡ Some failed.Fault → ⊥
      by true e = not_worn extras e
      by false e = cc

-- so a refusal leaves all as it was
pub refused_exits : {F : Type 0} (state : F → FlashState) (s : DeviceState F) (shape : Shape) (extras : Option Extras)
    (block : ℕ) (e : RetireError) →
    s.dropped ≡ false → retire_refusal shape extras block ≡ Some e → RetireExits state s s block (Err e)
refused_exits state s shape extras block e kept is = record {
  tables = record {
    config = refl;
    versions = λ page within. inr (refl, refl);
    mentions = λ page within. inl refl;
    names = before_itself s.namings;
    kept = kept;
  };
  ends = ends e is;
  carries = subst (CarriesRetiring (state s.flash) (state s.flash)) (sym (no_cause e is))
      (CarriesRetiring-carries (state s.flash) (state s.flash) false (Carries-nothing (state s.flash)));
  held = held_same s.config.protocol s.config.logical (state s.flash).image (state s.flash).image refl;
}
  where
    ends : (e : RetireError) → retire_refusal shape extras block ≡ Some e → RetireEnds state s s block (Err e)
    ends failed.Range is = refl
    ends (failed.Worn allowance) is = refl
    ends failed.Fault is = absurd (no_fault shape extras block is)

    no_cause : (e : RetireError) → retire_refusal shape extras block ≡ Some e → is_retire_fault (Err e) ≡ false
    no_cause failed.Range is = refl
    no_cause (failed.Worn allowance) is = refl
    no_cause failed.Fault is = absurd (no_fault shape extras block is)

pub refused : {F : Type 0} (state : F → FlashState) (s : DeviceState F) (block : ℕ) (e : RetireError) →
    s.dropped ≡ false →
    retire_refusal (state s.flash).shape (state s.flash).extras block ≡ Some e → RetiresDevice state s s block (Err e)
refused state s block failed.Range kept is = record {
  refusal = subst (λ (r : Option RetireError). AnswersRetire r s s (Err failed.Range)) (sym is) (refl, refl);
  retires = refl;
  exits = refused_exits state s (state s.flash).shape (state s.flash).extras block failed.Range kept is;
  rises = rises_unread s s refl;
  sure = tt;
  tables = refl;
  blank = tt;
  told = tt;
}
refused state s block (failed.Worn allowance) kept is = record {
  refusal = subst (λ (r : Option RetireError). AnswersRetire r s s (Err (failed.Worn allowance))) (sym is) (refl, refl);
  retires = refl;
  exits = refused_exits state s (state s.flash).shape (state s.flash).extras block (failed.Worn allowance) kept is;
  rises = rises_unread s s refl;
  sure = tt;
  tables = refl;
  blank = tt;
  told = tt;
}
refused state s block failed.Fault kept is = absurd (no_fault (state s.flash).shape (state s.flash).extras block is)

-- The tables are those that were known once the place was read.
module _ {F : Type 0} (state : F → FlashState) (S T U : StoreState F) (O P : OpenTransactionsState)
    (p : Protocol) (block : ℕ)
    (shape : (state T.flash).shape ≡ (state S.flash).shape)
    (moment : moment_of (state T.flash) ≡ moment_of (state S.flash))
    (reads : (state T.flash).reads ≡ counted_times (slots_read S.noted S.unsure) (state S.flash).reads)
    (noted : T.noted ≡ (settlement_of state (device_in state S O)).noted)
    (table : T.table ≡ (settlement_of state (device_in state S O)).table) where
  abbrev found : Settlement
  found = settlement_of state (device_in state S O)

  pub retired_known : RetiresBlock p (store_in state T) (store_in state U) block (Ok tt) →
      RetiresKnown state (device_in state S O) (device_in state U P) block
  retired_known r = record {
    treated = subst (λ (n : IndexState). IsEvicted n found.table block U.noted U.table) noted
        (subst (λ (t : BlocksState). IsEvicted T.noted t block U.noted U.table) table r.noted);
    reads = subst (λ (n : IndexState). (state U.flash).reads
        ≡ counted_times (length (moved_slots n found.table.spare block))
        (counted_times (slots_read S.noted S.unsure) (state S.flash).reads)) noted
        (subst (λ (t : BlocksState). (state U.flash).reads ≡ counted_times (length (moved_slots T.noted t.spare block))
        (counted_times (slots_read S.noted S.unsure) (state S.flash).reads)) table
        (r.reads ∙ ap (counted_times (length (moved_slots T.noted T.table.spare block))) reads));
  }

  pub retiring_fails : (x : Broken) → RetiresBlock p (store_in state T) (store_in state U) block (Err x) →
      Preserves T.noted U.noted →
      RetiringFails state (device_in state S O) (device_in state U P) block
  retiring_fails x r kept = record {
    breaks = broke_then state S T O shape moment reads noted table
        (λ between n t. RetiringBreaks n between (state U.flash) t.spare block U.noted U.unsure) r.broken;
    table = r.stays ∙ table;
    kept = subst (λ (n : IndexState). Preserves n U.noted) noted kept;
  }
