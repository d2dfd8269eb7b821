-- Where the writing of a record breaks off: by the parts of the write, and over tables that are the same.
use Rattle.tx_engine.proofs.Common.{◌≡◌, ◌<◌, sym, subst, inl, inr, Shape, Slot, Link, Rec, FlashState, FlashMoves, Moment, moment_of, name_of, IndexState, BlocksState, blocks_to_go, counted_times, slots_read, WritingBreaks, settlement_of, OpenTransactionsState, DeviceState, StoreState, device_in}
use Rattle.std.specs.Prelude.{false}
use Rattle.flash_model.specs.Moves.{Moves}
use Rattle.collector.specs.BreakingOff.{RoomBreaksOff}
use Rattle.collector.specs.Going.{EvictsAll, EvictsInTurn}
use Rattle.collector.specs.declared.unsure.Unsure.TheVariants as unsure
use Rattle.tx_engine.specs.Breaking.{BreaksThen}
use Rattle.tx_engine.specs.Writing.{TakesSlot}

treats_from : (name : Link) (n m n' : IndexState) (t r t' : BlocksState) → m ≡ n → r ≡ t →
    EvictsAll name.page name.version m r n' t' → EvictsAll name.page name.version n t n' t'
treats_from name n m n' t r t' same_n same_t w =
    subst (λ (x : IndexState). EvictsAll name.page name.version x t n' t') same_n
    (subst (λ (y : BlocksState). EvictsAll name.page name.version m y n' t') same_t w)

moves_from : (a b between : FlashState) → moment_of b ≡ moment_of a → b.shape ≡ a.shape → FlashMoves b between false →
    FlashMoves a between false
moves_from a b between moment shape moves =
    subst (λ (sh : Shape). Moves sh (moment_of a) false (moment_of between)) shape
    (subst (λ (m : Moment). Moves b.shape m false (moment_of between)) moment moves)

-- where a write breaks off, over what has the same tables and the same shape and moment
pub breaks_from : {F : Type 0} (state : F → FlashState) (a b new : DeviceState F) (name : Link) →
    moment_of (state b.flash) ≡ moment_of (state a.flash) → (state b.flash).shape ≡ (state a.flash).shape →
    b.noted ≡ a.noted → b.table ≡ a.table →
    WritingBreaks state b new name → WritingBreaks state a new name
breaks_from state a b new name moment shape noted table w = elim w [
  | inl c ↦ inl (record {
    turn = c.turn;
    rounds = c.rounds;
    fewer = subst (λ (n : IndexState). c.rounds < blocks_to_go n name.page name.version) noted c.fewer;
    turns = subst (λ (n : IndexState). EvictsInTurn name.page name.version n a.table c.rounds c.turn new.table) noted
        (subst (λ (t : BlocksState). EvictsInTurn name.page name.version b.noted t c.rounds c.turn new.table)
        table c.turns);
    block = c.block;
    next = c.next;
    between = c.between;
    moves = moves_from (state a.flash) (state b.flash) c.between moment shape c.moves;
    breaks = c.breaks;
  })
  | inr rest ↦ elim rest [
    | inl k ↦ inr (inl (record {
      cleared = k.cleared;
      turns = treats_from name a.noted b.noted k.cleared a.table b.table new.table noted table k.turns;
      between = k.between;
      moves = moves_from (state a.flash) (state b.flash) k.between moment shape k.moves;
      breaks = k.breaks;
    }))
    | inr k ↦ inr (inr (record {
      cleared = k.cleared;
      cleared_table = k.cleared_table;
      turns = treats_from name a.noted b.noted k.cleared a.table b.table k.cleared_table noted table k.turns;
      at = k.at;
      slot = k.slot;
      rec = k.rec;
      named = k.named;
      place = k.place;
    }))
  ]
]

module _ {F : Type 0} (state : F → FlashState) (S S1 S2 : StoreState F) (O O' : OpenTransactionsState)
    (name : Link) where
  -- the slot was sought
  pub seeking_breaks : EvictsAll name.page name.version S.noted S.table S1.noted S1.table →
      FlashMoves (state S.flash) (state S1.flash) false →
      S2.table ≡ S1.table →
      RoomBreaksOff S1.noted S1.table (state S1.flash) (state S2.flash) S2.noted S2.unsure →
      WritingBreaks state (device_in state S O)
      (device_in state S2 O') name
  seeking_breaks turns moves stays broken = inr (inl (record {
    cleared = S1.noted;
    turns = subst (EvictsAll name.page name.version S.noted S.table S1.noted) (sym stays) turns;
    between = state S1.flash;
    moves = moves;
    breaks = subst (λ (t : BlocksState). RoomBreaksOff S1.noted t (state S1.flash) (state S2.flash) S2.noted S2.unsure)
        (sym stays) broken;
  }))

  -- the program was broken
  pub record_breaks : (S3 : StoreState F) (at : Slot) (rec : Rec) →
      EvictsAll name.page name.version S.noted S.table S1.noted S1.table →
      TakesSlot S1.noted S1.table S2.noted S2.table at → name_of rec ≡ name → S3.noted ≡ S2.noted →
      S3.table ≡ S2.table → S3.unsure ≡ unsure.Own at rec →
      WritingBreaks state (device_in state S O) (device_in state S3 O') name
  record_breaks S3 at rec turns slot named noted table place = inr (inr (record {
    cleared = S1.noted;
    cleared_table = S1.table;
    turns = turns;
    at = at;
    slot = subst (λ (n : IndexState). TakesSlot S1.noted S1.table n S3.table at) (sym noted)
        (subst (λ (t : BlocksState). TakesSlot S1.noted S1.table S2.noted t at) (sym table) slot);
    rec = rec;
    named = named;
    place = place;
  }))

-- once the place of a device was read something broke off, by the tables that are known then
module _ {F : Type 0} (state : F → FlashState) (S T : StoreState F) (O : OpenTransactionsState)
    (shape : (state T.flash).shape ≡ (state S.flash).shape)
    (moment : moment_of (state T.flash) ≡ moment_of (state S.flash))
    (reads : (state T.flash).reads ≡ counted_times (slots_read S.noted S.unsure) (state S.flash).reads)
    (noted : T.noted ≡ (settlement_of state (device_in state S O)).noted)
    (table : T.table ≡ (settlement_of state (device_in state S O)).table) where
  pub broke_then : (Broke : FlashState → IndexState → BlocksState → Type 0) → Broke (state T.flash) T.noted T.table →
      BreaksThen state (device_in state S O)
      (λ between. Broke between (settlement_of state (device_in state S O)).noted
      (settlement_of state (device_in state S O)).table)
  broke_then Broke broken =
      let found = settlement_of state (device_in state S O) in
      record {
        between = state T.flash;
        shape = shape;
        moment = moment;
        reads = reads;
        breaks = subst (λ (n : IndexState). Broke (state T.flash) n found.table) noted
            (subst (λ (t : BlocksState). Broke (state T.flash) T.noted t) table broken);
      }
