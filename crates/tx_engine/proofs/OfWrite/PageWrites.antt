-- The write of a page as a whole: what it asks for on its way, and what each of its ends leaves.
use Rattle.tx_engine.proofs.Common.{◌≡◌, ℕ, ◌<◌, Bool, length, false, true, List, None, Ok, Err, refl, sym, ap, ◌∙◌, subst, inl, inr, if◌then◌else◌, bytes_in, no_write, Config, Protocol, Slot, Link, Rec, Broken, FlashState, CanDo, moment_of, program, spelling, BlocksState, block_to_go, IsNextName, ImageIsSound, NotingKeeps, Doubt, IsReady, WritesPage, HasPlace, IsDueAt, OpenTransactionsState, TransactionState, bytes_due, name_due, transaction_at, with_mark, with_transaction, is_at_last, with_next, DeviceState, write_at, no_name, text_in, text_with, CanWrite, StoreState, WritesOwn, WritesStored, store_in, device_in, due_record, IsFirstFree}
use Rattle.collector.specs.declared.unsure.Unsure.TheVariants as unsure
use Rattle.tx_engine.specs.Calls.{ClearsFor, FindsFor, IsRecordDue}
use Rattle.tx_engine.specs.Settling.{IsLeft}
use Rattle.tx_engine.proofs.OfWrite.Breaking.{seeking_breaks, record_breaks}
use Rattle.tx_engine.proofs.OfStep.CostFacts.{costs_clear, costs_slot, costs_all}
use Rattle.tx_engine.specs.LastWrite.{EndsProgram, WritesLastOf}
use Rattle.tx_engine.proofs.OfDevice.ExitsThen.{exits_then, since_then}
use Rattle.tx_engine.proofs.OfDevice.Kept.{BlocksInvariant}
use Rattle.tx_engine.proofs.OfWrite.LastWrites.{programmed, writes_last}
use Rattle.tx_engine.proofs.OfWrite.Leaving.{left_then}
use Rattle.tx_engine.proofs.OfWrite.SpareBlanks.{room_made}
use Rattle.tx_engine.proofs.OfStep.NextRecord.{due_named, due_inside, next_name, next_record, next_take, next_can_be_spelled}
use Rattle.tx_engine.proofs.OfWrite.RecordWrites.{writes_record, adds_own, free_within}
use Rattle.tx_engine.proofs.OfWrite.WriteAfter.{settled_kept, next_low, written_after, fails_after, fails_room}
use Rattle.tx_engine.proofs.OfWrite.WriteExits.{IsAsked, due_text, written_stands, written_next, written_exits, broken_stands, broken_fails, broken_exits}

module _ {F : Type 0} (state : F → FlashState) (p : Protocol) (S : StoreState F) (O : OpenTransactionsState) (i : ℕ)
    (ready : IsReady state p S O) (due : IsDueAt O i) where
  abbrev o : TransactionState
  o = transaction_at O i

  abbrev name : Link
  name = name_due O i

  kept : BlocksInvariant (state S.flash) S.noted S.table unsure.Nothing O
  kept = settled_kept state S O ready.stands ready.sure

  pub place : HasPlace O i o.entry.done
  place = record {
    exists = due.exists;
    within = (due_named (state S.flash) S.noted S.table O i kept due.exists due.plain due.unnoted).within;
  }

  pub next_of_due : (names : List Link) × IsNextName S.noted names name
  next_of_due = (o.naming.names, next_name (state S.flash) S.noted S.table O i kept due.exists due.plain due.unnoted)

  pub page_low : name.page < S.noted.config.logical
  page_low =
      let named = due_named (state S.flash) S.noted S.table O i kept due.exists due.plain due.unnoted in
      (named.transaction.in_range o.entry.done no_name (due_inside (state S.flash) S.noted S.table O i kept due.exists
      due.plain due.unnoted)).0

  -- its record
  module _ (rec : Rec) (its : IsRecordDue S.noted O i rec)
      (clear : block_to_go S.noted name.page name.version ≡ None) where
    goes_none : block_to_go S.noted rec.page rec.version ≡ None
    goes_none = subst (λ (a : Link). block_to_go S.noted a.page a.version ≡ None) (sym its.named) clear

    module _ (at : Slot) (free : IsFirstFree S.table at.0) (size : O.page_bytes ≡ S.noted.config.page_bytes) where
      pub can_write : CanWrite (store_in state S) at rec (bytes_due O i)
      can_write = record {
        free = free;
        own = next_take (state S.flash) S.noted S.table O i kept due.exists due.plain due.unnoted rec its.named its.next
            its.back its.counts goes_none;
        spelled = next_can_be_spelled (state S.flash) S.noted S.table O i kept due.exists due.plain due.unnoted rec
            its.named its.next its.back its.counts
            goes_none;
        page = subst (λ k. length (bytes_in k (write_at o.entry o.entry.done)) ≡ S.noted.config.page_bytes) (sym size)
            ((due_named (state S.flash) S.noted S.table O i kept due.exists due.plain due.unnoted).whole o.entry.done
            no_write place.within);
      }

      pub is_asked : IsAsked state p S O i at rec (bytes_due O i)
      is_asked = record {
        ready = ready;
        due = due;
        next = next_record (state S.flash) S.noted S.table O i kept due.exists due.plain due.unnoted rec its.named
            its.next its.back its.counts goes_none;
        its = refl;
        own = its.named;
        free = free;
        text = subst (λ k. text_with rec (bytes_in k (write_at o.entry o.entry.done))
            ≡ text_in S.noted.config.page_bytes (write_at o.entry o.entry.done))
            (sym size)
            (due_text S.noted.config.page_bytes o.entry rec its.discard);
      }

module _ {F : Type 0} (state : F → FlashState) (p : Protocol) (S : StoreState F) (O : OpenTransactionsState) (i : ℕ)
    (ready : IsReady state p S O) (due : IsDueAt O i) where
  abbrev its : TransactionState
  its = transaction_at O i

  abbrev its_name : Link
  its_name = name_due O i

  abbrev first : DeviceState F
  first = device_in state S O

  pub clearing_breaks : (S1 : StoreState F) (x y : Broken) → ClearsFor state p S S1 O its_name (Err x) →
      WritesPage state S S1 O O i (Err y)
  clearing_breaks S1 x y cl = record {
    stands = cl.left.stands;
    written = tt;
    next = tt;
    sure = tt;
    failed = fails_room state first (device_in state S1 O) O i true cl.left;
    exits = cl.left.exits;
    costs = costs_clear state S S1 S1 S1 O O its_name ready.stands.matches.noted cl.clears.costs true refl cl.idle;
    writes = tt;
    fresh = tt;
    breaks = inl cl.clears.broken;
    since = inl cl.left.since;
  }

  module _ (S1 : StoreState F) (cl : ClearsFor state p S S1 O its_name (Ok tt)) where
    abbrev mid : DeviceState F
    mid = device_in state S1 O

    config1 : S1.noted.config ≡ S.noted.config
    config1 = cl.left.exits.tables.config

    idle1 : block_to_go S.noted its_name.page its_name.version ≡ None → S1 ≡ S
    idle1 none = (cl.idle none).1

    pub ready_cleared : IsReady state p S1 O
    ready_cleared = record {
      stands = cl.left.stands;
      rule = ap (λ (k : Config). k.protocol) config1 ∙ ready.rule;
      sure = cl.clears.keeps.sure;
    }

    pub slot_breaks : (S2 : StoreState F) (x y : Broken) → FindsFor state p S1 S2 O its_name (Err x) →
        WritesPage state S S2 O O i (Err y)
    slot_breaks S2 x y fd =
        let last = device_in state S2 O in
        record {
          stands = fd.left.stands;
          written = tt;
          next = tt;
          sure = tt;
          failed = fails_after state first mid last O O i cl.left (fails_room state mid last O i true fd.left);
          exits = exits_then state first mid last true refl refl cl.left.exits fd.left.exits;
          costs = costs_slot state S S1 S2 S2 O O its_name ready.stands.matches.noted cl.clears.costs fd.finds.costs
              config1 true refl idle1 fd.direct;
          writes = tt;
          fresh = tt;
          breaks = seeking_breaks state S S1 S2 O O its_name cl.clears.turns cl.left.exits.moves fd.finds.stays
              fd.finds.broken;
          since = inl (since_then state first mid last true cl.left.exits cl.left.since fd.left.since);
        }

    module _ (S2 : StoreState F) (at : Slot) (fd : FindsFor state p S1 S2 O its_name (Ok at))
        (size : O.page_bytes ≡ S.noted.config.page_bytes) where
      abbrev last : DeviceState F
      last = device_in state S2 O

      left : IsLeft state first last false
      left = left_then state first mid last false refl refl cl.left fd.left

      config2 : S2.noted.config ≡ S.noted.config
      config2 = left.exits.tables.config

      pub ready_found : IsReady state p S2 O
      ready_found = record {
        stands = fd.left.stands;
        rule = ap (λ (k : Config). k.protocol) config2 ∙ ready.rule;
        sure = fd.finds.keeps.sure;
      }

      pub size_found : O.page_bytes ≡ S2.noted.config.page_bytes
      size_found = size ∙ ap (λ (k : Config). k.page_bytes) (sym config2)

      module _ (rec : Rec) (right : IsRecordDue S2.noted O i rec) (images : ImageIsSound p) (law : NotingKeeps p)
          (S3 : StoreState F) (O' : OpenTransactionsState) where
        abbrev new : DeviceState F
        new = device_in state S3 O'

        asked : IsAsked state p S2 O i at rec (bytes_due O i)
        asked = is_asked state p S2 O i ready_found due rec right fd.clear at fd.finds.free size_found

        -- the record is programmed last
        comes_last : (broken : Bool) → S3.table.spare ≡ S2.table.spare →
            CanDo (state S2.flash).shape (state S2.flash).image
            (program at.0 (bytes_due O i) (spelling S2.noted.config.protocol rec)) →
            EndsProgram (state S2.flash).shape (moment_of (state S2.flash))
            (program at.0 (bytes_due O i) (spelling S2.noted.config.protocol rec)) broken (moment_of (state S3.flash)) →
            WritesLastOf state first new its.entry its.naming broken
        comes_last broken spare can ends =
            writes_last state S S1 S2 S3 O O' its.entry its.naming at.0 (bytes_due O i) rec broken config2
            left.exits.carries.shape spare left.since
            (room_made S S1 S2 its_name at false cl.clears.turns cl.clears.cleared idle1 fd.direct fd.slot
            cl.left.stands.matches.table)
            (settled_kept state S O ready.stands ready.sure).matches
            (settled_kept state S2 O ready_found.stands ready_found.sure).matches
            (programmed state p S2 O i ready_found due rec right
            (subst (λ (a : Link). block_to_go S2.noted a.page a.version ≡ None) (sym right.named) fd.clear) at
            fd.finds.free asked.text broken (moment_of (state S3.flash)) can ends)

        pub program_breaks : (x : Broken) → WritesOwn (store_in state S2) (store_in state S3) at rec
            (bytes_due O i) (Err x) →
            O' ≡ (if is_at_last its.entry then with_transaction O i (with_mark its Doubt) else O) →
            WritesPage state S S3 O O' i (Err x)
        program_breaks x w opens = record {
          stands = broken_stands state p S2 S3 O i at rec _ asked images law w.matches w.broken O' opens;
          written = tt;
          next = tt;
          sure = tt;
          failed = fails_after state first last new O O' i left
              (broken_fails state p S2 S3 O i at rec _ asked images law w.matches w.broken O' opens);
          exits = exits_then state first last new true refl refl left.exits
              (broken_exits state p S2 S3 O i at rec _ asked images law w.matches w.broken O' opens w.moves w.carries);
          costs = costs_all state S S1 S2 S3 O O' its_name ready.stands.matches.noted cl.clears.costs fd.finds.costs
              config1 idle1 false fd.direct w.costs.0
              w.costs.1;
          writes = tt;
          fresh = tt;
          breaks = record_breaks state S S1 S2 O O' its_name S3 at rec cl.clears.turns fd.slot right.named
              w.broken.noted w.broken.table w.broken.unsure;
          since = inr (comes_last true (ap (λ (t : BlocksState). t.spare) w.broken.table) w.broken.can w.broken.torn);
        }

        pub page_written : WritesOwn (store_in state S2) (store_in state S3) at rec (bytes_due O i) (Ok tt) →
            O' ≡ with_transaction O i (with_next its) → WritesPage state S S3 O O' i (Ok tt)
        page_written w opens =
            let wanted = due_record S.noted.config.page_bytes its.entry its.naming in
            let written = subst (λ k. WritesStored (store_in state S2) (store_in state S3) at.0 rec
            (bytes_in k (write_at its.entry its.entry.done))) size
            w.written in
            let matches = fd.left.stands.matches in
            record {
              stands = written_stands state p S2 S3 O i at rec _ asked images law w.matches w.written O' opens;
              written = written_after state first last new its.entry left (next_low state S O i ready.stands due.exists)
                  (written_next state p S2 S3 O i at rec _ asked images law w.matches w.written O' opens);
              next = opens;
              sure = w.written.unsure;
              failed = tt;
              exits = exits_then state first last new false refl refl left.exits
                  (written_exits state p S2 S3 O i at rec _ asked images law w.matches w.written O' opens
                  w.moves w.carries);
              costs = costs_all state S S1 S2 S3 O O' its_name ready.stands.matches.noted cl.clears.costs fd.finds.costs
                  config1 idle1 false fd.direct w.costs.0
                  w.costs.1;
              writes = writes_record state S S1 S2 S3 O O' wanted at rec ready.stands.matches.noted cl.left.kept idle1
                  false fd.direct
                  left.exits.carries.shape cl.clears.cleared fd.slot right.named right.next right.counts
                  right.discard right.back
                  (free_within (state S2.flash) S2.noted S2.table S2.unsure matches at.0 fd.finds.free) written
                  cl.clears.turns left.exits.moves;
              fresh = adds_own state S S1 S2 S3 O O' wanted at rec (subst NotingKeeps (sym ready_found.rule) law)
                  matches.noted S2.unsure matches fd.finds.free
                  cl.left.kept fd.left.kept right.named written;
              breaks = tt;
              since = inr (comes_last false (ap (λ (t : BlocksState). t.spare) w.written.table) w.written.does.0
                  w.written.does.1);
            }
