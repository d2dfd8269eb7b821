-- The program of the next record of an open transaction: what it leaves of a device, done or broken.
use Rattle.tx_engine.proofs.Common.{◌≡◌, ◌≢◌, ℕ, ◌+◌, ◌<◌, true, false, List, [], length, Some, refl, sym, ap, ap₂, ◌∙◌, subst, inl, inr, arith, eq-eqb, ne_eqb, is_none, slice_set, slice_index, if◌then◌else◌, cases_eq, cond-true, cond-false, length-set, get_or-set_same, get_or-set_other, All-from_get_or, All-nil, map-set_same, PageWrite, bytes_in, slots_of, Protocol, Slot, Rec, FlashState, complete, slot_at, Carries, FlashMoves, is_present, name_of, TextsStay, IndexState, IsNextRecord, programmed, current_of, IsFirstFree, Unsure, array_known, Matches, Preserves, Entry, Pages, is_doubted, page_at, put, Plain, Doubt, Whole, Exits, VersionsRise, DeviceState, Stands, name_at, text_in, text_with, write_at, IsDueAt, OpenTransactionsState, TransactionState, no_transaction, transaction_at, namings_of, with_transaction, with_mark, with_next, is_at_last, next_writes, WriteFails, IsReady, StoreState, WritesStored, store_in, device_in, ImageIsSound, NotingKeeps}
use Rattle.list_lemmas.proofs.Lists.{slice_get_map, slice_get_at}
use Rattle.collector.specs.declared.unsure.Unsure.TheVariants as unsure
use Rattle.collector.proofs.OfNotes.Keeping.{preserves_same}
use Rattle.tx_engine.specs.Settling.{WritesNext}
use Rattle.tx_engine.specs.StoreState.{WriteBreaks}
use Rattle.tx_engine.proofs.OfDevice.ExitsThen.{NamedBefore, before_itself}
use Rattle.tx_engine.proofs.OfDevice.OpenOnes.{can_take}
use Rattle.tx_engine.proofs.OfWrite.HeldImages.{held_torn, held_written}
use Rattle.tx_engine.proofs.OfDevice.ImageMoves.{KeepsNoted, image_array, image_under, image_transaction}
use Rattle.tx_engine.proofs.OfDevice.Kept.{BlocksInvariant, IsTransaction, HasSameParts, from_stands, to_stands, kept_with}
use Rattle.tx_engine.proofs.OfSettle.NextNoted.{IsNextOf, next_kept, next_parts, names_before, next_array, last_array, next_stays, next_versions, writes_rise}
use Rattle.tx_engine.proofs.OfSettle.NextNoted.{writes_stay, next_mentions}
use Rattle.tx_engine.proofs.OfStep.NextRecord.{due_named, due_under}
use Rattle.tx_engine.proofs.OfSettle.SettledLists.{CalmBeside, calm_at}

-- a record with the flag of what is written next says of the page what is written
pub due_text : (size : ℕ) (e : Entry) (rec : Rec) → rec.discard ≡ is_none (write_at e e.done).value →
    text_with rec (bytes_in size (write_at e e.done)) ≡ text_in size (write_at e e.done)
due_text size e rec flag = ap (λ d. record { discard = d; bytes = bytes_in size (write_at e e.done) }) flag

-- the record of the next page of a transaction, for the first free slot of a block
pub record IsAsked {F : Type 0} (state : F → FlashState) (p : Protocol) (S : StoreState F) (O : OpenTransactionsState)
    (i : ℕ) (at : Slot) (rec : Rec)
    (bytes : List ℕ) : Type 0 where
  pub ready : IsReady state p S O
  pub due : IsDueAt O i
  pub next : IsNextRecord S.noted rec
  pub its : next.names ≡ (transaction_at O i).naming.names
  pub own : name_of rec ≡ name_at (transaction_at O i).naming (transaction_at O i).entry.done
  pub free : IsFirstFree S.table at.0
  pub text : text_with rec bytes ≡ text_in S.noted.config.page_bytes
      (write_at (transaction_at O i).entry (transaction_at O i).entry.done)

module _ {F : Type 0} (state : F → FlashState) (p : Protocol) (S S' : StoreState F) (O : OpenTransactionsState) (i : ℕ)
    (at : Slot) (rec : Rec) (bytes : List ℕ)
    (asked : IsAsked state p S O i at rec bytes) (images : ImageIsSound p) (law : NotingKeeps p)
    (matches : Matches (state S'.flash) S'.noted S'.table S'.unsure) where
  abbrev within : i < length O.all
  within = asked.due.exists

  abbrev plain : (transaction_at O i).entry.mark ≡ Plain
  plain = asked.due.plain

  abbrev due : (transaction_at O i).naming.noted_count ≡ (transaction_at O i).entry.done
  due = asked.due.unnoted

  settles : ImageIsSound S.noted.config.protocol
  settles = subst ImageIsSound (sym asked.ready.rule) images

  notes : NotingKeeps S.noted.config.protocol
  notes = subst NotingKeeps (sym asked.ready.rule) law

  abbrev old : FlashState
  old = state S.flash

  abbrev new : FlashState
  new = state S'.flash

  abbrev n : IndexState
  n = S.noted

  abbrev o : TransactionState
  o = transaction_at O i

  kept : BlocksInvariant old n S.table unsure.Nothing O
  kept = subst (λ u. BlocksInvariant old n S.table u O) asked.ready.sure (from_stands state S O asked.ready.stands)

  calm : CalmBeside O.all i
  calm j inside other = calm_at O.all kept.doubt j inside

  -- what is noted keeps its text
  keeps : TextsStay n.config.protocol old.image new.image → KeepsNoted n old.image new.image
  keeps stay name there =
      stay name (subst (λ l. is_present l name ≡ true)
      (sym (settles.records old n S.table unsure.Nothing kept.matches tt refl)) there)

  -- Done
  module _ (w : WritesStored (store_in state S) (store_in state S') at.0 rec bytes) where
    stay : KeepsNoted n old.image new.image
    stay = keeps w.stay

    is_next : IsNextOf n.config.protocol n at.0 rec new.image o
    is_next = record {
      noted = kept.matches.noted;
      rule = refl;
      next = asked.next;
      within = omega (arith, asked.free.free.within, ap slots_of kept.matches.blocks, ap slots_of kept.matches.shape);
      was = kept.matches.free at.0 asked.free.free;
      named = due_named old n S.table O i kept within plain due;
      under = image_under n old.image new.image stay o.entry o.naming
          (due_under old n S.table O i kept within plain due);
      its = asked.its;
      due = due;
      name = asked.own;
      come = w.come ∙ ap Some asked.text;
      plain = λ more. plain;
    }

    matched : Matches new (programmed n at.0 rec) S'.table unsure.Nothing
    matched = subst (λ m. Matches new m S'.table unsure.Nothing) w.noted
        (subst (λ u. Matches new S'.noted S'.table u) w.unsure matches)

    then_kept : BlocksInvariant new (programmed n at.0 rec) S'.table unsure.Nothing (with_transaction O i (with_next o))
    then_kept =
        next_kept n.config.protocol notes old new n S.table S'.table unsure.Nothing O i at.0 rec kept within
        (All-from_get_or (IsTransaction new.image n) O.all no_transaction
        (λ j inside. image_transaction n old.image new.image stay (transaction_at O j)
        (kept.each j no_transaction inside)))
        calm is_next matched

    abbrev stored_then : StoreState F
    stored_then = record { flash = S'.flash; noted = programmed n at.0 rec; table = S'.table; unsure = unsure.Nothing }

    stored_is : S' ≡ stored_then
    stored_is = ap₂ (λ (m : IndexState) (u : Unsure). record S' { noted = m; unsure = u }) w.noted w.unsure

    pages_then : array_known (programmed n at.0 rec) new.image ≡ put (array_known n old.image) (next_writes o.entry)
    pages_then = elim (cases_eq (o.entry.done + 1) (length o.entry.writes)) [
      | inl last ↦
          last_array n.config.protocol notes n at.0 rec old.image new.image o is_next last
          ∙ ap (λ ps. put ps o.entry.writes) (image_array n old.image new.image stay kept.matches.noted)
          ∙ ap (put (array_known n old.image))
          (sym (cond-true (is_at_last o.entry) o.entry.writes []
          (eq-eqb (o.entry.done + 1) (length o.entry.writes) last)))
      | inr more ↦
          next_array n.config.protocol notes n at.0 rec old.image new.image o is_next more
          ∙ image_array n old.image new.image stay kept.matches.noted
          ∙ ap (put (array_known n old.image)) (sym
          (cond-false (is_at_last o.entry) o.entry.writes [] (ne_eqb (o.entry.done + 1) (length o.entry.writes) more)))
    ]

    rises_then : VersionsRise (device_in state S O) (device_in state stored_then (with_transaction O i (with_next o)))
        (next_writes o.entry)
    rises_then = elim (cases_eq (o.entry.done + 1) (length o.entry.writes)) [
      | inl last ↦ subst (VersionsRise (device_in state S O)
          (device_in state stored_then (with_transaction O i (with_next o))))
          (sym (cond-true (is_at_last o.entry) o.entry.writes []
          (eq-eqb (o.entry.done + 1) (length o.entry.writes) last)))
          (record {
            rises = writes_rise n.config.protocol notes n at.0 rec old.image new.image o is_next last;
            stays = λ page low others. writes_stay n.config.protocol notes n at.0 rec old.image new.image o is_next last
                page low others;
          })
      | inr more ↦ subst (VersionsRise (device_in state S O)
          (device_in state stored_then (with_transaction O i (with_next o))))
          (sym (cond-false (is_at_last o.entry) o.entry.writes []
          (ne_eqb (o.entry.done + 1) (length o.entry.writes) more)))
          (record {
            rises = All-nil (λ (w : PageWrite). current_of n w.page < current_of (programmed n at.0 rec) w.page);
            stays = λ page low others. next_stays n.config.protocol notes n at.0 rec old.image new.image o is_next
                more page low;
          })
    ]

    module _ (O' : OpenTransactionsState) (opens : O' ≡ with_transaction O i (with_next o)) where
      device_is : device_in state S' O' ≡ device_in state stored_then (with_transaction O i (with_next o))
      device_is = ap₂ (λ (T : StoreState F) (t : OpenTransactionsState). device_in state T t) stored_is opens

      pub written_stands : Stands state (device_in state S' O')
      written_stands = subst (Stands state) (sym device_is)
          (to_stands state stored_then (with_transaction O i (with_next o)) then_kept)

      pub written_next : WritesNext (device_in state S O) (device_in state S' O') o.entry
      written_next = subst (λ (t : DeviceState F). WritesNext (device_in state S O) t o.entry) (sym device_is)
          (record { pages = pages_then; rises = rises_then })

      pub written_exits : FlashMoves old new false → Carries old new false →
          Exits state (device_in state S O) (device_in state S' O') false
      written_exits moves carries = subst (λ (t : DeviceState F). Exits state (device_in state S O) t false)
          (sym device_is) (record {
            tables = record {
              config = refl;
              versions = next_versions n.config.protocol notes n at.0 rec old.image new.image o is_next stay;
              mentions = next_mentions n.config.protocol notes n at.0 rec old.image new.image o is_next O.all
                  i within refl;
              names = names_before O.all (slice_set O.all i (with_next o))
                  (map-set_same (λ (x : TransactionState). x.naming.names) O.all i (with_next o) no_transaction
                  (next_parts o).names);
              kept = refl;
            };
            moves = moves;
            carries = carries;
            held = held_written old new n S.table settles kept.matches notes at.0 rec is_next.noted is_next.next
                is_next.within is_next.was S'.table matched;
          })

  -- Broken
  module _ (w : WriteBreaks (store_in state S) (store_in state S') at rec bytes) where
    still : KeepsNoted n old.image new.image
    still = keeps w.stay

    transaction_still : (j : ℕ) → j < length O.all → IsTransaction new.image n (transaction_at O j)
    transaction_still j inside = image_transaction n old.image new.image still (transaction_at O j)
        (kept.each j no_transaction inside)

    broken_matches : Matches new n S'.table (unsure.Own at rec)
    broken_matches = subst (λ m. Matches new m S'.table (unsure.Own at rec)) w.noted
        (subst (λ u. Matches new S'.noted S'.table u) w.unsure matches)

    abbrev stored_broken : StoreState F
    stored_broken = record { flash = S'.flash; noted = n; table = S'.table; unsure = unsure.Own at rec }

    broken_is : S' ≡ stored_broken
    broken_is = ap₂ (λ (m : IndexState) (u : Unsure). record S' { noted = m; unsure = u }) w.noted w.unsure

    own_text : (b spare : List ℕ) → slot_at new.image at.0 ≡ complete b spare →
        text_with rec b ≡ text_in n.config.page_bytes (write_at o.entry o.entry.done)
    own_text b spare is = ap (text_with rec) (w.slot b spare is) ∙ asked.text

    more_kept : o.entry.done + 1 ≢ length o.entry.writes → BlocksInvariant new n S'.table (unsure.Own at rec) O
    more_kept more = record {
      matches = broken_matches;
      each = All-from_get_or (IsTransaction new.image n) O.all no_transaction transaction_still;
      doubt = record {
        place = i;
        entry = o.entry;
        naming = o.naming;
        is_entry = slice_get_at (λ (x : TransactionState). x.entry) O.all i no_transaction within;
        is_naming = slice_get_at (λ (x : TransactionState). x.naming) O.all i no_transaction within;
        not_whole = λ is. let both : Plain ≡ Whole = sym plain ∙ is in cc;
        written = due;
        next = asked.next;
        its = asked.its;
        named = asked.own;
        text = own_text;
        doubt = ap is_doubted plain ∙ sym (ne_eqb (o.entry.done + 1) (length o.entry.writes) more);
        others = λ j e other is.
            let got = slice_get_map (λ (x : TransactionState). x.entry) O.all j no_transaction e is in
            ap (λ (x : Entry). is_doubted x.mark) (sym got.1) ∙ calm j got.0 other;
      };
      tags = kept.tags;
      apart = kept.apart;
      few = kept.few;
      pinned = kept.pinned;
    }

    abbrev doubted : TransactionState
    doubted = with_mark o Doubt

    doubted_parts : HasSameParts o doubted
    doubted_parts = record { tag = refl; writes = refl; names = refl }

    last_kept : o.entry.done + 1 ≡ length o.entry.writes →
        BlocksInvariant new n S'.table (unsure.Own at rec) (with_transaction O i doubted)
    last_kept last =
        let named = due_named old n S.table O i kept within plain due in
        let under = image_under n old.image new.image still o.entry o.naming
        (due_under old n S.table O i kept within plain due) in
        let here : IsTransaction new.image n doubted = record {
          named = record {
            pages = named.pages;
            within = named.within;
            whole = named.whole;
            transaction = named.transaction;
          };
          marked = (
            record {
              in_progress = under.in_progress;
              least = under.least;
              most = under.most;
              short = under.short;
              noted = under.noted;
              texts = under.texts;
            },
            last,
          );
        } in
        let own_within : i < length (slice_set O.all i doubted) =
        subst (λ len. i < len) (sym (length-set O.all i doubted)) within in
        let there = get_or-set_same O.all i doubted no_transaction within in
        kept_with old new n n S.table S'.table unsure.Nothing (unsure.Own at rec) O i doubted kept within doubted_parts
        broken_matches refl refl
        (λ j inside other. transaction_still j inside) here
        (record {
          place = i;
          entry = doubted.entry;
          naming = doubted.naming;
          is_entry = slice_get_at (λ (x : TransactionState). x.entry) (slice_set O.all i doubted) i no_transaction
              own_within ∙ ap (λ (x : TransactionState). Some x.entry) there;
          is_naming = slice_get_at (λ (x : TransactionState). x.naming) (slice_set O.all i doubted) i no_transaction
              own_within ∙ ap (λ (x : TransactionState). Some x.naming) there;
          not_whole = λ is. let both : Doubt ≡ Whole = is in cc;
          written = due;
          next = asked.next;
          its = asked.its;
          named = asked.own;
          text = own_text;
          doubt = sym (eq-eqb (o.entry.done + 1) (length o.entry.writes) last);
          others = λ j e other is.
              let got = slice_get_map (λ (x : TransactionState). x.entry) (slice_set O.all i doubted) j
              no_transaction e is in
              let inside : j < length O.all = subst (λ len. j < len) (length-set O.all i doubted) got.0 in
              ap (λ (x : Entry). is_doubted x.mark) (sym got.1)
              ∙ ap (λ (x : TransactionState). is_doubted x.entry.mark)
              (get_or-set_other O.all i j doubted no_transaction other) ∙ calm j inside other;
        })

    module _ (O' : OpenTransactionsState) (opens : O' ≡ (if is_at_last o.entry then with_transaction O i doubted
        else O)) where
      opens_last : o.entry.done + 1 ≡ length o.entry.writes → O' ≡ with_transaction O i doubted
      opens_last last = opens ∙ cond-true (is_at_last o.entry) (with_transaction O i doubted) O
          (eq-eqb (o.entry.done + 1) (length o.entry.writes) last)

      opens_more : o.entry.done + 1 ≢ length o.entry.writes → O' ≡ O
      opens_more more = opens ∙ cond-false (is_at_last o.entry) (with_transaction O i doubted) O
          (ne_eqb (o.entry.done + 1) (length o.entry.writes) more)

      broken_kept : BlocksInvariant new n S'.table (unsure.Own at rec) O'
      broken_kept = elim (cases_eq (o.entry.done + 1) (length o.entry.writes)) [
        | inl last ↦ subst (BlocksInvariant new n S'.table (unsure.Own at rec)) (sym (opens_last last)) (last_kept last)
        | inr more ↦ subst (BlocksInvariant new n S'.table (unsure.Own at rec)) (sym (opens_more more)) (more_kept more)
      ]

      pub broken_stands : Stands state (device_in state S' O')
      broken_stands = subst (λ (T : StoreState F). Stands state (device_in state T O')) (sym broken_is)
          (to_stands state stored_broken O' broken_kept)

      same_pages : array_known S'.noted new.image ≡ array_known n old.image
      same_pages = ap (λ m. array_known m new.image) w.noted
          ∙ image_array n old.image new.image still kept.matches.noted

      pub broken_fails : WriteFails (device_in state S O) (device_in state S' O') O O' i
      broken_fails = record {
        pages = same_pages;
        rises = record {
          rises = All-nil (λ (v : PageWrite). current_of n v.page < current_of S'.noted v.page);
          stays = λ page low others. ap (λ m. current_of m page) w.noted;
        };
        kept = subst (Preserves n) (sym w.noted) (preserves_same n);
        opens = elim (cases_eq (o.entry.done + 1) (length o.entry.writes)) [
          | inl last ↦ inr (last, opens_last last)
          | inr more ↦ inl (opens_more more)
        ];
      }

      pub broken_exits : FlashMoves old new true → Carries old new true →
          Exits state (device_in state S O) (device_in state S' O') true
      broken_exits moves carries = record {
        tables = record {
          config = ap (λ m. m.config) w.noted;
          versions = λ page low. inr (
            ap (λ m. current_of m page) w.noted,
            ap (λ (ps : Pages). page_at ps page) same_pages,
          );
          mentions = λ page low. inl (ap (λ m. slice_index m.mentions page) w.noted);
          names = elim (cases_eq (o.entry.done + 1) (length o.entry.writes)) [
            | inl last ↦ subst (λ t. NamedBefore (namings_of O) (namings_of t)) (sym (opens_last last))
                (names_before O.all (slice_set O.all i doubted)
                (map-set_same (λ (x : TransactionState). x.naming.names) O.all i doubted no_transaction refl))
            | inr more ↦ subst (λ t. NamedBefore (namings_of O) (namings_of t)) (sym (opens_more more))
                (before_itself (namings_of O))
          ];
          kept = refl;
        };
        moves = moves;
        carries = carries;
        held = held_torn old new n S.table settles kept.matches notes S'.table at rec
            (can_take state (device_in state stored_broken O') (to_stands state stored_broken O' broken_kept))
            broken_matches;
      }
