-- What settling makes of the open transactions: the record that was being programmed is there, or nothing that is known
-- changed.
use Rattle.tx_engine.proofs.Common.{◌≡◌, ◌≢◌, ◌⊎◌, ℕ, ◌+◌, ◌<◌, ◌≤◌, ◌==◌, Bool, true, false, List, [], length, map, get_or, All, AllPairs, Contains, Option, Some, refl, sym, ap, ap₂, ◌∙◌, subst, inl, inr, arith, eq-eqb, ne_eqb, Any, slice_set, slice_index, position, ◌↔◌, cases_eq, cond-true, cond-false, both_ways, length-set, get_or-set_same, get_or-set_other, All-nil, map-set_same, PageWrite, slots_of, Slot, Link, Rec, FlashState, Contents, blank, damaged, complete, slot_at, name_of, ShareNoPage, current_in, IndexState, programmed, current_of, pinned_names, BlocksState, Unsure, array_known, Matches, CanTake, CanTakeOwn, Preserves, KeepsArray, settlement, Settlement, ArrayState, Entry, Pages, put, is_doubted, page_at, pending_pages, Mark, Plain, Doubt, Whole, settled_writes, Naming, IsAsMarked, IsUnderWay, DoubtsAs, IsOwn, name_at, write_at, text_in, no_name, settled, settled_mark, settled_entry, OpenTransactionsState, TransactionState, no_transaction, transaction_at, entries_of, namings_of, with_transaction, with_mark, with_noted_count, with_next, is_writing, ArrayStays, ImageIsSound, NotingKeeps}
use Rattle.list_lemmas.proofs.Positions.{position-at}
use Rattle.list_lemmas.proofs.Quantifiers.{any_from_map}
use Rattle.list_lemmas.proofs.Lists.{slice_get_map, slice_get_at}
use Rattle.collector.specs.declared.unsure.Unsure.TheVariants as unsure
use Rattle.collector.specs.declared.unsure.Settled.TheVariants as found
use Rattle.collector.specs.Settling.{own_settled}
use Rattle.collector.proofs.OfNotes.Keeping.{keeps_array_itself}
use Rattle.tx_engine.specs.Exits.{MentionsRise}
use Rattle.array_machine.specs.Step.{doubted}
use Rattle.tx_engine.proofs.OfDevice.Arrays.{as_many_names}
use Rattle.tx_engine.proofs.OfLaws.DevicesStand.{settles_there, text_there, spare_other, doubt_is}
use Rattle.tx_engine.proofs.OfDevice.OpenOnes.{under_way, take_unsure}
use Rattle.tx_engine.proofs.OfDevice.Kept.{BlocksInvariant, IsTransaction, IsCalm, HasSameParts, kept_with, each_stays}
use Rattle.tx_engine.proofs.OfSettle.SettledLists.{CalmBeside, calm_all, calm_at, calm_entry, entries_in, any_moved, settled_at, settled_calm, doubted_at}
use Rattle.tx_engine.proofs.OfSettle.SettledLists.{moved_calm, moved_none, moved_one, not_moved, are_moved}
use Rattle.tx_engine.proofs.OfDevice.ExitsThen.{NamedBefore}
use Rattle.tx_engine.proofs.OfSettle.NextNoted.{IsNextOf, next_kept, next_parts, names_before, next_stays, next_array, last_current, last_rises, last_array}
use Rattle.tx_engine.proofs.OfSettle.NextNoted.{next_versions, writes_rise, writes_stay, next_mentions}
use Rattle.tx_engine.proofs.OfDevice.ImageMoves.{KeepsNoted}

-- the state of the array machine of tables and open transactions
abbrev pub machine_in : IndexState → List Contents → List TransactionState → ArrayState
machine_in n image all = record { pages = array_known n image; entries = map (λ o. o.entry) all }

-- what settling leaves
pub record IsSettledAs (s : FlashState) (n n' : IndexState) (t' : BlocksState)
    (o o' : OpenTransactionsState) : Type 0 where
  pub kept : BlocksInvariant s n' t' unsure.Nothing o'
  pub machine : machine_in n' s.image o'.all ≡ settled (any_moved n s.image o.all) (machine_in n s.image o.all)
  pub rises : All (λ w. current_of n w.page < current_of n' w.page)
      (settled_writes (any_moved n s.image o.all) (machine_in n s.image o.all))
  pub stays : (page : ℕ) → page < n.config.logical →
      All (λ w. w.page ≢ page) (settled_writes (any_moved n s.image o.all) (machine_in n s.image o.all)) →
      current_of n' page ≡ current_of n page
  pub config : n'.config ≡ n.config
  pub versions : (page : ℕ) → page < n.config.logical → (current_of n page < current_of n' page)
      ⊎ ((current_of n' page ≡ current_of n page)
      × (page_at (array_known n' s.image) page ≡ page_at (array_known n s.image) page))
  pub mentions : MentionsRise n n' (namings_of o)
  pub names : NamedBefore (namings_of o) (namings_of o')

-- The machine settles
pub settled_there : (b : Bool) (pages pages' : Pages) (es es' : List Entry) → b ≡ true →
    pages' ≡ put pages (doubted es) → map (settled_entry true) es ≡ es' →
    record { pages = pages'; entries = es' } ≡ settled b (record { pages = pages; entries = es })
settled_there true pages pages' es es' is same entries =
    ap₂ (λ (ps : Pages) (fs : List Entry). record { pages = ps; entries = fs }) same (sym entries)
settled_there false pages pages' es es' is same entries = cc

pub settled_gone : (b : Bool) (pages pages' : Pages) (es es' : List Entry) → b ≡ false → pages' ≡ pages →
    map (settled_entry false) es ≡ es' →
    record { pages = pages'; entries = es' } ≡ settled b (record { pages = pages; entries = es })
settled_gone true pages pages' es es' is same entries = cc
settled_gone false pages pages' es es' is same entries =
    ap₂ (λ (ps : Pages) (fs : List Entry). record { pages = ps; entries = fs }) same (sym entries)

pub writes_there : (b : Bool) (s : ArrayState) (ws : List PageWrite) → b ≡ true → doubted s.entries ≡ ws →
    settled_writes b s ≡ ws
writes_there true s ws is same = same
writes_there false s ws is same = cc

pub writes_gone : (b : Bool) (s : ArrayState) → b ≡ false → settled_writes b s ≡ []
writes_gone true s is = cc
writes_gone false s is = refl

-- an item of an empty list
none_of : {X : Type 0} (P : X → Type 0) (xs : List X) → xs ≡ [] → All P xs
none_of P xs is = subst (All P) (sym is) (All-nil P)

-- The record of an open transaction that was being programmed
pub record IsFoundOwn (n : IndexState) (image : List Contents) (o : OpenTransactionsState) (w : Option ℕ)
    (m : IndexState) : Type 0 where
  pub at : ℕ
  pub rec : Rec
  pub place : ℕ
  pub within : place < length o.all
  pub is_place : w ≡ Some place
  pub noted : m ≡ programmed n at rec
  pub next : IsNextOf n.config.protocol n at rec image (transaction_at o place)
  pub calm : CalmBeside o.all place
  pub not_whole : (transaction_at o place).entry.mark ≢ Whole
  pub doubt : is_doubted (transaction_at o place).entry.mark
      ≡ ((transaction_at o place).entry.done + 1 == length (transaction_at o place).entry.writes)

plain_is : (m : Mark) → m ≢ Whole → is_doubted m ≡ false → m ≡ Plain
plain_is Plain h calm = refl
plain_is Doubt h calm = cc
plain_is Whole h calm = absurd (h refl)

can_take_kept : (s : FlashState) (n : IndexState) (t : BlocksState) (u : Unsure) (o : OpenTransactionsState) →
    BlocksInvariant s n t u o → CanTake n t u
can_take_kept s n t u o k =
    take_unsure s.image n t (entries_of o) (namings_of o) u k.doubt k.matches.spared
    (λ name any. (k.pinned name).1 (any_from_map (λ (x : TransactionState). x.naming) (λ x. Contains x.names name) o.all
    no_transaction any))

-- the one whose next page it is, is the one that was being written
is_only_writing : (o : OpenTransactionsState) (place : ℕ) (rec : Rec) →
    AllPairs (λ a b. ShareNoPage a.naming.names b.naming.names) o.all →
    ((k : ℕ) → k < length o.all → (transaction_at o k).entry.done < length (transaction_at o k).naming.names) →
    place < length o.all → name_of rec ≡ name_at (transaction_at o place).naming (transaction_at o place).entry.done →
    position (is_writing rec.page) o.all ≡ Some place
is_only_writing o place rec apart done within name =
    position-at (is_writing rec.page) o.all no_transaction place within
    (λ k less.
    let inside : k < length o.all = omega arith in
    let share = apart k place no_transaction less within in
    ne_eqb (name_at (transaction_at o k).naming (transaction_at o k).entry.done).page rec.page (λ same.
    share (transaction_at o k).entry.done no_name (done k inside) (transaction_at o place).entry.done no_name
    (done place within)
    (same ∙ ap (λ (a : Link). a.page) name)))
    (eq-eqb (name_at (transaction_at o place).naming (transaction_at o place).entry.done).page rec.page
    (ap (λ (a : Link). a.page) (sym name)))

module _ (s : FlashState) (n : IndexState) (t : BlocksState) (o : OpenTransactionsState)
    (settles : ImageIsSound n.config.protocol) (notes : NotingKeeps n.config.protocol) where
  own_found : (at : Slot) (rec : Rec) (w : Option ℕ) (bytes spare : List ℕ) →
      BlocksInvariant s n t (unsure.Own at rec) o → w ≡ position (is_writing rec.page) o.all →
      slot_at s.image at.0 ≡ complete bytes spare →
      IsFoundOwn n s.image o w (settlement n t s.image (unsure.Own at rec)).noted
  own_found at rec w bytes spare k writer is =
      let own : IsOwn s.image n (entries_of o) (namings_of o) at rec = k.doubt in
      let take : CanTakeOwn n t rec = can_take_kept s n t (unsure.Own at rec) o k in
      let i = own.place in
      let entry = slice_get_map (λ (x : TransactionState). x.entry) o.all i no_transaction own.entry own.is_entry in
      let naming = slice_get_map (λ (x : TransactionState). x.naming) o.all i no_transaction own.naming own.is_naming in
      let its = transaction_at o i in
      let open_as = k.each i no_transaction entry.0 in
      let not_whole : its.entry.mark ≢ Whole = λ h. own.not_whole (ap (λ (e : Entry). e.mark) (sym entry.1) ∙ h) in
      let doubt : is_doubted its.entry.mark ≡ (its.entry.done + 1 == length its.entry.writes) =
      subst (λ (e : Entry). is_doubted e.mark ≡ (e.done + 1 == length e.writes)) (sym entry.1) own.doubt in
      let name : name_of rec ≡ name_at its.naming its.entry.done =
      own.named ∙ ap₂ (λ (x : Naming) (e : Entry). name_at x e.done) (sym naming.1) (sym entry.1) in
      let done : (j : ℕ) → j < length o.all → (transaction_at o j).entry.done < length
      (transaction_at o j).naming.names = λ j inside.
      let known = (k.each j no_transaction inside).named in
      omega (
        arith,
        known.within,
        as_many_names (transaction_at o j).naming.names (transaction_at o j).entry.writes
            known.pages,
      ) in
      record {
        at = at.0;
        rec = rec;
        place = i;
        within = entry.0;
        is_place = writer ∙ is_only_writing o i rec k.apart done entry.0 name;
        noted = ap (λ (f : Settlement). f.noted) (settles_there n.config.protocol settles notes s n t at rec k.matches
            refl take bytes spare is);
        next = record {
          noted = k.matches.noted;
          rule = refl;
          next = own.next;
          within = omega (arith, k.matches.place.0.within, ap slots_of k.matches.blocks, ap slots_of k.matches.shape);
          was = k.matches.place.1;
          named = open_as.named;
          under = under_way s.image n its.entry its.naming its.entry.mark open_as.marked not_whole;
          its = own.its ∙ ap (λ (x : Naming). x.names) (sym naming.1);
          due = ap (λ (x : Naming). x.noted_count) naming.1 ∙ own.written ∙ ap (λ (e : Entry). e.done) (sym entry.1);
          name = name;
          come = text_there n.config.protocol settles notes s n t at rec k.matches refl take bytes spare is
              ∙ ap Some (own.text bytes spare is)
              ∙ ap (λ (e : Entry). Some (text_in n.config.page_bytes (write_at e e.done))) (sym entry.1);
          plain = λ more. plain_is its.entry.mark not_whole (doubt
              ∙ ne_eqb (its.entry.done + 1) (length its.entry.writes) more);
        };
        calm = λ j inside other. own.others j (transaction_at o j).entry other
            (slice_get_at (λ (x : TransactionState). x.entry) o.all j no_transaction inside);
        not_whole = not_whole;
        doubt = doubt;
      }

  own_cases : (at : Slot) (rec : Rec) (w : Option ℕ) (c : Contents) → BlocksInvariant s n t (unsure.Own at rec) o →
      w ≡ position (is_writing rec.page) o.all →
      slot_at s.image at.0 ≡ c → (settlement n t s.image (unsure.Own at rec)).answer ≡ found.Present →
      IsFoundOwn n s.image o w (settlement n t s.image (unsure.Own at rec)).noted
  own_cases at rec w blank k writer is present =
      let same = ap (λ c. (own_settled n t at.0 (λ m. programmed m at.0 rec) c).answer) is in
      let both : found.Missing ≡ found.Present = sym same ∙ present in cc
  own_cases at rec w damaged k writer is present =
      let same = ap (λ c. (own_settled n t at.0 (λ m. programmed m at.0 rec) c).answer) is in
      let both : found.Missing ≡ found.Present = sym same ∙ present in cc
  own_cases at rec w (complete bytes spare) k writer is present = own_found at rec w bytes spare k writer is

  pub present_found : (u : Unsure) (w : Option ℕ) → BlocksInvariant s n t u o →
      ((at : Slot) (rec : Rec) → u ≡ unsure.Own at rec → w ≡ position (is_writing rec.page) o.all) →
      (settlement n t s.image u).answer ≡ found.Present → IsFoundOwn n s.image o w (settlement n t s.image u).noted
  present_found unsure.Nothing w k writer present = cc
  present_found (unsure.Own at rec) w k writer present = own_cases at rec w (slot_at s.image at.0) k
      (writer at rec refl) refl present
  present_found (unsure.Copy from to) w k writer present = cc
  present_found unsure.SpareErase w k writer present = absurd (spare_other _ n t _ refl present)
  present_found (unsure.VictimErase block) w k writer present = absurd (spare_other _ n t _ refl present)

-- a version that is known once the record is noted, where the image has it
module _ (s : FlashState) (n : IndexState) (t t' : BlocksState) (u : Unsure) (o : OpenTransactionsState)
    (notes : NotingKeeps n.config.protocol) (i at : ℕ) (rec : Rec)
    (k : BlocksInvariant s n t u o) (within : i < length o.all)
    (h : IsNextOf n.config.protocol n at rec s.image (transaction_at o i)) (calm : CalmBeside o.all i)
    (doubt : is_doubted (transaction_at o i).entry.mark
    ≡ ((transaction_at o i).entry.done + 1 == length (transaction_at o i).entry.writes))
    (m' : Matches s (programmed n at rec) t' unsure.Nothing)
    (current : (page : ℕ) → current_in n.config.protocol n.config.logical s.image page
    ≡ current_of (programmed n at rec) page) where
  abbrev its : TransactionState
  its = transaction_at o i

  abbrev now : IndexState
  now = programmed n at rec

  abbrev before : ArrayState
  before = machine_in n s.image o.all

  own_some : 0 < length its.naming.names
  own_some = let long = as_many_names its.naming.names its.entry.writes h.named.pages in
      let w = h.named.within in omega arith

  is_moved_last : its.entry.done + 1 ≡ length its.entry.writes → any_moved n s.image o.all ≡ true
  is_moved_last last =
      moved_one n s.image o.all i within (doubt ∙ eq-eqb (its.entry.done + 1) (length its.entry.writes) last)
      (are_moved n s.image its.naming.names own_some (λ j d inside same.
      let up = last_rises n.config.protocol notes n at rec s.image s.image its h last j d inside in
      let is = last_current n.config.protocol notes n at rec s.image s.image its h last j d inside in
      let both : current_of n (get_or its.naming.names j d).page ≡ (get_or its.naming.names j d).version = sym same
      ∙ current (get_or its.naming.names j d).page
      ∙ is in
      absurd (omega arith)))

  calm_more : its.entry.done + 1 ≢ length its.entry.writes → (j : ℕ) → j < length o.all →
      IsCalm (get_or o.all j no_transaction).entry
  calm_more more j inside = elim (cases_eq j i) [
    | inl same ↦ subst (λ (x : TransactionState). IsCalm x.entry) (ap (λ a. get_or o.all a no_transaction) (sym same))
        (doubt ∙ ne_eqb (its.entry.done + 1) (length its.entry.writes) more)
    | inr other ↦ calm j inside other
  ]

  next_entry_more : its.entry.done + 1 ≢ length its.entry.writes → (with_next its).entry ≡ its.entry
  next_entry_more more =
      ap (λ (x : TransactionState). x.entry)
      (cond-false (its.naming.noted_count + 1 == length its.entry.writes)
      (with_mark (with_noted_count its (its.naming.noted_count + 1)) Whole)
      (with_noted_count its (its.naming.noted_count + 1))
      (ne_eqb (its.naming.noted_count + 1) (length its.entry.writes) (λ e. more (ap (λ a. a + 1) (sym h.due) ∙ e))))

  next_entry_last : its.entry.done + 1 ≡ length its.entry.writes →
      (with_next its).entry ≡ record its.entry { mark = Whole }
  next_entry_last last =
      ap (λ (x : TransactionState). x.entry)
      (cond-true (its.naming.noted_count + 1 == length its.entry.writes)
      (with_mark (with_noted_count its (its.naming.noted_count + 1)) Whole)
      (with_noted_count its (its.naming.noted_count + 1))
      (eq-eqb (its.naming.noted_count + 1) (length its.entry.writes) (ap (λ a. a + 1) h.due ∙ last)))

  doubted_last : its.entry.done + 1 ≡ length its.entry.writes → doubted (entries_in o.all) ≡ its.entry.writes
  doubted_last last = doubted_at o.all i within calm (doubt
      ∙ eq-eqb (its.entry.done + 1) (length its.entry.writes) last)

  mark_doubt : its.entry.done + 1 ≡ length its.entry.writes → its.entry.mark ≡ Doubt
  mark_doubt last = doubt_is its.entry.mark (doubt ∙ eq-eqb (its.entry.done + 1) (length its.entry.writes) last)

  own_stay : KeepsNoted n s.image s.image
  own_stay name there = refl

  pub found_settled : IsSettledAs s n now t' o (with_transaction o i (with_next its))
  found_settled = record {
    kept = next_kept n.config.protocol notes s s n t t' u o i at rec k within k.each calm h m';
    machine = elim (cases_eq (its.entry.done + 1) (length its.entry.writes)) [
      | inl last ↦ settled_there (any_moved n s.image o.all) (array_known n s.image) (array_known now s.image)
          (entries_in o.all)
          (entries_in (slice_set o.all i (with_next its)))
          (is_moved_last last)
          (last_array n.config.protocol notes n at rec s.image s.image its h last
          ∙ ap (put (array_known n s.image)) (sym (doubted_last last)))
          (settled_at true o.all i (with_next its) within calm
          (next_entry_last last ∙ ap (λ m. record its.entry { mark = settled_mark true m }) (sym (mark_doubt last))))
      | inr more ↦ settled_gone (any_moved n s.image o.all) (array_known n s.image) (array_known now s.image)
          (entries_in o.all)
          (entries_in (slice_set o.all i (with_next its)))
          (moved_calm n s.image o.all (calm_more more))
          (next_array n.config.protocol notes n at rec s.image s.image its h more)
          (settled_at false o.all i (with_next its) within calm (next_entry_more more
          ∙ sym (calm_entry false its.entry (calm_more more i within))))
    ];
    rises = elim (cases_eq (its.entry.done + 1) (length its.entry.writes)) [
      | inl last ↦ subst (All (λ w. current_of n w.page < current_of now w.page))
          (sym (writes_there (any_moved n s.image o.all) before its.entry.writes (is_moved_last last)
          (doubted_last last)))
          (writes_rise n.config.protocol notes n at rec s.image s.image its h last)
      | inr more ↦ none_of (λ (w : PageWrite). current_of n w.page < current_of now w.page)
          (settled_writes (any_moved n s.image o.all) before)
          (writes_gone (any_moved n s.image o.all) before (moved_calm n s.image o.all (calm_more more)))
    ];
    stays = λ page low others. elim (cases_eq (its.entry.done + 1) (length its.entry.writes)) [
      | inl last ↦ writes_stay n.config.protocol notes n at rec s.image s.image its h last page low
          (subst (All (λ (w : PageWrite). w.page ≢ page))
          (writes_there (any_moved n s.image o.all) before its.entry.writes (is_moved_last last) (doubted_last last))
          others)
      | inr more ↦ next_stays n.config.protocol notes n at rec s.image s.image its h more page low
    ];
    config = refl;
    versions = next_versions n.config.protocol notes n at rec s.image s.image its h own_stay;
    mentions = next_mentions n.config.protocol notes n at rec s.image s.image its h o.all i within refl;
    names = names_before o.all (slice_set o.all i (with_next its))
        (map-set_same (λ (x : TransactionState). x.naming.names) o.all i (with_next its) no_transaction
        (next_parts its).names);
  }

-- Nothing that is known of pages changed
module _ (s : FlashState) (n m : IndexState) (t t' : BlocksState) (u : Unsure) (o : OpenTransactionsState)
    (law : ArrayStays n.config.protocol) (k : BlocksInvariant s n t u o)
    (m' : Matches s m t' unsure.Nothing) (keep : Preserves n m)
    (current : (page : ℕ) → current_in n.config.protocol n.config.logical s.image page ≡ current_of m page) where
  same_image : KeepsArray n.config.protocol n.config.logical s.image s.image
  same_image = keeps_array_itself n.config.protocol n.config.logical s.image

  same_known : array_known m s.image ≡ array_known n s.image
  same_known = law.array s s n m t t' u unsure.Nothing k.matches m' refl keep same_image

  is_gone : any_moved n s.image o.all ≡ false
  is_gone = moved_none n s.image o.all (λ j inside. not_moved n s.image (get_or o.all j no_transaction).naming.names
      (λ a d within.
      current (get_or (get_or o.all j no_transaction).naming.names a d).page
      ∙ keep.current (get_or (get_or o.all j no_transaction).naming.names a d).page
      ((k.each j no_transaction inside).named.transaction.in_range a d within).0))

  each_now : All (IsTransaction s.image m) o.all
  each_now = each_stays s s n m t t' u unsure.Nothing o law k m' keep same_image

  left_alone : (o' : OpenTransactionsState) → BlocksInvariant s m t' unsure.Nothing o' →
      map (settled_entry false) (entries_in o.all) ≡ entries_in o'.all →
      map (λ (x : TransactionState). x.naming.names) o'.all ≡ map (λ (x : TransactionState). x.naming.names) o.all →
      IsSettledAs s n m t' o o'
  left_alone o' k' entries names = record {
    kept = k';
    machine = settled_gone (any_moved n s.image o.all) (array_known n s.image) (array_known m s.image)
        (entries_in o.all) (entries_in o'.all) is_gone same_known
        entries;
    rises = none_of (λ (w : PageWrite). current_of n w.page < current_of m w.page)
        (settled_writes (any_moved n s.image o.all) (machine_in n s.image o.all))
        (writes_gone (any_moved n s.image o.all) (machine_in n s.image o.all) is_gone);
    stays = λ page low others. keep.current page low;
    config = keep.config;
    versions = λ page low. inr (keep.current page low, ap (λ (ps : Pages). page_at ps page) same_known);
    mentions = λ page low. inl (ap (λ (ms : List ℕ). slice_index ms page) keep.mentions);
    names = names_before o.all o'.all names;
  }

  -- the one in doubt is plain
  doubt_plain : (mark : Mark) (e : Entry) (x : Naming) → is_doubted mark ≡ true → IsAsMarked s.image m e x mark →
      IsUnderWay s.image m e x
  doubt_plain Plain e x is w = w
  doubt_plain Doubt e x is w = w.0
  doubt_plain Whole e x is w = cc

  pub doubt_settled : (i : ℕ) → i < length o.all → CalmBeside o.all i →
      is_doubted (transaction_at o i).entry.mark ≡ true →
      IsSettledAs s n m t' o (with_transaction o i (with_mark (transaction_at o i) Plain))
  doubt_settled i within calm is =
      let its = transaction_at o i in
      let plain = with_mark its Plain in
      let parts : HasSameParts its plain = record { tag = refl; writes = refl; names = refl } in
      let here = each_now i no_transaction within in
      let own : IsTransaction s.image m plain = record {
        named = record {
          pages = here.named.pages;
          within = here.named.within;
          whole = here.named.whole;
          transaction = here.named.transaction;
        };
        marked = (let w = doubt_plain its.entry.mark its.entry its.naming is here.marked in
            record {
              in_progress = w.in_progress;
              least = w.least;
              most = w.most;
              short = w.short;
              noted = w.noted;
              texts = w.texts;
            });
      } in
      left_alone (with_transaction o i plain)
      (kept_with s s n m t t' u unsure.Nothing o i plain k within parts m' keep.config keep.pins
      (λ j inside other. each_now j no_transaction inside) own
      (calm_all (slice_set o.all i plain) (λ j inside. elim (cases_eq j i) [
        | inl same ↦ subst (λ (x : TransactionState). IsCalm x.entry)
            (sym (get_or-set_same o.all i plain no_transaction within)
            ∙ ap (λ a. get_or (slice_set o.all i plain) a no_transaction) (sym same)) refl
        | inr other ↦ subst (λ (x : TransactionState). IsCalm x.entry)
            (sym (get_or-set_other o.all i j plain no_transaction other))
            (calm j (subst (λ len. j < len) (length-set o.all i plain) inside) other)
      ])))
      (settled_at false o.all i plain within calm (ap (λ q. record its.entry { mark = settled_mark false q })
      (sym (doubt_is its.entry.mark is))))
      (map-set_same (λ (x : TransactionState). x.naming.names) o.all i plain no_transaction refl)

  pub calm_settled : ((j : ℕ) → j < length o.all → IsCalm (get_or o.all j no_transaction).entry) →
      IsSettledAs s n m t' o o
  calm_settled calm =
      left_alone o (record {
        matches = m';
        each = each_now;
        doubt = calm_all o.all calm;
        tags = k.tags;
        apart = k.apart;
        few = subst (λ (c : _). pending_pages (entries_of o) ≤ c.pending) (sym keep.config) k.few;
        pinned = λ name. subst (λ pins. Contains (pinned_names pins) name
            ↔ Any (λ x. Contains x.naming.names name) o.all) (sym keep.pins) (k.pinned name);
      })
      (settled_calm false (entries_in o.all) (calm_all o.all calm)) refl

-- which transaction is in doubt
pub doubted_beside : (image : List Contents) (n : IndexState) (o : OpenTransactionsState) (u : Unsure) →
    DoubtsAs image n (entries_of o) (namings_of o) u → (i : ℕ) →
    i < length o.all →
    is_doubted (transaction_at o i).entry.mark ≡ true → CalmBeside o.all i
doubted_beside image n o (unsure.Own at rec) own i within is = elim (cases_eq i own.place) [
  | inl same ↦ λ j inside other. own.others j (transaction_at o j).entry (λ e. other (e ∙ sym same))
      (slice_get_at (λ (x : TransactionState). x.entry) o.all j no_transaction inside)
  | inr other ↦ absurd
      (both_ways (is_doubted (transaction_at o i).entry.mark)
      (own.others i (transaction_at o i).entry other (slice_get_at (λ (x : TransactionState). x.entry) o.all i
      no_transaction within)) is)
]
doubted_beside image n o unsure.Nothing doubt i within is =
    absurd (both_ways (is_doubted (transaction_at o i).entry.mark) (calm_at o.all doubt i within) is)
doubted_beside image n o (unsure.Copy from to) doubt i within is =
    absurd (both_ways (is_doubted (transaction_at o i).entry.mark) (calm_at o.all doubt i within) is)
doubted_beside image n o unsure.SpareErase doubt i within is =
    absurd (both_ways (is_doubted (transaction_at o i).entry.mark) (calm_at o.all doubt i within) is)
doubted_beside image n o (unsure.VictimErase block) doubt i within is = absurd
    (both_ways (is_doubted (transaction_at o i).entry.mark) (calm_at o.all doubt i within) is)
