-- The record of an open transaction whose program was broken, and is there: the array takes the transaction where it is
-- its last record, and else stays.
use Rattle.tx_engine.proofs.Common.{◌≡◌, ◌≢◌, ℕ, ◌+◌, ◌<◌, ◌≤◌, true, false, List, length, get_or, All, Option, None, Some, refl, sym, ap, ◌∙◌, subst, inl, inr, arith, is_none, option_and_then, cases_Bool, cases_lt, lt-ltb, le-ltb, both_ways, All-from_get_or, Contains-get_or, shape_of, slots_of, Protocol, Link, Rec, FlashState, Contents, complete, slot_at, CanBeSpelled, spelling, is_present, name_of, cur, text_at, value_at, value_of, Blank, written_in, found_in, note_at, IndexState, IsNoted, IsNextRecord, programmed, current_of, written, BlocksState, Unsure, page_known, array_known, Matches, Entry, put, Naming, IsNamed, IsUnderWay, name_at, write_at, text_in, text_with, no_name, NotingKeeps}
use Rattle.std.proofs.Common.{Any}
use Rattle.tx_types.specs.Batch.{contents_of}
use Rattle.page_record.proofs.Spellings.{record_of-spelling}
use Rattle.record_list.specs.Changes.{PartialWriteKeeps, CompletingWriteKeeps}
use Rattle.record_list.proofs.OfChanges.Arrays.{text_named}
use Rattle.record_list.proofs.OfChanges.WrittenLists.{one_text}
use Rattle.judged_records.proofs.OfLaws.ImageScans.{read_slot, records_scanned}
use Rattle.collector.proofs.OfImages.KnownArrays.{same_known}
use Rattle.tx_engine.proofs.OfDevice.Arrays.{put_by_names, as_many_names}

-- the text that a complete slot has is that of its record
pub slot_text : (s : FlashState) (n : IndexState) (t : BlocksState) (u : Unsure) → Matches s n t u →
    (at : ℕ) (bytes : List ℕ) (rec : Rec) →
    at < slots_of (shape_of n.config) →
    CanBeSpelled n.config.protocol rec → slot_at s.image at ≡ complete bytes (spelling n.config.protocol rec) →
    text_at (written_in n.config.protocol s.image) (name_of rec) ≡ Some (text_with rec bytes)
slot_text s n t u m at bytes rec within spelled is =
    let inside : at < length s.image = omega (arith, m.flash.slots, ap slots_of m.shape) in
    text_named (written_in n.config.protocol s.image) (written at rec bytes)
    (one_text n.config.protocol (written_in n.config.protocol s.image) n.config.logical m.sound.written.records
    (records_scanned n.config.protocol s.image)
    m.sound.written.bytes)
    (read_slot n.config.protocol s.image at bytes (spelling n.config.protocol rec) rec inside is
    (record_of-spelling n.config.protocol rec spelled))

-- the text of a write is of what it writes
value_in : (size : ℕ) (value : Option (List ℕ)) →
    value_of (record { discard = is_none value; bytes = contents_of size value }) ≡ value
value_in size None = refl
value_in size (Some bytes) = refl

-- a page that has its version still is known as before
pub known_page : (n n' : IndexState) (image : List Contents) (page : ℕ) → n'.config ≡ n.config →
    current_of n' page ≡ current_of n page →
    page_known n' image page ≡ page_known n image page
known_page n n' image page config same =
    ap (λ (c : _). value_at (written_in c.protocol image) (record { page = page; version = current_of n' page })) config
    ∙ ap (λ v. value_at (written_in n.config.protocol image) (record { page = page; version = v })) same

-- so is the array where all have
pub known_array : (n n' : IndexState) (image : List Contents) → n'.config ≡ n.config →
    ((page : ℕ) → page < n.config.logical → current_of n' page ≡ current_of n page) →
    array_known n' image ≡ array_known n image
known_array n n' image config same = same_known n n' image image config
    (λ page within. known_page n n' image page config (same page within))

module _ (p : Protocol) (notes : NotingKeeps p) (n : IndexState) (is_noted : IsNoted p n) (rule : n.config.protocol ≡ p)
    (at : ℕ) (rec : Rec)
    (next : IsNextRecord n rec) (within : at < slots_of (shape_of n.config)) (was : note_at n.notes at ≡ Blank)
    (image : List Contents) (e : Entry) (x : Naming) (named : IsNamed n.config.page_bytes n.config.logical e x)
    (under : IsUnderWay image n e x)
    (its : next.names ≡ x.names) (there : x.noted_count ≡ e.done) (name : name_of rec ≡ name_at x e.done) where
  abbrev pub new : IndexState
  new = programmed n at rec

  pub long : length x.names ≡ length e.writes
  long = as_many_names x.names e.writes named.pages

  -- a name of the transaction is there then up to the one that was programmed
  pub there_then : (k : ℕ) → k < length x.names → k ≤ e.done → is_present (found_in new.notes) (name_at x k) ≡ true
  there_then k inside upto = elim (cases_lt k e.done) [
    | inl less ↦
        (notes.names n at rec (name_at x k) is_noted within was).1
        (inl (under.noted k inside ∙ lt-ltb k x.noted_count (omega arith)))
    | inr last ↦
        (let here : k ≡ e.done = omega arith in
        (notes.names n at rec (name_at x k) is_noted within was).1 (inr (ap (name_at x) here ∙ sym name)))
  ]

  -- where it was not the last one, the next one is absent
  pub absent_then : e.done + 1 ≢ length e.writes → Any (λ a. is_present (found_in new.notes) a ≡ false) x.names
  absent_then more =
      let inside : e.done + 1 < length x.names = omega (arith, named.within, long) in
      let gone : is_present (found_in new.notes) (name_at x (e.done + 1)) ≡ false =
      elim (cases_Bool (is_present (found_in new.notes) (name_at x (e.done + 1)))) [
        | inr missing ↦ missing
        | inl here ↦ elim ((notes.names n at rec (name_at x (e.done + 1)) is_noted within was).0 here) [
          | inl before ↦ absurd (both_ways _ (under.noted (e.done + 1) inside
              ∙ le-ltb (e.done + 1) x.noted_count (omega arith)) before)
          | inr same ↦ absurd (named.transaction.distinct e.done (e.done + 1) no_name (omega arith) inside
              (ap (λ (a : Link). a.page) (sym (same ∙ name))))
        ]
      ] in
      let c = Contains-get_or x.names (e.done + 1) no_name inside in
      (c.0, name_at x (e.done + 1), c.1, c.2, gone)

  pub partly : e.done + 1 ≢ length e.writes → PartialWriteKeeps p (found_in n.notes) (found_in new.notes)
      n.config.logical next.names
  partly more =
      notes.partial n at rec next is_noted within was
      (subst (λ ns. Any (λ a. is_present (found_in new.notes) a ≡ false) ns) (sym its) (absent_then more))

  pub wholly : e.done + 1 ≡ length e.writes → CompletingWriteKeeps p (found_in n.notes) (found_in new.notes)
      n.config.logical next.names
  wholly last =
      notes.completing n at rec next is_noted within was
      (subst (λ ns. All (λ a. is_present (found_in new.notes) a ≡ true) ns) (sym its)
      (All-from_get_or (λ a. is_present (found_in new.notes) a ≡ true) x.names no_name
      (λ k inside. there_then k inside (omega (arith, long)))))

  -- the current versions by the protocol of the laws
  current_new : (page : ℕ) → current_of new page ≡ cur p (found_in new.notes) n.config.logical page
  unfolding current_of
  current_new page = ap (λ q. cur q (found_in new.notes) n.config.logical page) rule

  current_old : (page : ℕ) → current_of n page ≡ cur p (found_in n.notes) n.config.logical page
  unfolding current_of
  current_old page = ap (λ q. cur q (found_in n.notes) n.config.logical page) rule

  -- the array stays where the record is not the last one
  pub partly_stays : e.done + 1 ≢ length e.writes → (page : ℕ) → page < n.config.logical →
      current_of new page ≡ current_of n page
  partly_stays more page inside = current_new page ∙ (partly more).same_current page inside ∙ sym (current_old page)

  pub partly_array : e.done + 1 ≢ length e.writes → array_known new image ≡ array_known n image
  partly_array more = known_array n new image refl (partly_stays more)

  -- where it is the last one, the names of the transaction are current, and each other page keeps its version
  pub wholly_current : e.done + 1 ≡ length e.writes → All (λ a. current_of new a.page ≡ a.version) x.names
  wholly_current last =
      subst (λ ns. All (λ a. current_of new a.page ≡ a.version) ns) its
      (λ k d inside. current_new _ ∙ (wholly last).committed k d inside)

  pub wholly_rises : e.done + 1 ≡ length e.writes → All (λ a. current_of n a.page < a.version) x.names
  wholly_rises last =
      subst (λ ns. All (λ a. current_of n a.page < a.version) ns) its
      (λ k d inside. subst (λ v. v < (get_or next.names k d).version) (sym (current_old _))
      ((wholly last).rises k d inside))

  pub wholly_elsewhere : e.done + 1 ≡ length e.writes → (page : ℕ) → page < n.config.logical →
      All (λ a. a.page ≢ page) x.names →
      current_of new page ≡ current_of n page
  wholly_elsewhere last page inside others =
      current_new page ∙ (wholly last).elsewhere page inside
      (subst (λ ns. All (λ a. a.page ≢ page) ns) (sym its) others) ∙ sym (current_old page)

  -- a name that is current has in the array that is known what its text says
  known_named : (a : Link) → current_of new a.page ≡ a.version →
      page_known new image a.page ≡ value_at (written_in n.config.protocol image) a
  known_named a is = ap (λ v. value_at (written_in n.config.protocol image) (record { page = a.page; version = v })) is

  -- and the array takes its writes
  pub wholly_array : e.done + 1 ≡ length e.writes →
      text_at (written_in n.config.protocol image) (name_of rec)
      ≡ Some (text_in n.config.page_bytes (write_at e e.done)) →
      array_known new image ≡ put (array_known n image) e.writes
  unfolding array_known
  wholly_array last come =
      put_by_names x.names e.writes (page_known n image) (page_known new image) n.config.logical named.pages
      (λ k inside.
      let text : text_at (written_in n.config.protocol image) (name_at x k)
      ≡ Some (text_in n.config.page_bytes (write_at e k)) = elim (cases_lt k e.done) [
        | inl less ↦ under.texts k (omega arith)
        | inr past ↦ (let here : k ≡ e.done = omega (arith, long) in
            ap (λ j. text_at (written_in n.config.protocol image) (name_at x j)) here
            ∙ ap (text_at (written_in n.config.protocol image)) (sym name)
            ∙ come ∙ ap (λ j. Some (text_in n.config.page_bytes (write_at e j))) (sym here))
      ] in
      known_named (name_at x k) (wholly_current last k no_name inside)
      ∙ ap (option_and_then value_of) text ∙ value_in n.config.page_bytes (write_at e k).value)
      (λ page inside others. known_page n new image page refl (wholly_elsewhere last page inside others))
