-- The record that a step programs last: its transaction asks for it in the image before, and the spare is left.
use Rattle.tx_engine.proofs.Common.{◌≡◌, ◌⊎◌, ℕ, ◌+◌, ◌<◌, Bool, true, false, List, [], length, All, All-nil, All-contains, Contains, Option, None, Some, refl, sym, ap, ◌∙◌, subst, inl, inr, arith, option_and_then, is_none, cases_eq, get_or_default, PageWrite, no_write, blocks_of, shape_of, Config, Protocol, Shape, Slot, Link, Rec, FlashState, Moment, moment_of, program, CanDo, spelling, Found, name_of, is_present, value_of, value_at, found_named, records_in, written_in, found_in, written, IndexState, block_to_go, BlocksState, IsFirstFree, Matches, CanTakeOwn, Entry, Plain, Naming, IsReady, IsDueAt, OpenTransactionsState, transaction_at, name_at, no_name, write_at, bytes_due, IsNamed, IsUnderWay, text_in, text_with, StoreState, DeviceState, device_in, settled_entry}
use Rattle.std.proofs.Common.{ltb-true}
use Rattle.tx_types.specs.Batch.{contents_of}
use Rattle.record_list.specs.Changes.{IsInserted, left}
use Rattle.record_list.specs.Written.{is_outside, found_of}
use Rattle.record_list.proofs.OfChanges.OneMore.{inserted_in}
use Rattle.record_list.proofs.OfFacts.Names.{present_as}
use Rattle.judged_records.specs.ImageChanges.{image_with, AsksFor}
use Rattle.collector.specs.declared.unsure.Unsure.TheVariants as unsure
use Rattle.collector.specs.SinceErase.{IsProgram, StaysSound}
use Rattle.collector.proofs.OfNotes.Calm.{same_records, image_can_lose}
use Rattle.collector.proofs.OfNotes.Keeping.{keeps_array_itself}
use Rattle.collector.proofs.OfSettle.OwnExits.{free_out}
use Rattle.tx_engine.specs.Calls.{IsRecordDue}
use Rattle.tx_engine.specs.Exits.{WorksSince}
use Rattle.tx_engine.specs.LastWrite.{SaysWrites, AsksNext, LeavesBlock, IsBlankIn, EndsProgram, WritesLast, WritesLastOf, StepWorks}
use Rattle.tx_engine.proofs.OfDevice.Arrays.{as_many_names, page_of_name}
use Rattle.tx_engine.proofs.OfDevice.ExitsThen.{since_still}
use Rattle.tx_engine.proofs.OfDevice.Kept.{BlocksInvariant}
use Rattle.tx_engine.proofs.OfSettle.NextNoted.{apart_pages}
use Rattle.tx_engine.proofs.OfStep.NextRecord.{due_named, due_under, due_inside, next_take, next_can_be_spelled}
use Rattle.tx_engine.proofs.OfWrite.Programs.{asks, added}
use Rattle.tx_engine.proofs.OfWrite.SpareBlanks.{IsErasedIn, spare_blank}
use Rattle.tx_engine.proofs.OfWrite.WriteAfter.{settled_kept}

-- what a page holds by the text of a write
of_value : (size : ℕ) (v : Option (List ℕ)) →
    value_of (record { discard = is_none v; bytes = contents_of size v }) ≡ v
of_value size None = refl
of_value size (Some bytes) = refl

value_in : (size : ℕ) (w : PageWrite) → value_of (text_in size w) ≡ w.value
value_in size w = of_value size w.value

module _ (s : FlashState) (n : IndexState) (t : BlocksState) (o : OpenTransactionsState) (i : ℕ)
    (k : BlocksInvariant s n t unsure.Nothing o) (within : i < length o.all)
    (plain : (transaction_at o i).entry.mark ≡ Plain)
    (due : (transaction_at o i).naming.noted_count ≡ (transaction_at o i).entry.done) where
  abbrev e : Entry
  e = (transaction_at o i).entry

  abbrev x : Naming
  x = (transaction_at o i).naming

  abbrev p : Protocol
  p = n.config.protocol

  named : IsNamed n.config.page_bytes n.config.logical e x
  named = due_named s n t o i k within plain due

  under : IsUnderWay s.image n e x
  under = due_under s n t o i k within plain due

  inside : e.done < length x.names
  inside = due_inside s n t o i k within plain due

  same : found_in n.notes ≡ records_in p s.image
  same = same_records s n t k.matches

  -- the write of a page, by the place of its name
  write_of : (j : ℕ) (w : PageWrite) → j < length x.names → Contains e.writes w → w.page ≡ (name_at x j).page →
      write_at e j ≡ w
  write_of j w low c its =
      let long = as_many_names x.names e.writes named.pages in
      let there : c.0 < length x.names = omega (arith, c.1, long) in
      let is : write_at e c.0 ≡ w = get_or_default e.writes c.0 no_write w c.1 ∙ c.2 in
      elim (cases_eq j c.0) [
        | inl one ↦ ap (write_at e) one ∙ is
        | inr other ↦ absurd (apart_pages x.names j c.0 named.transaction.distinct low there other
            (sym its ∙ ap (λ (v : PageWrite). v.page) (sym is)
            ∙ sym (page_of_name x.names e.writes c.0 named.pages there)))
      ]

  says : SaysWrites p s.image e x.names
  says name w c d its here =
      let is : name_at x c.0 ≡ name = get_or_default x.names c.0 no_name name c.1 ∙ c.2 in
      let noted : is_present (found_in n.notes) (name_at x c.0) ≡ true =
      ap (λ l. is_present l (name_at x c.0)) same ∙ ap (is_present (records_in p s.image)) is ∙ here in
      let few : c.0 < x.noted_count = ltb-true c.0 x.noted_count (sym (under.noted c.0 c.1) ∙ noted) in
      ap (value_at (written_in p s.image)) (sym is)
      ∙ ap (option_and_then value_of) (under.texts c.0 few)
      ∙ value_in n.config.page_bytes (write_at e c.0)
      ∙ ap (λ (v : PageWrite). v.value) (write_of c.0 w c.1 d (its ∙ ap (λ (a : Link). a.page) (sym is)))

  module _ (at : Slot) (rec : Rec) (bytes : List ℕ) (own : name_of rec ≡ name_at x e.done)
      (text : text_with rec bytes ≡ text_in n.config.page_bytes (write_at e e.done))
      (its_asks : AsksFor p n.config.logical s.shape s.image x.names at.0 rec)
      (one_more : IsInserted (records_in p s.image) (found_of (written at.0 rec bytes))
      (records_in p (image_with p s.image at.0 bytes rec))) where
    abbrev old : List Found
    old = records_in p s.image

    abbrev new : List Found
    new = records_in p (image_with p s.image at.0 bytes rec)

    says_own : (w : PageWrite) → Contains e.writes w → w.page ≡ rec.page → value_of (text_with rec bytes) ≡ w.value
    says_own w d its =
        ap value_of text ∙ value_in n.config.page_bytes (write_at e e.done)
        ∙ ap (λ (v : PageWrite). v.value) (write_of e.done w inside d (its ∙ ap (λ (a : Link). a.page) own))

    last : All (λ name. is_present new name ≡ true) x.names → e.done + 1 ≡ length e.writes
    last every = elim (cases_eq (e.done + 1) (length e.writes)) [
      | inl is ↦ is
      | inr other ↦ (
          let long = as_many_names x.names e.writes named.pages in
          let low = named.within in
          let more : e.done + 1 < length x.names = omega (arith, long, low, other) in
          let f = found_named new (name_at x (e.done + 1)) (every (e.done + 1) no_name more) in
          elim (inserted_in old new (found_of (written at.0 rec bytes)) one_more f.0 f.1) [
            | inl is ↦ (
                let one : name_of rec ≡ name_at x (e.done + 1) = ap (λ (g : Found). name_of g.rec) is ∙ f.2 in
                absurd (apart_pages x.names (e.done + 1) e.done named.transaction.distinct more inside
                (λ eq. omega (arith, eq)) (ap (λ (a : Link). a.page) (sym one ∙ own))))
            | inr was ↦ (
                let here : is_present (found_in n.notes) (name_at x (e.done + 1)) ≡ true =
                ap (λ l. is_present l (name_at x (e.done + 1))) same
                ∙ present_as old f.0 (name_at x (e.done + 1)) was f.2 in
                let few : e.done + 1 < x.noted_count =
                ltb-true (e.done + 1) x.noted_count (sym (under.noted (e.done + 1) more) ∙ here) in
                absurd (omega (arith, few, due)))
          ])
    ]

    pub asks_next : AsksNext p n.config.logical s.shape s.image e x.names at.0 bytes rec
    asks_next = record {
      asks = its_asks;
      pages = named.pages;
      says = says;
      says_own = says_own;
      last = last;
    }

-- the spare is left
leaves : (s : FlashState) (n : IndexState) (t : BlocksState) (m : Matches s n t unsure.Nothing) (at : Slot)
    (rec : Rec) (free : IsFirstFree t at.0) (take : CanTakeOwn n t rec) →
    LeavesBlock n.config.protocol n.config.logical s.shape s.image take.next.names at.0 t.spare
leaves s n t m at rec free take = record {
  exists = omega (arith, m.table.spare_within, ap blocks_of m.blocks);
  removable = image_can_lose s n t m t.spare m.spared;
  outside = λ name i here.
      let p = n.config.protocol in
      let same = same_records s n t m in
      let outside = All-contains (λ name. is_present (found_in n.notes) name ≡ true →
      is_present (left (is_outside (shape_of n.config) t.spare) (found_in n.notes)) name ≡ true) take.next.names name
      take.outside i (ap (λ l. is_present l name) same ∙ here) in
      subst (λ l. is_present (left (is_outside s.shape t.spare) l) name ≡ true) same
      (subst (λ (sh : Shape). is_present (left (is_outside sh t.spare) (found_in n.notes)) name ≡ true)
      (sym m.shape) outside);
  slot = subst (λ (sh : Shape). is_outside sh t.spare at.0 ≡ true) (sym m.shape)
      (free_out s n t unsure.Nothing m at.0 free.free);
}

-- ---- of a settled device that has room

-- what is said of the image before the program, and of its end
pub record IsProgrammed (p : Protocol) (logical : ℕ) (shape : Shape) (before : Moment) (e : Entry) (names : List Link)
    (at : ℕ) (bytes : List ℕ) (rec : Rec) (spare : ℕ) (broken : Bool) (new : Moment) : Type 0 where
  pub next : AsksNext p logical shape before.image e names at bytes rec
  pub leaves : LeavesBlock p logical shape before.image names at spare
  pub can : CanDo shape before.image (program at bytes (spelling p rec))
  pub ends : EndsProgram shape before (program at bytes (spelling p rec)) broken new

module _ {F : Type 0} (state : F → FlashState) (p : Protocol) (S : StoreState F) (O : OpenTransactionsState) (i : ℕ)
    (ready : IsReady state p S O) (due : IsDueAt O i) (rec : Rec) (its : IsRecordDue S.noted O i rec)
    (clear : block_to_go S.noted rec.page rec.version ≡ None) (at : Slot) (free : IsFirstFree S.table at.0)
    (text : text_with rec (bytes_due O i) ≡ text_in S.noted.config.page_bytes
    (write_at (transaction_at O i).entry (transaction_at O i).entry.done)) where
  kept : BlocksInvariant (state S.flash) S.noted S.table unsure.Nothing O
  kept = settled_kept state S O ready.stands ready.sure

  abbrev take : CanTakeOwn S.noted S.table rec
  take = next_take (state S.flash) S.noted S.table O i kept due.exists due.plain due.unnoted rec its.named its.next
      its.back its.counts clear

  pub programmed : (broken : Bool) (new : Moment) →
      CanDo (state S.flash).shape (state S.flash).image
      (program at.0 (bytes_due O i) (spelling S.noted.config.protocol rec)) →
      EndsProgram (state S.flash).shape (moment_of (state S.flash))
      (program at.0 (bytes_due O i) (spelling S.noted.config.protocol rec)) broken new →
      IsProgrammed S.noted.config.protocol S.noted.config.logical (state S.flash).shape (moment_of (state S.flash))
      (transaction_at O i).entry (transaction_at O i).naming.names at.0 (bytes_due O i) rec S.table.spare broken new
  programmed broken new can ends =
      let spelled = next_can_be_spelled (state S.flash) S.noted S.table O i kept due.exists due.plain due.unnoted rec
      its.named its.next its.back its.counts clear in
      record {
        next = asks_next (state S.flash) S.noted S.table O i kept due.exists due.plain due.unnoted at rec
            (bytes_due O i) its.named text
            (asks (state S.flash) S.noted S.table kept.matches at rec free.free take spelled (bytes_due O i))
            (added (state S.flash) S.noted S.table kept.matches at rec free.free take spelled (bytes_due O i));
        leaves = leaves (state S.flash) S.noted S.table kept.matches at rec free take;
        can = can;
        ends = ends;
      }

-- after room was made
module _ {F : Type 0} (state : F → FlashState) (S S1 S2 S3 : StoreState F) (O O' : OpenTransactionsState) (e : Entry)
    (x : Naming) (at : ℕ) (bytes : List ℕ) (rec : Rec) (broken : Bool)
    (config : S2.noted.config ≡ S.noted.config) (shape : (state S2.flash).shape ≡ (state S.flash).shape)
    (spare : S3.table.spare ≡ S2.table.spare)
    (since : WorksSince state (device_in state S O) (device_in state S2 O) false)
    (made : ((S1 ≡ S) × (S2.flash ≡ S1.flash) × (S2.table.spare ≡ S1.table.spare))
    ⊎ IsErasedIn S2.noted S2.table.spare)
    (first : Matches (state S.flash) S.noted S.table unsure.Nothing)
    (matches : Matches (state S2.flash) S2.noted S2.table unsure.Nothing)
    (is : IsProgrammed S2.noted.config.protocol S2.noted.config.logical (state S2.flash).shape
    (moment_of (state S2.flash)) e x.names at bytes rec S2.table.spare broken (moment_of (state S3.flash))) where
  abbrev rule : Protocol
  rule = S.noted.config.protocol

  abbrev logical : ℕ
  logical = S.noted.config.logical

  abbrev sh : Shape
  sh = (state S.flash).shape

  its : IsProgrammed rule logical sh (moment_of (state S2.flash)) e x.names at bytes rec S3.table.spare broken
      (moment_of (state S3.flash))
  its =
      subst (λ (b : ℕ). IsProgrammed rule logical sh (moment_of (state S2.flash)) e x.names at bytes rec b broken
      (moment_of (state S3.flash))) (sym spare)
      (subst (λ (s : Shape). IsProgrammed rule logical s (moment_of (state S2.flash)) e x.names at bytes rec
      S2.table.spare broken (moment_of (state S3.flash))) shape
      (subst (λ (k : Config). IsProgrammed k.protocol k.logical (state S2.flash).shape (moment_of (state S2.flash)) e
      x.names at bytes rec S2.table.spare broken (moment_of (state S3.flash))) config is))

  none_changed : StaysSound rule logical sh (state S.flash).image (state S.flash).image
  none_changed = record { sound = first.sound; keeps = keeps_array_itself rule logical (state S.flash).image }

  -- nothing was done before
  still : moment_of (state S2.flash) ≡ moment_of (state S.flash) → S3.table.spare ≡ S.table.spare →
      WritesLastOf state (device_in state S O) (device_in state S3 O') e x broken
  still moment same = record {
    before = moment_of (state S.flash);
    works = record {
      base = moment_of (state S.flash);
      durable = inl refl;
      before = none_changed;
      programs = [];
      alone = All-nil IsProgram;
      between = moment_of (state S.flash);
      does = refl;
      stays = none_changed;
      ends = refl;
    };
    room = inl (refl, refl, same);
    at = at;
    bytes = bytes;
    rec = rec;
    next = subst (λ (m : Moment). AsksNext rule logical sh m.image e x.names at bytes rec) moment its.next;
    leaves = subst (λ (m : Moment). LeavesBlock rule logical sh m.image x.names at S3.table.spare) moment its.leaves;
    can = subst (λ (m : Moment). CanDo sh m.image (program at bytes (spelling rule rec))) moment its.can;
    ends = subst (λ (m : Moment). EndsProgram sh m (program at bytes (spelling rule rec)) broken
        (moment_of (state S3.flash))) moment its.ends;
  }

  pub writes_last : WritesLastOf state (device_in state S O) (device_in state S3 O') e x broken
  writes_last = elim made [
    | inl none ↦ still (ap (λ f. moment_of (state f)) (none.1 ∙ ap (λ (T : StoreState F). T.flash) none.0))
        (spare ∙ none.2 ∙ ap (λ (T : StoreState F). T.table.spare) none.0)
    | inr erased ↦ record {
      before = moment_of (state S2.flash);
      works = since;
      room = inr (subst (IsBlankIn sh (state S2.flash).image) (sym spare)
          (subst (λ (s : Shape). IsBlankIn s (state S2.flash).image S2.table.spare) shape
          (spare_blank (state S2.flash) S2.noted S2.table matches erased)));
      at = at;
      bytes = bytes;
      rec = rec;
      next = its.next;
      leaves = its.leaves;
      can = its.can;
      ends = its.ends;
    }
  ]

-- so of what has the same flash and the same spare
pub works_pinned : {F : Type 0} (state : F → FlashState) (old a b : DeviceState F) (e : Entry) (x : Naming) →
    b.flash ≡ a.flash → b.table ≡ a.table → StepWorks state old a e x false → StepWorks state old b e x false
works_pinned state old a b e x flash table works =
    subst (λ f. StepWorks state old (record b { flash = f }) e x false) (sym flash)
    (subst (λ (t : BlocksState). StepWorks state old (record b { flash = a.flash; table = t }) e x false) (sym table)
    works)

-- and over a device that has the same moment and tables, for an entry that writes the same
module _ {F : Type 0} (state : F → FlashState) (a b new : DeviceState F) (e : Entry) (there : Bool) (x y : Naming)
    (config : b.config ≡ a.config) (shape : (state b.flash).shape ≡ (state a.flash).shape)
    (moment : moment_of (state b.flash) ≡ moment_of (state a.flash)) (table : b.table ≡ a.table)
    (names : y.names ≡ x.names) where
  by_last : (broken : Bool) → WritesLastOf state b new (settled_entry there e) y broken →
      WritesLastOf state a new e x broken
  by_last broken w =
      subst (λ (ns : List Link). WritesLast a.config.protocol a.config.logical (state a.flash).shape
      (moment_of (state a.flash)) a.table.spare e ns broken (moment_of (state new.flash)) new.table.spare) names
      (subst (λ (t : BlocksState). WritesLast a.config.protocol a.config.logical (state a.flash).shape
      (moment_of (state a.flash)) t.spare e y.names broken (moment_of (state new.flash)) new.table.spare) table
      (subst (λ (m : Moment). WritesLast a.config.protocol a.config.logical (state a.flash).shape m b.table.spare e
      y.names broken (moment_of (state new.flash)) new.table.spare) moment
      (subst (λ (s : Shape). WritesLast a.config.protocol a.config.logical s (moment_of (state b.flash))
      b.table.spare e y.names broken (moment_of (state new.flash)) new.table.spare) shape
      (subst (λ (k : Config). WritesLast k.protocol k.logical (state b.flash).shape (moment_of (state b.flash))
      b.table.spare e y.names broken (moment_of (state new.flash)) new.table.spare) config
      (record {
        before = w.before;
        works = w.works;
        room = w.room;
        at = w.at;
        bytes = w.bytes;
        rec = w.rec;
        next = record {
          asks = w.next.asks;
          pages = w.next.pages;
          says = w.next.says;
          says_own = w.next.says_own;
          last = w.next.last;
        };
        leaves = w.leaves;
        can = w.can;
        ends = w.ends;
      })))))

  pub works_from : (broken : Bool) → StepWorks state b new (settled_entry there e) y broken →
      StepWorks state a new e x broken
  works_from false (inl none) = inl (none.0 ∙ moment, none.1 ∙ ap (λ (t : BlocksState). t.spare) table)
  works_from false (inr w) = inr (by_last false w)
  works_from true (inl works) = inl (since_still state a b new true config shape works moment)
  works_from true (inr w) = inr (by_last true w)
