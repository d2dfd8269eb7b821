-- A programmed record leaves tables that have what was noted.
use Rattle.version_index.proofs.Common.{◌≡◌, ◌≢◌, ℕ, suc, ◌+◌, ◌-◌, ◌*◌, ◌<◌, ◌≤◌, true, false, List, ◌∷◌, length, map, set, get_or, Contains, Some, None, refl, sym, ap, ◌∙◌, subst, inl, inr, arith, option_map_or, get_or-map, cases_eq, cases_Bool, length-set, length-map, get_or-set_same, get_or-set_other, ext_get_or, All-contains, none-some, same_Some, cases_Option, Config, Protocol, Link, Rec, shape_of, slots_of, blocks_of, name_of, is_present, newest, PagesExist, same_name, present_in, found_named, SlotUse, TablesState, IsTablesState, use_at, record_at, numbers_at, number_in, HasFree, LinksExist, newest_at, OnlyDerives, IsRoundIn, link_of, derived_of, completes, note_at, found_in, IndexState, IsNoted, AreDerived, note_in, notes_in, noted_by, numbered_of, AreHeld, AreIndexed}
use Rattle.std.proofs.Math.Nat.{mul-le-mul_right, mul_comm}
use Rattle.tx_types.specs.Config.{IsConfig}
use Rattle.record_list.specs.Changes.{PartialWriteLaw, CompletingWriteLaw}
use Rattle.record_list.specs.SoundList.{Pages}
use Rattle.record_list.proofs.OfFacts.Names.{newest_bound}
use Rattle.slot_tables.specs.declared.slots.SlotUse.TheVariants as slot
use Rattle.slot_tables.specs.TablesState.{added, IsNewest}
use Rattle.judged_records.specs.declared.note.Note.TheVariants as note
use Rattle.judged_records.specs.DerivedLaws.{IsCompleted}
use Rattle.judged_records.specs.DerivedChanges.{once_whole, IsDerivedAs}
use Rattle.judged_records.specs.IndexState.{raised, IsNextRecord, programmed}
use Rattle.judged_records.proofs.OfNotes.CurrentNames.{rested}
use Rattle.judged_records.proofs.OfNotes.FoundIn.{found}
use Rattle.judged_records.proofs.OfLaws.DerivedLaws.{open_write_law, whole_write_law}
use Rattle.judged_records.proofs.OfChanges.NotedChanges.{next_spelled, programmed_noted}
use Rattle.judged_records.proofs.OfNotes.Numbered.{added_derived, derived_as}
use Rattle.judged_records.proofs.OfChanges.PartialWrites.{next_newest, next_newly_loose}
use Rattle.judged_records.proofs.OfCommit.RoundSteps.{round_by_index}
use Rattle.judged_records.proofs.OfChanges.WholeDerived.{derived_still}
use Rattle.version_index.specs.Committing.{IsTop, Rests, MayComplete, DerivesWhole, CommitsIfComplete}
use Rattle.version_index.specs.Written.{pages_written}
use Rattle.version_index.proofs.OfProgram.FreeNumbers.{has_free}
use Rattle.version_index.proofs.OfChanges.KeptChanges.{notes_set}
use Rattle.version_index.proofs.OfTables.KeptNotes.{kept_found, kept_noted, found_number, blank_slot, length-notes}
use Rattle.version_index.proofs.OfCommit.Newest.{newest_number, no_number}
use Rattle.version_index.proofs.OfReadings.KeptReadings.{current_record}
use Rattle.version_index.proofs.OfWritten.CountedPages.{same_written}

-- there are few pages
pub few_pages : (its : Config) → IsConfig its → its.logical ≤ 65536
few_pages its bounds =
    let blocks = blocks_of (shape_of its) in
    let per = its.pages_per_block in
    let less : blocks - 1 ≤ blocks = omega arith in
    let most : (blocks - 1) * per ≤ blocks * per = mul-le-mul_right per less in
    let turned : per * blocks ≡ blocks * per = mul_comm per blocks in
    let space = bounds.space in
    let slots = bounds.shape.slots_most in
    omega arith

module _ (protocol : Protocol) (its : Config) (m : List ℕ) (k : TablesState) (i : AreIndexed protocol its m k)
    (sizes : IsTablesState k)
    (at : ℕ) (rec : Rec) (exists : at < slots_of (shape_of its)) (was : note_at (notes_in k) at ≡ note.Blank)
    (next : IsNextRecord (noted_by its m k) rec) where
  abbrev n : IndexState
  n = noted_by its m k

  within : at < length k.slots
  within = let slots = i.noted.slots in let long = length-notes k in omega arith

  pub its_free : HasFree k.records
  its_free = has_free k i.held (sizes.records ∙ sym sizes.slots) at within (blank_slot k at was)

  pub its_newest : IsNewest k.records rec
  its_newest x r is of_page =
      let f = kept_found k i.held x r is in
      let bound = newest_bound (found_in (notes_in k)) (name_of r)
      (present_in (found_in (notes_in k)) (found f.0 r) f.2) in
      let least = next_newest protocol n i.noted rec next in
      let same = ap (newest (found_in (notes_in k))) of_page in
      omega arith

  pub its_pages : (rec.page < length k.pages) × (rec.next.page < length k.pages)
  its_pages =
      let spelled = next_spelled n rec next in
      let pages = i.pages in
      let own = spelled.page in
      let link = spelled.next_page in
      (omega arith, omega arith)

  module _ (x : ℕ) (free : record_at k.records x ≡ None) (low : x < slots_of k.shape) where
    -- the tables with the record
    abbrev pub with_record : TablesState
    with_record = record (added k x rec) {
      slots = set k.slots at (slot.Holds x);
      waits = set k.waits x (Some rec.next.page);
    }

    in_records : x < length k.records
    in_records = let r = sizes.records in omega arith

    its_own : record_at with_record.records x ≡ Some rec
    its_own = get_or-set_same k.records x (Some rec) None in_records

    others : (y : ℕ) → y ≢ x → record_at with_record.records y ≡ record_at k.records y
    others y off = get_or-set_other k.records x y (Some rec) None off

    not_x : (y : ℕ) (r : Rec) → record_at k.records y ≡ Some r → y ≢ x
    not_x y r is here = none-some r (sym free ∙ ap (record_at k.records) (sym here) ∙ is)

    same_notes : map (note_in with_record.records) k.slots ≡ notes_in k
    same_notes =
        ext_get_or note.Blank (map (note_in with_record.records) k.slots) (notes_in k)
        (length-map k.slots (note_in with_record.records) ∙ sym (length-map k.slots (note_in k.records))) (λ a low'.
        get_or-map (note_in with_record.records) k.slots a slot.Blank ∙ of_use a (use_at k.slots a) refl
        ∙ sym (get_or-map (note_in k.records) k.slots a slot.Blank))
      where
        of_use : (a : ℕ) (u : SlotUse) → use_at k.slots a ≡ u → note_in with_record.records (use_at k.slots a)
            ≡ note_in k.records (use_at k.slots a)
        of_use a slot.Blank e = ap (note_in with_record.records) e ∙ sym (ap (note_in k.records) e)
        of_use a slot.Damaged e = ap (note_in with_record.records) e ∙ sym (ap (note_in k.records) e)
        of_use a (slot.Holds y) e =
            let r = i.held.held a y e in
            ap (note_in with_record.records) e
            ∙ ap (λ o. option_map_or note.Holds o note.Damaged) (others y (not_x y r.0 r.1))
            ∙ sym (ap (note_in k.records) e)

    pub programmed_is : noted_by its (raised rec m) with_record ≡ programmed n at rec
    programmed_is =
        ap (λ notes. record n { notes = notes; mentions = raised rec m })
        (notes_set (added k x rec) at (slot.Holds x)
        ∙ ap (λ notes. set notes at (note_in with_record.records (slot.Holds x))) same_notes
        ∙ ap (λ o. set (notes_in k) at (option_map_or note.Holds o note.Damaged)) its_own)

    -- as many pages are not blank: the new record has the number of no current one
    pub programmed_written : pages_written with_record ≡ pages_written k
    programmed_written = same_written k with_record refl (λ page y inside e. (
        let size = sizes.current in
        let pages = i.pages in
        let c = current_record protocol its m k i page y (omega arith) e in
        others y (not_x y c.rec c.is)))

    programmed_held : AreHeld with_record
    programmed_held = record {
      held = λ a y e. elim (cases_eq a at) [
        | inl here ↦ (
            let same = sym (get_or-set_same k.slots at (slot.Holds x) slot.Blank within)
            ∙ ap (use_at with_record.slots) (sym here) ∙ e in
            let y_is : x ≡ y = same_number x y same in
            (rec, ap (record_at with_record.records) (sym y_is) ∙ its_own))
        | inr off ↦ (
            let old = i.held.held a y (sym (get_or-set_other k.slots at a (slot.Holds x) slot.Blank off) ∙ e) in
            (old.0, others y (not_x y old.0 old.1) ∙ old.1))
      ];
      used = λ y r is. elim (cases_eq y x) [
        | inl here ↦ (at, get_or-set_same k.slots at (slot.Holds x) slot.Blank within ∙ ap slot.Holds (sym here))
        | inr off ↦ (
            let old = i.held.used y r (sym (others y off) ∙ is) in
            let elsewhere : old.0 ≢ at = λ here. (
            let other : slot.Holds y ≡ slot.Blank = sym old.1 ∙ ap (use_at k.slots) here ∙ blank_slot k at was in cc) in
            (old.0, get_or-set_other k.slots at old.0 (slot.Holds x) slot.Blank elsewhere ∙ old.1))
      ];
      once = λ y z r s is_y is_z e. elim (cases_eq y x) [
        | inl y_here ↦ elim (cases_eq z x) [
          | inl z_here ↦ y_here ∙ sym z_here
          | inr z_off ↦ absurd (newer z s z_off is_z (sym e
              ∙ ap name_of (same_Some r rec (sym is_y ∙ ap (record_at with_record.records) y_here ∙ its_own))))
        ]
        | inr y_off ↦ elim (cases_eq z x) [
          | inl z_here ↦ absurd (newer y r y_off is_y (e
              ∙ ap name_of (same_Some s rec (sym is_z ∙ ap (record_at with_record.records) z_here ∙ its_own))))
          | inr z_off ↦ i.held.once y z r s (sym (others y y_off) ∙ is_y) (sym (others z z_off) ∙ is_z) e
        ]
      ];
      unused = λ y none. (
          let off : y ≢ x = λ here. none-some rec (sym none ∙ ap (record_at with_record.records) here ∙ its_own) in
          let old = i.held.unused y (sym (others y off) ∙ none) in
          (old.0, get_or-set_other k.waits x y (Some rec.next.page) None off ∙ old.1));
    }
      where
        same_number : (x y : ℕ) → slot.Holds x ≡ slot.Holds y → x ≡ y
        same_number x y e = same_Some x y (ap number_in e)

        newer : (y : ℕ) (r : Rec) → y ≢ x → record_at with_record.records y ≡ Some r → name_of r ≡ name_of rec → ⊥
        newer y r off is e =
            let less = its_newest y r (sym (others y off) ∙ is) (ap (λ (l : Link). l.page) e) in
            let same = ap (λ (l : Link). l.version) e in
            omega arith

    programmed_derived : AreDerived (numbered_of with_record) its.logical (derived_of n)
    programmed_derived =
        let loose = next_newly_loose protocol n i.noted rec next in
        let unused = i.held.unused x free in
        let w = sizes.waits in
        added_derived (numbered_of k) (numbered_of with_record) its.logical (derived_of n) x rec i.judged loose.answerer
        loose.waits (record {
          free = free;
          own = its_own;
          others = others;
          current = refl;
          its_answerer = unused.0;
          answerers = λ y off. refl;
          its_page = get_or-set_same k.waits x (Some rec.next.page) None (omega arith);
          waits = λ y off. get_or-set_other k.waits x y (Some rec.next.page) None off;
        })

    module _ (partial : PartialWriteLaw protocol) (completing : CompletingWriteLaw protocol) where
      its_noted : IsNoted protocol (noted_by its (raised rec m) with_record)
      its_noted = subst (IsNoted protocol) (sym programmed_is)
          (programmed_noted protocol n i.noted partial completing at rec exists was next)

      pub may_complete : MayComplete protocol its (raised rec m) with_record rec
      may_complete = record { noted = its_noted; held = programmed_held; own = (x, its_own) }

      pub with_links : LinksExist with_record
      with_links y r is =
          let f = kept_found with_record programmed_held y r is in
          let pages = All-contains (PagesExist its.logical) (found_in (notes_in with_record)) (found f.0 r)
          (its_noted.sound Pages) f.2 in
          let link = pages.1 in
          let long = length-set k.pages rec.page (x ∷ numbers_at k.pages rec.page) in
          let logical = i.pages in
          omega arith

      -- where the cycle is left open
      pub open_indexed : completes (noted_by its (raised rec m) with_record) rec ≡ false →
          AreIndexed protocol its (raised rec m) with_record
      open_indexed left = record {
        noted = its_noted;
        shape = i.shape;
        pages = length-set k.pages rec.page (x ∷ numbers_at k.pages rec.page) ∙ i.pages;
        held = programmed_held;
        judged = derived_as (numbered_of with_record) (noted_by its (raised rec m) with_record) (derived_of n)
            programmed_derived
            (subst (λ v. IsDerivedAs v (derived_of n)) (sym programmed_is) (derived_still n (programmed n at rec) refl
            (open_write_law protocol partial n at rec next i.noted exists was
            (sym (ap (λ v. completes v rec) programmed_is) ∙ left)).nothing_moves))
            (kept_noted with_record programmed_held);
      }

      pub whole_is : (new : TablesState) → OnlyDerives with_record new →
          noted_by its (raised rec m) new ≡ programmed n at rec
      whole_is new judges = ap (noted_by its (raised rec m)) judges.rest ∙ programmed_is

      -- where the cycle is whole
      module _ (sizes' : IsTablesState with_record)
          (closed : completes (noted_by its (raised rec m) with_record) rec ≡ true) where
        comp : IsCompleted n (programmed n at rec) next.names rec
        comp = whole_write_law protocol completing n at rec next i.noted exists was
            (sym (ap (λ v. completes v rec) programmed_is) ∙ closed)

        top_at : (a b : Link) → is_present (found_in (programmed n at rec).notes) a ≡ true →
            newest (found_in (programmed n at rec).notes) a.page ≡ a.version →
            link_of (found_in (programmed n at rec).notes) a ≡ b →
            IsTop with_record a b
        top_at a b present top link =
            let l = found_in (notes_in with_record) in
            let same : l ≡ found_in (programmed n at rec).notes =
            ap (λ (v : IndexState). found_in v.notes) programmed_is in
            let f = found_named (found_in (programmed n at rec).notes) a present in
            let f_in = subst (λ q. Contains q f.0) (sym same) f.1 in
            let y = found_number with_record programmed_held f.0 f_in in
            elim (cases_Option (newest_at with_record a.page)) [
              | inl none ↦ absurd (no_number with_record sizes'.versions a.page none y.number f.0.rec y.is
                  (ap (λ (u : Link). u.page) f.2))
              | inr z ↦ (
                  let head = newest_number with_record programmed_held sizes'.versions a.page z.0 z.1 in
                  let version : head.rec.version ≡ a.version = sym head.top ∙ ap (λ q. newest q a.page) same ∙ top in
                  let name = same_name (name_of head.rec) a head.own_page version in
                  let z_is = programmed_held.once z.0 y.number head.rec f.0.rec head.is y.is (name ∙ sym f.2) in
                  let one = same_Some head.rec f.0.rec (sym head.is ∙ ap (record_at with_record.records) z_is ∙ y.is) in
                  let versions = All-contains (λ g. (1 ≤ g.rec.version) × (1 ≤ g.rec.next.version)) l f.0
                  its_noted.scanned.versions f_in in
                  let equal = ap (λ (u : Rec). u.version) one in
                  let least = versions.0 in
                  record {
                    number = z.0;
                    rec = head.rec;
                    newest = z.1;
                    is = head.is;
                    its_name = name;
                    positive = omega arith;
                    link = ap (λ (u : Rec). u.next) one ∙ f.3 ∙ link;
                  })
            ]

        round_in : IsRoundIn with_record (name_of rec) comp.round
        round_in =
            let by = round_by_index (programmed n at rec) next.names (name_of rec) comp.round comp.is_round in
            let whole : length comp.round ≡ suc (length comp.is_round.rest) = ap length comp.is_round.first in
            record {
              first = by.first;
              some = omega arith;
              before = by.before;
              tops = λ j low'. (let top = by.top j low' in
                  top_at (get_or comp.round j (name_of rec)) (get_or comp.round (j + 1) (name_of rec)) top.0 top.1
                  (by.link j low'));
            }

        pub whole_indexed : (new : TablesState) → OnlyDerives with_record new →
            DerivesWhole its.protocol with_record new (name_of rec) its.logical →
            AreIndexed protocol its (raised rec m) new
        whole_indexed new judges whole =
            let noted = noted_by its (raised rec m) in
            let same = ap noted judges.rest in
            let logical : its.logical ≡ length with_record.pages =
            sym (length-set k.pages rec.page (x ∷ numbers_at k.pages rec.page) ∙ i.pages) in
            let j = once_whole its.protocol comp.round (derived_of n) in
            let rests : Rests (derived_of n) = λ r low'. (let both = rested n r low' in (both.answerer, both.waits)) in
            let judged = whole its.logical (derived_of n) comp.round round_in comp.is_round.short logical rests
            programmed_derived in
            let h = programmed_held in
            let held : AreHeld new = subst AreHeld (sym judges.rest) (record {
              held = h.held;
              used = h.used;
              once = h.once;
              unused = λ y none. (
                  let old = h.unused y none in
                  let stays = judges.unused y none old.1 in
                  (stays.0 ∙ old.0, stays.1 ∙ old.1));
            }) in
            record {
              noted = subst (IsNoted protocol) (sym same) its_noted;
              shape = ap (λ (t : TablesState). t.shape) judges.rest ∙ i.shape;
              pages = ap (λ (t : TablesState). length t.pages) judges.rest ∙ sym logical;
              held = held;
              judged = derived_as (numbered_of new) (noted new) j judged
                  (subst (λ v. IsDerivedAs v j) (sym (same ∙ programmed_is)) comp.judged)
                  (kept_noted new held);
            }

      pub decided_indexed : IsTablesState with_record → (new : TablesState) → OnlyDerives with_record new →
          CommitsIfComplete its.protocol with_record new rec its.logical → AreIndexed protocol its (raised rec m) new
      decided_indexed sizes' new judges settled =
          elim (cases_Bool (completes (noted_by its (raised rec m) with_record) rec)) [
            | inl closed ↦ whole_indexed sizes' closed new judges
                (settled.whole_cycle protocol its (raised rec m) may_complete refl closed)
            | inr left ↦ subst (AreIndexed protocol its (raised rec m))
                (sym (settled.open_cycle protocol its (raised rec m) may_complete refl left))
                (open_indexed left)
          ]
