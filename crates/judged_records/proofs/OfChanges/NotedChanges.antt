-- Each change of what was noted leaves what a device can have noted.
use Rattle.judged_records.proofs.Common.{◌≡◌, ℕ, ◌+◌, ◌*◌, ◌<◌, ◌≤◌, List, length, get_or, set, zip, All, None, IsSome, refl, sym, ap, ◌∙◌, subst, inl, inr, arith, Contains, false≢true, length-map, get_or-map-range_with_len, All-contains, from_filter, Link, Rec, Protocol, shape_of, slots_of, blocks_of, block_within, Seen, Found, name_of, IsSoundList, next_names, IsWrite, PartialWriteLaw, CompletingWriteLaw, CopyLaw, LossLaw, left, is_outside, greatest_least, inserted_in, Follows, follows_of, follows_in, Note, Blank, Damaged, Holds, note_at, rec_of, seen_as, found_in, with_block_noted, IndexState, IsNoted, IsNextRecord, programmed}
use Rattle.std.proofs.Common.{◌^◌, Ok, IfSome}
use Rattle.std.proofs.lemmas.List.Elements.{All-filter}
use Rattle.std.proofs.lemmas.List.{length-set, length-replicate}
use Rattle.std.proofs.lemmas.List.FromFn.{length-map-range_with_len}
use Rattle.tx_types.specs.Config.{IsConfig, checked}
use Rattle.tx_types.specs.declared.config.Config.{Config}
use Rattle.record_list.specs.Records.{mention, mention_at, IsScanned}
use Rattle.record_list.specs.Transaction.{IsAskedAt}
use Rattle.record_list.specs.Written.{IsRemovable}
use Rattle.record_list.proofs.OfFacts.Names.{greatest_bound, cases_present}
use Rattle.record_list.proofs.OfChanges.OneMore.{inserted_all}
use Rattle.judged_records.specs.IndexState.{IsNotedFrom, is_used_block, mention_of, CanLose, damaged_at, copied}
use Rattle.judged_records.proofs.OfNotes.FoundIn.{found, found_in_programmed, found_in_damaged, found_in_block, found_in_ascending, noted_in, holds_within}
use Rattle.judged_records.proofs.OfNotes.Blocks.{length-with_item}
use Rattle.judged_records.proofs.OfChanges.Mentions.{length-raised, raised_bounds}

-- each page and link page of a name's record exists, and no version is 0
pub record IsSpelledOut (logical : ℕ) (rec : Rec) : Type 0 where
  pub page : rec.page < logical
  pub next_page : rec.next.page < logical
  pub version : 1 ≤ rec.version
  pub next_version : 1 ≤ rec.next.version

module _ (n : IndexState) (rec : Rec) (next : IsNextRecord n rec) where
  names_in : Contains next.names (name_of rec)
  names_in = next.named

  in_range : (name : Link) → Contains next.names name → (name.page < n.config.logical) × (1 ≤ name.version)
      × (name.version ≤ 2 ^ 62)
  in_range name i = All-contains (λ a. (a.page < n.config.logical) × (1 ≤ a.version) ×
      (a.version ≤ 2 ^ 62)) next.names name next.in_progress.begun.transaction.in_range i

  -- the link is the name that follows
  pub next_follows : Follows next.names (name_of rec) rec.next
  next_follows =
      let after = follows_of next.names (name_of rec) names_in in
      let asked = All-contains (IsAskedAt n.config.protocol (found_in n.notes) n.config.logical next.names rec)
      (zip next.names (next_names next.names))
      (name_of rec, after.0) next.asked after.1 in
      subst (Follows next.names (name_of rec)) (sym (asked refl).0) after.1

  pub next_spelled : IsSpelledOut n.config.logical rec
  next_spelled =
      let own = in_range (name_of rec) names_in in
      let link = in_range rec.next (follows_in next.names (name_of rec) rec.next next_follows).1 in
      record { page = own.0; next_page = link.0; version = own.1; next_version = link.1 }

-- versions that are not 0, of each record
abbrev pub HasVersions : Found → Type 0
HasVersions f = (1 ≤ f.rec.version) × (1 ≤ f.rec.next.version)

-- what stays where the notes change
pub record IsNextNoted (protocol : Protocol) (n m : IndexState) : Type 0 where
  pub config : m.config ≡ n.config
  pub slots : length m.notes ≡ length n.notes
  pub pages : length m.pins ≡ length n.pins
  pub mentions : length m.mentions ≡ length n.mentions
  pub spare : m.spare ≡ n.spare
  pub closed : length m.closed ≡ length n.closed
  pub versions : All HasVersions (found_in m.notes)
  pub sound : IsSoundList protocol (found_in m.notes) n.config.logical
  pub mentioned : (page : ℕ) → page < n.config.logical → mention (found_in m.notes) page ≤ mention_of m page

module _ (protocol : Protocol) (n : IndexState) (k : IsNoted protocol n) where
  -- the notes so changed are what a device can have noted
  next_noted : (m : IndexState) → IsNextNoted protocol n m → IsNoted protocol m
  next_noted m s = record {
    check = subst (λ c. checked c ≡ Ok (shape_of c)) (sym s.config) k.check;
    bounds = subst IsConfig (sym s.config) k.bounds;
    rule = ap (λ c. c.protocol) s.config ∙ k.rule;
    slots = s.slots ∙ k.slots ∙ ap (λ c. slots_of (shape_of c)) (sym s.config);
    pages = s.pages ∙ k.pages ∙ ap (λ c. c.logical) (sym s.config);
    mentions = s.mentions ∙ k.mentions ∙ ap (λ c. c.logical) (sym s.config);
    spare = subst (λ c. IfSome m.spare (λ block. block < blocks_of (shape_of c))) (sym s.config)
        (subst (λ o. IfSome o (λ block. block < blocks_of (shape_of n.config))) (sym s.spare) k.spare);
    closed = s.closed ∙ k.closed ∙ ap (λ c. blocks_of (shape_of c)) (sym s.config);
    scanned = record { ascending = found_in_ascending m.notes; versions = s.versions };
    sound = subst (λ c. IsSoundList protocol (found_in m.notes) c.logical) (sym s.config) s.sound;
    mentioned = subst (λ c. (page : ℕ) → page < c.logical → mention (found_in m.notes) page ≤ mention_of m page)
        (sym s.config) s.mentioned;
  }

  -- a slot that was blank and is damaged changes no record
  pub damaged_noted : (at : ℕ) → at < slots_of (shape_of n.config) → note_at n.notes at ≡ Blank →
      IsNoted protocol (damaged_at n at)
  damaged_noted at exists was =
      let within : at < length n.notes = (let slots = k.slots in omega arith) in
      let same = found_in_damaged n.notes at within was in
      next_noted (damaged_at n at) (record {
        config = refl;
        slots = length-set n.notes at Damaged;
        pages = refl;
        mentions = refl;
        spare = refl;
        closed = refl;
        versions = subst (All HasVersions) (sym same) k.scanned.versions;
        sound = subst (λ l. IsSoundList protocol l n.config.logical) (sym same) k.sound;
        mentioned = subst (λ l. (page : ℕ) → page < n.config.logical → mention l page ≤ mention_of n page)
            (sym same) k.mentioned;
      })

  -- a record that a transaction in progress asks for, as a change of the list
  pub next_write : (at : ℕ) (rec : Rec) → at < length n.notes → note_at n.notes at ≡ Blank →
      (next : IsNextRecord n rec) →
      IsWrite n.config.protocol (found_in n.notes) (found_in (set n.notes at (Holds rec))) n.config.logical next.names
      (found at rec)
  next_write at rec within was next =
      let added = found_in_programmed n.notes at rec within was in
      let spelled = next_spelled n rec next in
      let list' = found_in (set n.notes at (Holds rec)) in
      let versions = inserted_all HasVersions (found_in n.notes) list' (found at rec) added k.scanned.versions
      (spelled.version, spelled.next_version) in
      record {
        scanned = k.scanned;
        scanned' = record { ascending = found_in_ascending (set n.notes at (Holds rec)); versions = versions };
        in_progress = next.in_progress;
        added = added;
        named = next.named;
        fresh = next.fresh;
        asked = next.asked;
        clear = next.clear;
      }

  -- it is noted
  pub programmed_noted : PartialWriteLaw protocol → CompletingWriteLaw protocol → (at : ℕ) (rec : Rec) →
      at < slots_of (shape_of n.config) → note_at n.notes at ≡ Blank → IsNextRecord n rec →
      IsNoted protocol (programmed n at rec)
  programmed_noted partial completing at rec exists was next =
      let within : at < length n.notes = (let slots = k.slots in omega arith) in
      let added = found_in_programmed n.notes at rec within was in
      let spelled = next_spelled n rec next in
      let list' = found_in (set n.notes at (Holds rec)) in
      let written = next_write at rec within was next in
      let write : IsWrite protocol (found_in n.notes) list' n.config.logical next.names (found at rec) =
      subst (λ p. IsWrite p (found_in n.notes) list' n.config.logical next.names (found at rec)) k.rule written in
      next_noted (programmed n at rec) (record {
        config = refl;
        slots = length-set n.notes at (Holds rec);
        pages = refl;
        mentions = length-raised rec n.mentions;
        spare = refl;
        closed = refl;
        versions = write.scanned'.versions;
        sound = elim (cases_present list' next.names) [
          | inl absent ↦ (partial (found_in n.notes) list' n.config.logical next.names (found at rec) k.sound
              write absent).sound
          | inr present ↦ (completing (found_in n.notes) list' n.config.logical next.names (found at rec) k.sound write
              present).sound
        ];
        mentioned = λ page below.
            let pages = k.mentions in
            let own = spelled.page in
            let link = spelled.next_page in
            raised_bounds (found_in n.notes) list' (found at rec) n.mentions page added (omega arith) (omega arith)
            (k.mentioned page below);
      })

  -- a copy of a record
  pub copied_noted : CopyLaw protocol → (from to : ℕ) → IsSome (rec_of (note_at n.notes from)) →
      to < slots_of (shape_of n.config) →
      note_at n.notes to ≡ Blank → IsNoted protocol (copied n from to)
  copied_noted copy from to some exists was = of_note (note_at n.notes from) refl some
    where
      of_note : (note : Note) → note_at n.notes from ≡ note → IsSome (rec_of note) → IsNoted protocol (copied n from to)
      of_note Blank is some' = absurd (false≢true some')
      of_note Damaged is some' = absurd (false≢true some')
      of_note (Holds rec) is some' =
          let within : to < length n.notes = (let slots = k.slots in omega arith) in
          let source = noted_in n.notes from rec (holds_within n.notes from rec is) is in
          let same : set n.notes to (note_at n.notes from) ≡ set n.notes to (Holds rec) = ap (set n.notes to) is in
          let list' = found_in (set n.notes to (Holds rec)) in
          let added = found_in_programmed n.notes to rec within was in
          let own = All-contains HasVersions (found_in n.notes) (found from rec) k.scanned.versions source in
          let versions = inserted_all HasVersions (found_in n.notes) list' (found to rec) added
          k.scanned.versions own in
          let keeps = copy (found_in n.notes) list' n.config.logical (found to rec) k.sound (record {
            scanned = k.scanned;
            scanned' = record { ascending = found_in_ascending (set n.notes to (Holds rec)); versions = versions };
            added = added;
            source = (source.0, found from rec, source.1, source.2, refl);
          }) in
          subst (λ notes. IsNoted protocol (record n { notes = notes })) (sym same)
          (next_noted (record n { notes = set n.notes to (Holds rec) }) (record {
            config = refl;
            slots = length-set n.notes to (Holds rec);
            pages = refl;
            mentions = refl;
            spare = refl;
            closed = refl;
            versions = versions;
            sound = keeps.sound;
            mentioned = λ page below.
                let before = k.mentioned page below in
                greatest_least (mention_at page) list' (mention_of n page)
                (λ g i. elim (inserted_in (found_in n.notes) list' (found to rec) added g i) [
                  | inl new ↦ (
                      let equal = ap (λ h. mention_at page h.rec) new in
                      let bound = greatest_bound (mention_at page) (found_in n.notes) (found from rec) source in
                      omega arith)
                  | inr old ↦ (let bound = greatest_bound (mention_at page) (found_in n.notes) g old in omega arith)
                ]);
          }))

  -- a block whose records are gone, each current and each held one with a slot outside
  pub block_noted : LossLaw protocol → (block : ℕ) (note : Note) → rec_of note ≡ None →
      block < blocks_of (shape_of n.config) → CanLose n block →
      IsNoted protocol (record n { notes = with_block_noted (shape_of n.config) n.notes block note })
  block_noted loss block note none exists lose =
      let shape = shape_of n.config in
      let some : 0 < shape.pages_per_block = (let least = k.bounds.shape.pages_least in omega arith) in
      let fits : block * shape.pages_per_block + shape.pages_per_block ≤ length n.notes =
      (let bound = block_within shape block exists in let slots = k.slots in omega arith) in
      let rest = found_in_block shape n.notes block note some fits none in
      let keep = is_outside shape block in
      let counted = subst (λ p. IsRemovable p (found_in n.notes) n.config.logical shape block) k.rule lose in
      next_noted (record n { notes = with_block_noted shape n.notes block note }) (record {
        config = refl;
        slots = length-with_item shape some n.notes block note Blank fits;
        pages = refl;
        mentions = refl;
        spare = refl;
        closed = refl;
        versions = subst (All HasVersions) (sym rest) (All-filter (λ f. keep f.slot.0) HasVersions (found_in n.notes)
            k.scanned.versions);
        sound = subst (λ l. IsSoundList protocol l n.config.logical) (sym rest)
            (loss (found_in n.notes) n.config.logical keep k.sound k.scanned counted).sound;
        mentioned = λ page below.
            let before = k.mentioned page below in
            subst (λ l. mention l page ≤ mention_of n page) (sym rest)
            (greatest_least (mention_at page) (left keep (found_in n.notes)) (mention_of n page) (λ g i.
            let bound = greatest_bound (mention_at page) (found_in n.notes) g
            (from_filter (λ f. keep f.slot.0) g (found_in n.notes) i).0 in omega arith));
      })

-- what was noted from a scan is what a device can have noted
pub fresh_noted : (protocol : Protocol) (its : Config) (all : List Seen) (list : List Found) (n : IndexState) →
    checked its ≡ Ok (shape_of its) → IsConfig its → its.protocol ≡ protocol → length all ≡ slots_of (shape_of its) →
    IsScanned list → IsSoundList protocol list its.logical → IsNotedFrom its all list n → IsNoted protocol n
fresh_noted protocol its all list n check bounds rule slots scanned sound from = record {
  check = subst (λ c. checked c ≡ Ok (shape_of c)) (sym from.config) check;
  bounds = subst IsConfig (sym from.config) bounds;
  rule = ap (λ c. c.protocol) from.config ∙ rule;
  slots = sym (length-map n.notes seen_as) ∙ ap length from.reads ∙ slots
      ∙ ap (λ c. slots_of (shape_of c)) (sym from.config);
  pages = ap length from.pins ∙ length-replicate its.logical 0 ∙ ap (λ c. c.logical) (sym from.config);
  mentions = ap length from.mentions ∙ length-map-range_with_len (mention list) 0 its.logical
      ∙ ap (λ c. c.logical) (sym from.config);
  spare = subst (λ o. IfSome o (λ block. block < blocks_of (shape_of n.config))) (sym from.spare) tt;
  closed = ap length from.closed ∙ length-map-range_with_len (is_used_block (shape_of its) all) 0
      (blocks_of (shape_of its)) ∙ ap (λ c. blocks_of (shape_of c)) (sym from.config);
  scanned = subst IsScanned (sym from.found) scanned;
  sound = subst (λ l. IsSoundList protocol l n.config.logical) (sym from.found)
      (subst (λ c. IsSoundList protocol list c.logical) (sym from.config) sound);
  mentioned = λ page below.
      let within : page < its.logical = subst (λ c. page < c.logical) from.config below in
      let at : mention_of n page ≡ mention list page =
      ap (λ m. get_or m page 0) from.mentions ∙ get_or-map-range_with_len (mention list) 0 its.logical page page 0
      within (omega arith) in
      let same : mention (found_in n.notes) page ≡ mention list page = ap (λ l. mention l page) from.found in
      omega arith;
}
