-- The known image: its notes are those of the tables, it is sound, and it stands for the array that is known.
use Rattle.collector.proofs.Common.{◌≡◌, ℕ, ◌+◌, ◌/◌, ◌<◌, true, false, not, eqb-true, List, length, Some, All, refl, sym, ap, ◌∙◌, subst, inl, inr, arith, Contains, ◌==◌, option_map_or, cases_Bool, cond-true, cond-false, not-true, same_Some, length-map, get_or-map, ext_get_or, All-contains, all_from, shape_of, slots_of, blocks_of, Protocol, Link, Rec, FlashState, Contents, blank, complete, slot_at, record_of, CanBeSpelled, cur, name_of, is_present, Pages, PagesExist, is_outside, Written, text_at, value_at, IsRemovable, dispensable_removable, Note, Blank, Damaged, Holds, written_in, records_in, array_in, IsSoundImage, found_in, note_at, note_of, notes_of, IndexState, current_of, current_name_of, pinned_names, in_it, found, records_scanned, found_in_notes, BlocksState, Unsure, is_unsure, page_known, array_known, Matches}
use Rattle.std.proofs.Common.{replicate}
use Rattle.std.specs.Prelude.{IsSomeAnd, option_and_then}
use Rattle.std.specs.List.{enumerate_from}
use Rattle.std.proofs.lemmas.List.Elements.{All-from_get_or}
use Rattle.std.proofs.lemmas.List.FromFn.{length-enumerate_from, get_or-enumerate_from}
use Rattle.list_lemmas.proofs.Ranges.{same_range}
use Rattle.page_record.specs.Spelling.{spelling}
use Rattle.page_record.proofs.Spellings.{record_of-spelling}
use Rattle.record_list.specs.SoundList.{IsSoundList}
use Rattle.record_list.specs.Written.{found_of, value_of, page_at, BytesAgree}
use Rattle.record_list.proofs.OfChanges.Arrays.{text_named, text_present}
use Rattle.record_list.specs.Verdict.{record_named}
use Rattle.record_list.proofs.OfFacts.SoundNames.{sound_map}
use Rattle.record_list.proofs.OfChanges.WrittenLists.{in_records, same_text, IsOneText, one_text}
use Rattle.judged_records.specs.Images.{SlotReads}
use Rattle.judged_records.proofs.OfNotes.FoundIn.{noted_in}
use Rattle.judged_records.proofs.OfLaws.ImageScans.{is_read, written, read_slot}
use Rattle.judged_records.proofs.OfNotes.NotedFacts.{noted_present}
use Rattle.collector.specs.declared.unsure.Unsure.TheVariants as unsure
use Rattle.collector.specs.Known.{contents_noted, contents_known, known_image}
use Rattle.collector.proofs.OfImages.KeptArrays.{none_at_zero}
use Rattle.collector.proofs.OfImages.WantedImages.{IsNotedAndWritten, current_written}
use Rattle.record_list.specs.Counts.{HasCounts}

-- the bytes that a list has under a name, zeros where it has none
abbrev bytes_or_zeros : ℕ → List Written → Link → List ℕ
bytes_or_zeros page_bytes list name = option_map_or (λ text. text.bytes) (text_at list name) (replicate page_bytes 0)

-- each noted record of the unsure place can be spelled
abbrev pub UnsureIsSpelled : FlashState → IndexState → BlocksState → Unsure → Type 0
UnsureIsSpelled s n t u = (slot : ℕ) → slot < slots_of s.shape → is_unsure s.shape t.spare u slot ≡ true → (rec : Rec) →
    note_at n.notes slot ≡ Holds rec →
    CanBeSpelled n.config.protocol rec

-- the contents of which this is noted are noted so
noted_back : (p : Protocol) (page_bytes : ℕ) (list : List Written) (note : Note) →
    ((rec : Rec) → note ≡ Holds rec → CanBeSpelled p rec) →
    note_of p (contents_noted p page_bytes list note) ≡ note
noted_back p page_bytes list Blank spelled = refl
noted_back p page_bytes list Damaged spelled = refl
noted_back p page_bytes list (Holds rec) spelled = ap (λ o. option_map_or Holds o Damaged)
    (record_of-spelling p rec (spelled rec refl))

-- and they read
noted_read : (p : Protocol) (page_bytes logical : ℕ) (list : List Written) (note : Note) →
    ((rec : Rec) → note ≡ Holds rec → CanBeSpelled p rec) →
    ((rec : Rec) → note ≡ Holds rec → (rec.page < logical) × (rec.next.page < logical)) →
    SlotReads p logical (contents_noted p page_bytes list note)
noted_read p page_bytes logical list Blank spelled pages = tt
noted_read p page_bytes logical list Damaged spelled pages = tt
noted_read p page_bytes logical list (Holds rec) spelled pages =
    subst (λ o. IsSomeAnd o (λ r. (r.page < logical) × (r.next.page < logical)))
    (sym (record_of-spelling p rec (spelled rec refl))) (pages rec refl)

-- a record in them has the bytes of its name
noted_bytes : (p : Protocol) (page_bytes : ℕ) (list : List Written) (note : Note) →
    ((rec : Rec) → note ≡ Holds rec → CanBeSpelled p rec) →
    (bytes spare : List ℕ) (rec : Rec) → contents_noted p page_bytes list note ≡ complete bytes spare →
    record_of p spare ≡ Some rec →
    bytes ≡ bytes_or_zeros page_bytes list (name_of rec)
noted_bytes p page_bytes list Blank spelled bytes spare rec is reads = cc
noted_bytes p page_bytes list Damaged spelled bytes spare rec is reads = cc
noted_bytes p page_bytes list (Holds own) spelled bytes spare rec is reads =
    let same_bytes : bytes_or_zeros page_bytes list (name_of own) ≡ bytes = cc in
    let same_spare : spelling p own ≡ spare = cc in
    let same : own ≡ rec = same_Some own rec (sym (record_of-spelling p own (spelled own refl))
    ∙ ap (record_of p) same_spare ∙ reads) in
    sym same_bytes ∙ ap (λ r. bytes_or_zeros page_bytes list (name_of r)) same

module _ (s : FlashState) (n : IndexState) (t : BlocksState) (u : Unsure) (m : Matches s n t u)
    (spelled : UnsureIsSpelled s n t u) where
  abbrev p : Protocol
  p = n.config.protocol

  abbrev known : List Contents
  known = known_image n t.spare u s.image

  abbrev old : List Written
  old = written_in n.config.protocol s.image

  abbrev new : List Written
  new = written_in n.config.protocol (known_image n t.spare u s.image)

  length_known : length known ≡ length s.image
  unfolding known_image
  length_known =
      length-map (enumerate_from 0 s.image) (λ x. contents_known n t.spare u s.image x.0 x.1)
      ∙ length-enumerate_from 0 s.image

  known_at : (slot : ℕ) → slot < length s.image → slot_at known slot ≡ contents_known n t.spare u s.image slot
      (slot_at s.image slot)
  unfolding known_image
  known_at slot within =
      let long : slot < length (enumerate_from 0 s.image) = omega (arith, length-enumerate_from 0 s.image) in
      get_or-map (λ x. contents_known n t.spare u s.image x.0 x.1) (enumerate_from 0 s.image) slot (0, blank) blank long
      ∙ ap (λ (x : ℕ × Contents). contents_known n t.spare u s.image x.0 x.1)
      (get_or-enumerate_from 0 s.image slot (0, blank) within)
      ∙ ap (λ k. contents_known n t.spare u s.image k (slot_at s.image slot))
      (let same : 0 + slot ≡ slot = omega arith in same)

  -- what holds of a slot as it reads and as it is noted holds of it as it is known
  by_slot : (P : Contents → Type 0) (slot : ℕ) → slot < slots_of s.shape →
      (is_unsure s.shape t.spare u slot ≡ false → P (slot_at s.image slot)) →
      (is_unsure s.shape t.spare u slot ≡ true →
      P (contents_noted n.config.protocol n.config.page_bytes old (note_at n.notes slot))) →
      P (slot_at known slot)
  by_slot P slot within sure unsure =
      let same : is_unsure (shape_of n.config) t.spare u slot ≡ is_unsure s.shape t.spare u slot =
      ap (λ sh. is_unsure sh t.spare u slot) (sym m.shape) in
      let noted = contents_noted n.config.protocol n.config.page_bytes old (note_at n.notes slot) in
      subst P (sym (known_at slot (omega (arith, m.flash.slots))))
      (elim (cases_Bool (is_unsure s.shape t.spare u slot)) [
        | inl un ↦ subst P (sym (cond-true (is_unsure (shape_of n.config) t.spare u slot) noted (slot_at s.image slot)
            (same ∙ un))) (unsure un)
        | inr sr ↦ subst P (sym (cond-false (is_unsure (shape_of n.config) t.spare u slot) noted (slot_at s.image slot)
            (same ∙ sr))) (sure sr)
      ])

  as_noted : (slot : ℕ) → slot < slots_of s.shape → note_of p (slot_at known slot) ≡ note_at n.notes slot
  as_noted slot within =
      by_slot (λ contents. note_of p contents ≡ note_at n.notes slot) slot within
      (λ sure. sym (m.sure slot within sure))
      (λ un. noted_back p n.config.page_bytes old (note_at n.notes slot) (spelled slot within un))

  -- its notes are those of the tables
  pub known_notes : notes_of p known ≡ n.notes
  known_notes =
      let long = length-map known (note_of p) ∙ length_known in
      ext_get_or Blank (notes_of p known) n.notes (long ∙ m.flash.slots ∙ ap slots_of m.shape ∙ sym m.noted.slots)
      (λ slot within.
      let low : slot < length known = omega (arith, length-map known (note_of p)) in
      get_or-map (note_of p) known slot blank Blank low ∙ as_noted slot (omega (arith, length_known, m.flash.slots)))

  -- so are its records
  known_records : records_in p known ≡ found_in n.notes
  known_records = sym (found_in_notes p known) ∙ ap found_in known_notes

  pages : (slot : ℕ) (rec : Rec) → note_at n.notes slot ≡ Holds rec → slot < slots_of s.shape →
      (rec.page < n.config.logical) × (rec.next.page < n.config.logical)
  pages slot rec holds within =
      All-contains (PagesExist n.config.logical) (found_in n.notes) (found slot rec) (m.noted.sound Pages)
      (noted_in n.notes slot rec (omega (arith, m.noted.slots, ap slots_of m.shape)) holds)

  known_reads : (slot : ℕ) → slot < length known → SlotReads p n.config.logical (slot_at known slot)
  known_reads slot within =
      let low : slot < slots_of s.shape = omega (arith, length_known, m.flash.slots) in
      by_slot (SlotReads p n.config.logical) slot low (λ sure. m.sound.reads slot blank (omega (arith, length_known)))
      (λ un. noted_read p n.config.page_bytes n.config.logical old (note_at n.notes slot) (spelled slot low un)
      (λ rec holds. pages slot rec holds low))

  one : IsOneText old
  one = one_text p old n.config.logical m.sound.written.records (records_scanned p s.image) m.sound.written.bytes

  old_bytes : (w : Written) → Contains old w → w.bytes ≡ bytes_or_zeros n.config.page_bytes old (name_of w.rec)
  old_bytes w i = sym (ap (λ o. option_map_or (λ text. text.bytes) o (replicate n.config.page_bytes 0))
      (text_named old w one i))

  -- a record of it has the bytes of its name
  known_bytes : (w : Written) → Contains new w → w.bytes ≡ bytes_or_zeros n.config.page_bytes old (name_of w.rec)
  known_bytes w i =
      let r = is_read p known w i in
      let within : w.slot.0 < slots_of s.shape = (let low = r.within in omega (arith, length_known, m.flash.slots)) in
      r.reads.page
      ∙ by_slot (λ contents. contents ≡ complete r.reads.bytes r.reads.spare →
      r.reads.bytes ≡ bytes_or_zeros n.config.page_bytes old (name_of w.rec)) w.slot.0 within
      (λ sure is. old_bytes (written w.slot.0 w.rec r.reads.bytes)
      (read_slot p s.image w.slot.0 r.reads.bytes r.reads.spare w.rec (omega (arith, m.flash.slots)) is r.reads.spells))
      (λ un is. noted_bytes p n.config.page_bytes old (note_at n.notes w.slot.0) (spelled w.slot.0 within un)
      r.reads.bytes r.reads.spare w.rec is
      r.reads.spells)
      r.reads.is

  known_agree : All (BytesAgree new) new
  known_agree = all_from (BytesAgree new) new (λ w i. all_from (λ v. v.slot.0 < w.slot.0 →
      name_of v.rec ≡ name_of w.rec → v.bytes ≡ w.bytes) new
      (λ v j lt same.
      known_bytes v j ∙ ap (bytes_or_zeros n.config.page_bytes old) same ∙ sym (known_bytes w i)))

  removable : IsRemovable p (records_in p known) n.config.logical s.shape t.spare
  removable =
      subst (λ sh. IsRemovable p (records_in p known) n.config.logical sh t.spare) (sym m.shape)
      (subst (λ l. IsRemovable p l n.config.logical (shape_of n.config) t.spare) (sym known_records)
      (dispensable_removable p (found_in n.notes) n.config.logical (pinned_names n.pins) (shape_of n.config)
      t.spare m.spared))

  -- it is sound
  pub known_sound : IsSoundImage p n.config.logical s.shape known
  known_sound = record {
    reads = All-from_get_or (SlotReads p n.config.logical) known blank known_reads;
    written = record {
      records = subst (λ l. IsSoundList p l n.config.logical) (sym known_records) m.noted.sound;
      bytes = known_agree;
      counts = subst HasCounts (sym known_records) m.counts;
      removable = record {
        block = t.spare;
        exists = omega (arith, m.table.spare_within, ap blocks_of m.blocks);
        removable = removable;
      };
    };
  }

  -- a record of it that is noted too is the one of the flash
  record_known : (name : Link) (w : Written) → Contains new w → name_of w.rec ≡ name →
      (found : IsNotedAndWritten s n name) → w.rec ≡ found.written.rec
  record_known name w i named found =
      let copies = (sound_map p (found_in n.notes) n.config.logical m.noted.sound m.noted.scanned).copies in
      copies (found_of w) (subst (λ l. Contains l (found_of w)) known_records (in_records new w i))
      ∙ ap (record_named (found_in n.notes)) (named ∙ sym found.named)
      ∙ sym (copies found.found found.noted) ∙ sym found.same

  -- the current record of a page has its text
  text_same : (page : ℕ) → text_at new (current_name_of n page) ≡ text_at old (current_name_of n page)
  text_same page = elim (noted_present p n m.noted page) [
    | inl none ↦ none_at_zero p known (current_name_of n page) none
        ∙ sym (none_at_zero p s.image (current_name_of n page) none)
    | inr there ↦
        (let name = current_name_of n page in
        let w = text_present new name (subst (λ l. is_present l name ≡ true) (sym known_records) there) in
        let h = current_written s n t u m page there in
        let named : name_of h.written.rec ≡ name = ap name_of h.same ∙ h.named in
        let bytes : w.0.bytes ≡ h.written.bytes =
        known_bytes w.0 w.1 ∙ ap (bytes_or_zeros n.config.page_bytes old) (w.2 ∙ sym named)
        ∙ sym (old_bytes h.written h.reads) in
        w.3 ∙ ap Some (same_text w.0 h.written (record_known name w.0 w.1 w.2 h) bytes)
        ∙ sym (text_named old h.written one h.reads) ∙ ap (text_at old) named)
  ]

  -- and it stands for the array that is known
  pub known_array : array_in p n.config.logical known ≡ array_known n s.image
  unfolding array_in array_known current_of
  known_array =
      same_range (page_at p new n.config.logical) (page_known n s.image) n.config.logical (λ page within.
      ap (λ l. value_at new (record { page = page; version = cur p l n.config.logical page })) known_records
      ∙ ap (option_and_then value_of) (text_same page))

-- a slot that is noted as blank holds no record
blank_none : (n : IndexState) (at : ℕ) → note_at n.notes at ≡ Blank → (slot : ℕ) → (slot == at) ≡ true → (rec : Rec) →
    note_at n.notes slot ≡ Holds rec →
    CanBeSpelled n.config.protocol rec
blank_none n at was slot here rec holds =
    (let k : Holds rec ≡ Blank = sym holds ∙ ap (note_at n.notes) (eqb-true slot at here) ∙ was in cc)

-- a slot of a block, by the test
in_place : (s : FlashState) (n : IndexState) (t : BlocksState) (u : Unsure) → Matches s n t u → (block slot : ℕ) →
    not (is_outside s.shape block slot) ≡ true →
    slot / n.config.pages_per_block ≡ block
in_place s n t u m block slot un =
    in_it (shape_of n.config) block slot (ap (λ sh. is_outside sh block slot) (sym m.shape)
    ∙ not-true (is_outside s.shape block slot) un)

-- the records of the unsure place can be spelled: it holds none, or is a block whose erase was broken
pub unsure_spelled : (s : FlashState) (n : IndexState) (t : BlocksState) (u : Unsure) → Matches s n t u →
    UnsureIsSpelled s n t u
unsure_spelled s n t unsure.Nothing m slot within un rec holds = cc
unsure_spelled s n t (unsure.Own at rec) m slot within un own holds = blank_none n at.0 m.place.1 slot un own holds
unsure_spelled s n t (unsure.Copy from to) m slot within un rec holds = blank_none n to.0 m.place.2 slot un rec holds
unsure_spelled s n t unsure.SpareErase m slot within un rec holds =
    m.place.1 slot (omega (arith, within, ap slots_of m.shape)) (in_place s n t unsure.SpareErase m t.spare slot un) rec
    holds
unsure_spelled s n t (unsure.VictimErase block) m slot within un rec holds =
    m.place.4 slot (omega (arith, within, ap slots_of m.shape))
    (in_place s n t (unsure.VictimErase block) m block.0 slot un) rec holds
