-- The tables of a device that was just opened match its flash.
use Rattle.collector.proofs.Common.{◌≡◌, ◌≢◌, ◌⊎◌, ℕ, suc, ◌+◌, ◌-◌, ◌*◌, ◌/◌, ◌<◌, ◌≤◌, true, false, not, ◌||◌, eqb, eqb-true, eq-eqb, List, [], ◌∷◌, length, get_or, Contains, None, Ok, refl, sym, ap, ap₂, ◌∙◌, subst, inl, inr, arith, get_or-set_same, get_or-set_other, list_all, cases_Bool, false≢true, cond-true, cond-false, none-some, length-map, get_or-map, All-contains, all_from, in_filter, shape_of, slots_of, blocks_of, Spare, Part, Config, Shape, Link, Seen, FlashState, IsFlash, Contents, blank, damaged, complete, slot_at, Moment, Found, name_of, is_present, left, IsCurrent, is_held, is_outside, is_wanted, IsRemovable, present_as, wanted_cases, Blank, Holds, IsSoundImage, records_in, note_at, note_of, notes_of, found_in, IndexState, is_blank, IsNoted, pinned_names, inside_block, in_it, noted_from, records_scanned, found_in_notes, BlockUse, BlocksState, IsBlocksState, IsFree, HasRoom, use_of, block_state, used_of, is_shut, Matches, CanSpare}
use Rattle.std.proofs.Common.{◌↔◌, drop}
use Rattle.std.proofs.Common.{replicate}
use Rattle.std.specs.Fork.{slice_chunk}
use Rattle.std.proofs.lemmas.Nat.{div-mul-add, row_fits}
use Rattle.std.proofs.lemmas.List.{length-set, length-replicate, length-take, length-drop, get_or-take, get_or-drop, get_or-replicate}
use Rattle.std.proofs.lemmas.List.Folds.{list_all_at}
use Rattle.std.proofs.lemmas.List.FromFn.{get_or-map-range_with_len, length-map-range_with_len}
use Rattle.tx_types.specs.Config.{checked, IsConfig, IsShape}
use Rattle.tx_types.specs.declared.config.BlockState.TheVariants.{Clean, Shut}
use Rattle.tx_types.proofs.ConfigLemmas.{checked_config}
use Rattle.flash_model.specs.declared.flash.Seen.TheVariants as seen
use Rattle.flash_model.specs.Calls.{seen_of}
use Rattle.record_list.specs.Records.{mention, IsScanned}
use Rattle.record_list.specs.SoundList.{IsSoundList}
use Rattle.judged_records.specs.IndexState.{pinned_at, mention_of, is_closed, last_slot, is_shut_now, is_used_block, used_blocks}
use Rattle.judged_records.proofs.OfNotes.BaseTables.{given_from}
use Rattle.judged_records.proofs.OfChanges.Pins.{numbered_pin}
use Rattle.die_alloc.specs.BlocksState.{no_block}
use Rattle.die_alloc.proofs.Changes.{block_within}
use Rattle.die_alloc.proofs.OpeningTables.{opening_is_table}
use Rattle.flash_model.specs.Readings.{reads_blank, seen_in, seen_in_block, reads_blank_block}
use Rattle.die_alloc.specs.Opening.{used_in, use_in, opening_table}
use Rattle.judged_records.specs.Opening.{opening_noted, IsChosenFrom}
use Rattle.collector.specs.declared.unsure.Unsure.TheVariants as unsure
use Rattle.collector.specs.Laws.{OpenedTablesMatch}
use Rattle.collector.specs.Matches.{AreShut}
use Rattle.collector.proofs.OfSettle.SettledExits.{matches_still}
use Rattle.collector.proofs.OfNotes.SureCounts.{sure_counts}

-- a slot of a blank block is blank
blank_contents : (contents : Contents) → reads_blank (seen_of contents) ≡ true → contents ≡ blank
blank_contents blank e = refl
blank_contents damaged e = cc
blank_contents (complete bytes spare) e = cc

blank_slot : (shape : Shape) (image : List Contents) (block k : ℕ) → 0 < shape.pages_per_block →
    reads_blank_block shape (seen_in image) block ≡ true →
    k < length image → k / shape.pages_per_block ≡ block → slot_at image k ≡ blank
blank_slot shape image block k some e within here =
    let per = shape.pages_per_block in
    let place = inside_block per block k some here in
    let rest = drop (block * per) (seen_in image) in
    let j_low : k - block * per < per = omega (arith, place.0, place.1) in
    let back : block * per + (k - block * per) ≡ k = omega (arith, place.0) in
    let long = length-take per rest in
    let long_rest = length-drop (block * per) (seen_in image) in
    let long_all = length-map image seen_of in
    let reads : get_or (slice_chunk (seen_in image) per block) (k - block * per) seen.Blank
    ≡ seen_of (slot_at image k) =
    get_or-take per rest (k - block * per) seen.Blank j_low
    ∙ get_or-drop (block * per) (seen_in image) (k - block * per) seen.Blank
    ∙ ap (λ i. get_or (seen_in image) i seen.Blank) back ∙ get_or-map seen_of image k blank seen.Blank within in
    blank_contents (slot_at image k) (elim (cases_Bool (reads_blank (seen_of (slot_at image k)))) [
      | inl is ↦ is
      | inr other ↦ absurd
          (false≢true (sym (list_all_at reads_blank (slice_chunk (seen_in image) per block) (k - block * per) seen.Blank
          (omega (arith, j_low, long, long_rest, long_all, within, place.0)) (ap reads_blank reads ∙ other)) ∙ e))
    ])

module _ (shape : Shape) (slots : List Seen) (spare : ℕ) where
  abbrev table : BlocksState
  table = opening_table shape slots spare

  use_at : (block : ℕ) → block < blocks_of shape → use_of table block ≡ use_in shape slots spare block
  use_at block low = get_or-map-range_with_len (use_in shape slots spare) 0 (blocks_of shape) block block no_block
      low (omega arith)

  use_spare : (block : ℕ) → block ≡ spare → use_in shape slots spare block ≡ record { state = Spare; used = 0 }
  use_spare block e = cond-true (eqb block spare) _ _ (eq-eqb block spare e)

  use_clean : (block : ℕ) → eqb block spare ≡ false → reads_blank_block shape slots block ≡ true →
      use_in shape slots spare block ≡ record { state = Clean; used = 0 }
  use_clean block other e = cond-false (eqb block spare) _ _ other
      ∙ cond-true (reads_blank_block shape slots block) _ _ e

  use_shut : (block : ℕ) → eqb block spare ≡ false → reads_blank_block shape slots block ≡ false →
      use_in shape slots spare block ≡ record { state = Shut; used = used_in (seen_in_block shape slots block) }
  use_shut block other e = cond-false (eqb block spare) _ _ other
      ∙ cond-false (reads_blank_block shape slots block) _ _ e

  -- the spare, a block that is all blank, and any other one
  pub data Kind (block : ℕ) : Type 0 where
    spared : block ≡ spare → use_of table block ≡ record { state = Spare; used = 0 } → Kind block
    clean : block ≢ spare → reads_blank_block shape slots block ≡ true →
        use_of table block ≡ record { state = Clean; used = 0 } → Kind block
    shut : block ≢ spare → reads_blank_block shape slots block ≡ false → use_of table block ≡ record {
      state = Shut;
      used = used_in (seen_in_block shape slots block);
    } → Kind block

  kind_of : (block : ℕ) → block < blocks_of shape → Kind block
  kind_of block low = elim (cases_Bool (eqb block spare)) [
    | inl here ↦ (let e = eqb-true block spare here in spared e (use_at block low ∙ use_spare block e))
    | inr other ↦
        (let apart : block ≢ spare = λ e. false≢true (sym other ∙ eq-eqb block spare e) in
        elim (cases_Bool (reads_blank_block shape slots block)) [
          | inl e ↦ clean apart e (use_at block low ∙ use_clean block other e)
          | inr e ↦ shut apart e (use_at block low ∙ use_shut block other e)
        ])
  ]

  state_is : (block : ℕ) (u : BlockUse) → use_of table block ≡ u → block_state table block ≡ u.state
  state_is block u e = ap (λ (x : BlockUse). x.state) e

  -- a block with room is all blank
  has_blank : (block : ℕ) → Kind block → HasRoom table block → reads_blank_block shape slots block ≡ true
  has_blank block (spared here e) (inl c) = let no : Spare ≡ Clean = sym (state_is block _ e) ∙ c in cc
  has_blank block (spared here e) (inr p) = let no : Spare ≡ Part = sym (state_is block _ e) ∙ p in cc
  has_blank block (clean apart all_blank e) room = all_blank
  has_blank block (shut apart not_blank e) (inl c) = let no : Shut ≡ Clean = sym (state_is block _ e) ∙ c in cc
  has_blank block (shut apart not_blank e) (inr p) = let no : Shut ≡ Part = sym (state_is block _ e) ∙ p in cc

  -- a block but the spare is shut where it is not all blank
  pub shut_used : (block : ℕ) → block < blocks_of shape → block ≢ spare →
      is_shut (block_state table block) ≡ not (reads_blank_block shape slots block)
  shut_used block low apart = by (kind_of block low)
    where
      by : Kind block → is_shut (block_state table block) ≡ not (reads_blank_block shape slots block)
      by (spared here e) = absurd (apart here)
      by (clean away all_blank e) = ap is_shut (state_is block _ e) ∙ sym (ap not all_blank)
      by (shut away not_blank e) = ap is_shut (state_is block _ e) ∙ sym (ap not not_blank)

  -- a free slot lies in a blank block
  free_blank : (at : ℕ) → IsFree table at → at / shape.pages_per_block < blocks_of shape →
      reads_blank_block shape slots (at / shape.pages_per_block) ≡ true
  free_blank at free low = has_blank (at / shape.pages_per_block) (kind_of (at / shape.pages_per_block) low) free.room

-- nothing is pinned
none_pinned : (pages : ℕ) (name : Link) → Contains (pinned_names (replicate pages 0)) name → ⊥
none_pinned pages name pin =
    let h = given_from numbered_pin 0 (replicate pages 0) name pin in
    let within : h.at < pages = (let w = h.within in let long = length-replicate {A = ℕ} pages 0 in
    omega (arith, w, long)) in
    let none : pinned_at (0 + h.at) (get_or (replicate pages 0) h.at 0) ≡ None =
    ap (pinned_at (0 + h.at)) (get_or-replicate pages h.at 0 0 within) in
    none-some name (sym none ∙ h.from 0)

module _ (its : Config) (s : FlashState) (check : checked its ≡ Ok s.shape) (whole : IsFlash s)
    (sound : IsSoundImage its.protocol its.logical s.shape s.image)
    (spare : ℕ)
    (chosen : IsChosenFrom its.protocol its.logical (shape_of its) (seen_in s.image)
    (records_in its.protocol s.image) spare) where
  abbrev sh : Shape
  sh = shape_of its

  abbrev n : IndexState
  n = opening_noted its s.image spare

  abbrev t : BlocksState
  t = opening_table sh (seen_in s.image) spare

  abbrev list : List Found
  list = records_in its.protocol s.image

  known : IsConfig its × (s.shape ≡ shape_of its)
  known = checked_config its s.shape check

  spare_low : spare < blocks_of sh
  spare_low = elim chosen [ inl all_blank ↦ all_blank.exists | inr removable ↦ removable.1.exists ]

  some_pages : 0 < sh.pages_per_block
  some_pages = (let b = known.0.shape.pages_least in omega arith)

  long : length s.image ≡ slots_of sh
  long = whole.slots ∙ ap slots_of known.1

  same : found_in (notes_of its.protocol s.image) ≡ list
  same = found_in_notes its.protocol s.image

  noted_at : (slot : ℕ) → slot < length s.image → note_at (notes_of its.protocol s.image) slot
      ≡ note_of its.protocol (slot_at s.image slot)
  noted_at slot within = get_or-map (note_of its.protocol) s.image slot blank Blank within

  opening_kept : IsNoted its.protocol n
  opening_kept = record {
    check = check ∙ ap Ok known.1;
    bounds = known.0;
    rule = refl;
    slots = length-map s.image (note_of its.protocol) ∙ long;
    pages = length-replicate its.logical 0;
    mentions = length-map-range_with_len (mention list) 0 its.logical;
    spare = spare_low;
    closed = length-set (used_blocks sh (seen_in s.image)) spare false
        ∙ length-map-range_with_len (is_used_block sh (seen_in s.image)) 0 (blocks_of sh);
    scanned = subst IsScanned (sym same) (records_scanned its.protocol s.image);
    sound = subst (λ l. IsSoundList its.protocol l its.logical) (sym same) sound.written.records;
    mentioned = λ page low.
        let at : mention_of n page ≡ mention list page = get_or-map-range_with_len (mention list) 0 its.logical page
        page 0 low (omega arith) in
        let alike : mention (found_in (notes_of its.protocol s.image)) page ≡ mention list page =
        ap (λ l. mention l page) same in
        omega (arith, at, alike);
  }

  -- no record stands in a blank block
  blank_apart : reads_blank_block sh (seen_in s.image) spare ≡ true → (f : Found) → Contains (found_in n.notes) f →
      is_outside sh spare f.slot.0 ≡ true
  blank_apart all_blank f i = elim (cases_Bool (is_outside sh spare f.slot.0)) [
    | inl out ↦ out
    | inr inside ↦
        (let parts = noted_from n.notes f i in
        let within : f.slot.0 < length s.image = (let w = parts.0 in
        let l = length-map s.image (note_of its.protocol) in omega (arith, w, l)) in
        let none = blank_slot sh s.image spare f.slot.0 some_pages all_blank within (in_it sh spare f.slot.0 inside) in
        let no : Holds f.rec ≡ Blank = sym parts.1 ∙ noted_at f.slot.0 within ∙ ap (note_of its.protocol) none in
        cc)
  ]

  removable_spared : IsRemovable its.protocol list its.logical sh spare → (f : Found) → Contains (found_in n.notes) f →
      is_wanted its.protocol (found_in n.notes) its.logical (pinned_names n.pins) f.rec ≡ true →
      is_present (left (is_outside sh spare) (found_in n.notes)) (name_of f.rec) ≡ true
  removable_spared removable f i w =
      let removable' = subst (λ l. IsRemovable its.protocol l its.logical sh spare) (sym same) removable in
      let counted = All-contains
      (λ f. IsCurrent its.protocol (found_in n.notes) its.logical f.rec
      ⊎ (is_held its.protocol (found_in n.notes) its.logical f.rec ≡ true) →
      is_present (left (is_outside sh spare) (found_in n.notes)) (name_of f.rec) ≡ true) (found_in n.notes) f
      removable' i in
      elim (wanted_cases its.protocol (found_in n.notes) its.logical (pinned_names n.pins) f.rec w) [
        | inl current ↦ counted (inl current)
        | inr (inl held) ↦ counted (inr held)
        | inr (inr pin) ↦ absurd (none_pinned its.logical (name_of f.rec) pin)
      ]

  spare_spared : CanSpare n spare
  spare_spared =
      all_from (λ f. is_wanted its.protocol (found_in n.notes) its.logical (pinned_names n.pins) f.rec ≡ true →
      is_present (left (is_outside sh spare) (found_in n.notes)) (name_of f.rec) ≡ true) (found_in n.notes)
      (λ f i w. elim chosen [
        | inl all_blank ↦ present_as (left (is_outside sh spare) (found_in n.notes)) f (name_of f.rec)
            (in_filter (λ f. is_outside sh spare f.slot.0) f (found_in n.notes) i (blank_apart all_blank.holds f i))
            refl
        | inr removable ↦ removable_spared removable.1.holds f i w
      ])

  free_noted : (slot : ℕ) → IsFree t slot → note_at n.notes slot ≡ Blank
  free_noted slot free =
      let within : slot < length s.image = (let w = free.within in omega (arith, w, long)) in
      let low = block_within t (opening_is_table sh (seen_in s.image) spare known.0.shape spare_low) slot free.within in
      let all_blank = free_blank sh (seen_in s.image) spare slot free low in
      noted_at slot within ∙ ap (note_of its.protocol) (blank_slot sh s.image (slot / sh.pages_per_block) slot
      some_pages all_blank within refl)

  closed_long : length (used_blocks sh (seen_in s.image)) ≡ blocks_of sh
  closed_long = length-map-range_with_len (is_used_block sh (seen_in s.image)) 0 (blocks_of sh)

  -- the blocks that are used are closed, but the spare
  closed_is : (block : ℕ) → block < blocks_of sh → block ≢ spare →
      is_closed n block ≡ is_used_block sh (seen_in s.image) block
  closed_is block low apart =
      get_or-set_other (used_blocks sh (seen_in s.image)) spare block false false apart
      ∙ get_or-map-range_with_len (is_used_block sh (seen_in s.image)) 0 (blocks_of sh) block block false low
      (omega arith)

  last_blank : (block : ℕ) → block < blocks_of sh → reads_blank_block sh (seen_in s.image) block ≡ true →
      note_at n.notes (last_slot n block) ≡ Blank
  last_blank block low all_blank =
      let per = sh.pages_per_block in
      let row = row_fits block per (blocks_of sh) per low (omega arith) in
      let within : last_slot n block < length s.image = omega (arith, row, long, some_pages) in
      let here : last_slot n block / per ≡ block = div-mul-add block per (per - 1) (omega (arith, some_pages)) in
      noted_at (last_slot n block) within
      ∙ ap (note_of its.protocol)
      (blank_slot sh s.image block (last_slot n block) some_pages all_blank within here)

  shut_as_used : (block : ℕ) → block < blocks_of sh → block ≢ spare →
      is_shut_now n block ≡ is_shut (block_state t block)
  shut_as_used block low apart =
      let state = shut_used sh (seen_in s.image) spare block low apart in
      elim (cases_Bool (reads_blank_block sh (seen_in s.image) block)) [
        | inl all_blank ↦
            ap₂ (λ closed note. closed || not (is_blank note))
            (closed_is block low apart ∙ ap not all_blank) (last_blank block low all_blank)
            ∙ sym (state ∙ ap not all_blank)
        | inr not_blank ↦
            ap (λ closed. closed || not (is_blank (note_at n.notes (last_slot n block))))
            (closed_is block low apart ∙ ap not not_blank)
            ∙ sym (state ∙ ap not not_blank)
      ]

  opening_shut : AreShut n t
  opening_shut = record {
    spare = get_or-set_same (used_blocks sh (seen_in s.image)) spare false false (rw closed_long spare_low);
    others = λ block low apart. shut_as_used block low apart;
  }

  opening_matches : Matches s n t unsure.Nothing
  opening_matches = record {
    shape = known.1;
    flash = whole;
    sound = sound;
    noted = opening_kept;
    counts = sure_counts s n known.1 whole sound opening_kept.slots
        (λ slot low. noted_at slot (omega (arith, low, whole.slots)));
    table = opening_is_table sh (seen_in s.image) spare known.0.shape spare_low;
    blocks = sym known.1;
    spare = refl;
    sure = λ slot low nothing. noted_at slot (omega (arith, low, whole.slots));
    place = tt;
    spared = spare_spared;
    victim = tt;
    free = free_noted;
    shut = opening_shut;
  }

-- the tables of an image that is read match the flash
pub opened_match : OpenedTablesMatch
opened_match its s s' spare check whole sound chosen shape moment =
    matches_still s s' (opening_noted its s.image spare) (opening_table (shape_of its) (seen_in s.image) spare)
    unsure.Nothing
    shape (ap (λ (x : Moment). x.image) moment) (opening_matches its s check whole sound spare chosen)
