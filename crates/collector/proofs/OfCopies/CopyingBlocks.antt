-- Copying what is needed in a block to the spare, one slot after another.
use Rattle.collector.proofs.Common.{◌≡◌, ◌≢◌, ◌⊎◌, ℕ, ◌+◌, ◌-◌, ◌*◌, ◌/◌, ◌<◌, ◌≤◌, true, false, not, List, [], ◌∷◌, ◌++◌, length, set, eqb-true, eq-eqb, Ok, refl, sym, ap, ◌∙◌, subst, inl, inr, arith, ◌==◌, range_with_len, cases_Bool, cases_lt, both_ways, get_or-set_same, get_or-set_other, shape_of, slots_of, blocks_of, Config, Protocol, Shape, Slot, Rec, FlashState, blank, complete, slot_at, spare_area_of, Moment, program, moment_of, Does, block_within, CopyLaw, is_outside, Blank, Holds, note_at, rec_of, found_in, IndexState, IsNoted, needed_of, copied, in_it, inside_block, noted_from, BlocksState, Unsure, Keeps, CopiesRecord, counted_times, IsNextOfSpare, StoreParts, store_parts, copy_program, copies, copied_from, needed_slots, CopiesDone, HasUnneeded}
use Rattle.std.proofs.Common.{filter, IsSome}
use Rattle.std.proofs.Math.Nat.{mul-le-mul_right}
use Rattle.std.proofs.lemmas.Bool.{cases_order}
use Rattle.std.proofs.lemmas.List.{length_push}
use Rattle.std.proofs.lemmas.Nat.{div-mul-add}
use Rattle.list_lemmas.proofs.Ranges.{filter_passed, filter_taken, filter_most, filter_fewer}
use Rattle.flash_model.specs.Flash.{counted}
use Rattle.flash_model.specs.Calls.{page_of}
use Rattle.flash_model.proofs.MoveLemmas.{Does-append}
use Rattle.record_list.proofs.OfLosses.LossAmong.{one_each}
use Rattle.judged_records.proofs.OfNotes.NotedFacts.{noted_map}
use Rattle.collector.specs.StoreParts.{IsSure}
use Rattle.collector.specs.Collecting.{CopyDone}
use Rattle.collector.proofs.OfCopies.CopyLists.{copied_more, copies_more}
use Rattle.collector.proofs.OfCopies.Homes.{copy_needs}
use Rattle.collector.proofs.OfNotes.KeepsLemmas.{keeps_same, keeps_then}
use Rattle.flash_model.proofs.ComingLemmas.{counted_times-then}
use Rattle.collector.proofs.OfNotes.NeedFacts.{home_needed}
use Rattle.collector.proofs.OfCopies.Sparing.{HasCopy, spared_by_copies}

-- a slot lies before a block or behind it
abbrev pub Away : (start per slot : ℕ) → Type 0
Away start per slot = (slot < start) ⊎ (start + per ≤ slot)

-- the needed slots of a block before this one
abbrev pub needed_before : IndexState → (first at : ℕ) → List ℕ
needed_before n first at = filter (needed_of n) (range_with_len first (at - first))

-- What is so once the needed slots of a block before this one were copied to the spare, this many.
pub record CopiedSoFar (p : Protocol) (a : StoreParts) (n : IndexState) (s : FlashState) (t : BlocksState) (u : Unsure)
    (first start at used : ℕ) : Type 0 where
  pub keeps : Keeps p a (store_parts s n t u) false
  pub within : used ≤ at - first
  pub count : used ≡ length (needed_before a.noted first at)
  pub does : Does a.flash.shape (moment_of a.flash) (copies a.noted.config.page_bytes a.flash.image start
      (needed_before a.noted first at)) (moment_of s)
  pub noted : n ≡ copied_from a.noted start (needed_before a.noted first at)
  pub reads : s.reads ≡ counted_times used a.flash.reads
  pub needs : (slot : ℕ) → Away start a.noted.config.pages_per_block slot → needed_of n slot ≡ needed_of a.noted slot
  pub notes : (slot : ℕ) → Away start a.noted.config.pages_per_block slot →
      note_at n.notes slot ≡ note_at a.noted.notes slot
  pub image : (slot : ℕ) → Away start a.noted.config.pages_per_block slot →
      slot_at s.image slot ≡ slot_at a.flash.image slot
  pub records : (k : ℕ) → k < used → (rec : Rec) × (note_at n.notes (start + k) ≡ Holds rec)
  pub tail : (slot : ℕ) → start + used ≤ slot → slot < start + a.noted.config.pages_per_block →
      note_at n.notes slot ≡ Blank
  pub there : (slot : ℕ) → first ≤ slot → slot < at → needed_of a.noted slot ≡ true →
      (k : ℕ) × (k < used) × (note_at n.notes (start + k) ≡ note_at a.noted.notes slot)

-- the slots of one block are away from another block
pub blocks_away : (per block spare slot : ℕ) → block ≢ spare → block * per ≤ slot → slot < block * per + per →
    Away (spare * per) per slot
blocks_away per block spare slot apart low high = elim (cases_order block spare) [
  | inl same ↦ absurd (apart same)
  | inr (inl less) ↦ (let wide : (block + 1) * per ≤ spare * per = mul-le-mul_right per (omega arith) in
      inl (omega arith))
  | inr (inr more) ↦ (let wide : (spare + 1) * per ≤ block * per = mul-le-mul_right per (omega arith) in
      inr (omega arith))
]

-- a slot of a block, by its number, and one of another block
pub is_inside : (shape : Shape) (block k : ℕ) → k < shape.pages_per_block →
    is_outside shape block (block * shape.pages_per_block + k) ≡ false
is_inside shape block k low = ap not
    (eq-eqb ((block * shape.pages_per_block + k) / shape.pages_per_block) block
    (div-mul-add block shape.pages_per_block k low))

pub is_out : (shape : Shape) (block other slot : ℕ) → other ≢ block → slot / shape.pages_per_block ≡ other →
    is_outside shape block slot ≡ true
is_out shape block other slot apart at = elim (cases_Bool ((slot / shape.pages_per_block) == block)) [
  | inl e ↦ absurd (apart (sym at ∙ eqb-true (slot / shape.pages_per_block) block e))
  | inr e ↦ ap not e
]

-- nothing was copied
pub copied_none : (p : Protocol) (a : StoreParts) → IsSure p a → (first start spare : ℕ) →
    start ≡ spare * a.noted.config.pages_per_block →
    IsNextOfSpare a.noted spare (spare * a.noted.config.pages_per_block) →
    CopiedSoFar p a a.noted a.flash a.table a.unsure first start first 0
copied_none p a k first start spare is next =
    let n = a.noted in
    let s = a.flash in
    let none : first - first ≡ 0 = omega arith in
    let empty : [] ≡ needed_before n first first = ap (λ k. filter (needed_of n) (range_with_len first k)) (sym none) in
    record {
      keeps = keeps_same p a k;
      within = omega arith;
      count = ap length empty;
      does = subst (λ l. Does s.shape (moment_of s) (copies n.config.page_bytes s.image start l) (moment_of s)) empty
          refl;
      noted = ap (copied_from n start) empty;
      reads = refl;
      needs = λ slot away. refl;
      notes = λ slot away. refl;
      image = λ slot away. refl;
      records = λ k low. absurd (omega arith);
      tail = λ slot low high. next.blank_on slot (omega arith) (omega arith);
      there = λ slot low high needed. absurd (omega arith);
    }

-- one more slot of the block
module _ (p : Protocol) (a : StoreParts) (n : IndexState) (s : FlashState) (t : BlocksState) (u : Unsure)
    (first start at used block : ℕ)
    (h : CopiedSoFar p a n s t u first start at used) (low : first ≤ at)
    (block_is : first ≡ block * a.noted.config.pages_per_block)
    (spare_is : start ≡ t.spare * a.noted.config.pages_per_block)
    (high : at < first + a.noted.config.pages_per_block) (apart : block ≢ t.spare)
    (below : block < blocks_of (shape_of a.noted.config)) where
  abbrev n0 : IndexState
  n0 = a.noted

  abbrev s0 : FlashState
  s0 = a.flash

  abbrev per : ℕ
  per = n0.config.pages_per_block

  here : first + (at - first) ≡ at
  here = omega arith

  next_at : at - first + 1 ≡ at + 1 - first
  next_at = omega arith

  away : Away start per at
  away = subst (λ k. Away k per at) (sym spare_is) (blocks_away per block t.spare at apart (omega arith) (omega arith))

  same_config : n.config ≡ n0.config
  same_config = h.keeps.preserves.config

  same_per : n.config.pages_per_block ≡ per
  same_per = ap (λ (k : Config). k.pages_per_block) same_config

  -- it is not needed
  pub copied_passed : needed_of n at ≡ false → CopiedSoFar p a n s t u first start (at + 1) used
  copied_passed fail =
      let fail0 : needed_of n0 at ≡ false = sym (h.needs at away) ∙ fail in
      let same : needed_before n0 first at ≡ needed_before n0 first (at + 1) =
      sym (filter_passed (needed_of n0) first (at - first) at here fail0)
      ∙ ap (λ k. filter (needed_of n0) (range_with_len first k)) next_at in
      record {
        keeps = h.keeps;
        within = omega (arith, h.within);
        count = h.count ∙ ap length same;
        does = subst (λ l. Does s0.shape (moment_of s0) (copies n0.config.page_bytes s0.image start l) (moment_of s))
            same h.does;
        noted = h.noted ∙ ap (copied_from n0 start) same;
        reads = h.reads;
        needs = h.needs;
        notes = h.notes;
        image = h.image;
        records = h.records;
        tail = h.tail;
        there = λ slot from to needed. elim (cases_lt slot at) [
          | inl before ↦ h.there slot from before needed
          | inr not_before ↦ (let is : slot ≡ at = omega arith in
              absurd (both_ways (needed_of n0 at) fail0 (subst (λ k. needed_of n0 k ≡ true) is needed)))
        ];
      }

  at_block : at / n.config.pages_per_block ≡ block
  at_block =
      let is : at ≡ block * n.config.pages_per_block + (at - first) =
      omega (arith, block_is, ap (λ k. block * k) same_per) in
      ap (λ k. k / n.config.pages_per_block) is ∙ div-mul-add block n.config.pages_per_block (at - first)
      (omega (arith, same_per))

  -- the slot of the spare that comes next
  abbrev to : ℕ
  to = start + used

  fits : used < per
  fits = (let le = h.within in omega arith)

  spare_below : t.spare < blocks_of (shape_of n.config)
  spare_below = omega (
    arith,
    h.keeps.matches.table.spare_within,
    ap blocks_of h.keeps.matches.blocks,
    ap blocks_of h.keeps.matches.shape,
  )

  to_is : to ≡ t.spare * n.config.pages_per_block + used
  to_is = ap (λ k. k + used) spare_is ∙ ap (λ k. t.spare * k + used) (sym same_per)

  fits_now : used < n.config.pages_per_block
  fits_now = omega (arith, fits, same_per)

  pub to_within : to < slots_of (shape_of n.config)
  to_within = (let end = block_within (shape_of n.config) t.spare spare_below in omega (arith, end, to_is, fits_now))

  pub next_of_spare : IsNextOfSpare n t.spare to
  next_of_spare = record {
    within = to_within;
    in_spare = ap (λ k. k / n.config.pages_per_block) to_is
        ∙ div-mul-add t.spare n.config.pages_per_block used fits_now;
    blank_on = λ k from before. h.tail k from (subst (λ q. k < q) (ap (λ q. t.spare * q + q) same_per
        ∙ ap (λ q. q + per) (sym spare_is)) before);
  }

  pub at_within : at < slots_of (shape_of n.config)
  at_within =
      let end = block_within (shape_of n0.config) block below in
      let same : slots_of (shape_of n.config) ≡ slots_of (shape_of n0.config) =
      ap (λ c. slots_of (shape_of c)) same_config in
      omega (arith, end, same, high, block_is)

  pub to_at : to ≡ start + length (needed_before n0 first at)
  to_at = ap (λ k. start + k) h.count

  pub its_program : copy_program n.config.page_bytes s.image to at ≡ copy_program n0.config.page_bytes s0.image
      (start + length (needed_before n0 first at)) at
  its_program =
      ap (λ (k : Config). copy_program k.page_bytes s.image to at) same_config
      ∙ ap (λ c. program to (page_of n0.config.page_bytes c) (spare_area_of c)) (h.image at away)
      ∙ ap (λ k. copy_program n0.config.page_bytes s0.image k at) to_at

  -- it is needed
  module _ (needed : needed_of n at ≡ true) where
    -- and holds a record
    record Source : Type 0 where
      pub rec : Rec
      pub is : note_at n.notes at ≡ Holds rec

    source : Source
    source =
        let x = home_needed n at needed in
        record { rec = x.found.rec; is = ap (note_at n.notes) (sym x.slot) ∙ (noted_from n.notes x.found x.is_in).1 }

    pub has_record : IsSome (rec_of (note_at n.notes at))
    has_record = subst (λ note. IsSome (rec_of note)) (sym source.is) refl

    pub needed0 : needed_of n0 at ≡ true
    needed0 = sym (h.needs at away) ∙ needed

    module _ (law : CopyLaw n.config.protocol) (n' : IndexState) (s' : FlashState) (u' : Unsure)
        (from_slot to_slot : Slot) (from_is : from_slot.0 ≡ at)
        (to_is_slot : to_slot.0 ≡ to)
        (copy : CopiesRecord p (store_parts s n t u) (store_parts s' n' t u') from_slot to_slot (Ok tt)) where
      done : CopyDone n s s' at to
      done = subst (λ k. CopyDone n s s' at k) to_is_slot (subst (λ k. CopyDone n s s' k to_slot.0) from_is copy.done)

      changed : n' ≡ copied n at to
      changed = copy.noted ∙ ap (λ k. copied n k to_slot.0) from_is ∙ ap (copied n at) to_is_slot

      noted' : IsNoted n.config.protocol (copied n at to)
      noted' = subst (λ k. IsNoted k.config.protocol k) changed copy.keeps.matches.noted

      long : to < length n.notes
      long = omega (arith, to_within, h.keeps.matches.noted.slots)

      was : note_at n.notes to ≡ Blank
      was = h.tail to (omega arith) (omega (arith, fits))

      -- the slots that are away from the spare
      not_to : (slot : ℕ) → Away start per slot → to ≢ slot
      not_to slot (inl before) e = omega (arith, before, e)
      not_to slot (inr behind) e = omega (arith, behind, e, fits)

      at_out : is_outside (shape_of n.config) t.spare at ≡ true
      at_out = is_out (shape_of n.config) t.spare block at apart at_block

      to_in : is_outside (shape_of n.config) t.spare to ≡ false
      to_in = subst (λ k. is_outside (shape_of n.config) t.spare k ≡ false) (sym to_is)
          (is_inside (shape_of n.config) t.spare used fits_now)

      needs_now : (slot : ℕ) → Away start per slot → needed_of n' slot ≡ needed_of n0 slot
      needs_now slot a =
          ap (λ k. needed_of k slot) changed
          ∙ copy_needs n h.keeps.matches.noted law at to source.rec source.is
          (omega (arith, at_within, h.keeps.matches.noted.slots)) long was noted' t.spare
          h.keeps.matches.spare at_out to_in slot (not_to slot a)
          ∙ h.needs slot a

      note_other : (slot : ℕ) → to ≢ slot → note_at n'.notes slot ≡ note_at n.notes slot
      note_other slot other = ap (λ k. note_at k.notes slot) changed
          ∙ get_or-set_other n.notes to slot (note_at n.notes at) Blank (λ e. other (sym e))

      note_to : note_at n'.notes to ≡ note_at n.notes at
      note_to = ap (λ k. note_at k.notes to) changed ∙ get_or-set_same n.notes to (note_at n.notes at) Blank long

      image_now : s'.image ≡ set s.image to (complete (page_of n.config.page_bytes (slot_at s.image at))
          (spare_area_of (slot_at s.image at)))
      image_now = ap (λ (m : Moment). m.image) (done.programmed.1)

      image_other : (slot : ℕ) → to ≢ slot → slot_at s'.image slot ≡ slot_at s.image slot
      image_other slot other = ap (λ i. slot_at i slot) image_now
          ∙ get_or-set_other s.image to slot _ blank (λ e. other (sym e))

      so_far : needed_before n0 first (at + 1) ≡ needed_before n0 first at ++ at ∷ []
      so_far = ap (λ k. filter (needed_of n0) (range_with_len first k)) (sym next_at)
          ∙ filter_taken (needed_of n0) first (at - first) at here needed0

      does_now : Does s0.shape (moment_of s0) (copies n0.config.page_bytes s0.image start
          (needed_before n0 first (at + 1))) (moment_of s')
      does_now =
          subst (λ l. Does s0.shape (moment_of s0) l (moment_of s'))
          (sym (ap (copies n0.config.page_bytes s0.image start) so_far
          ∙ copies_more n0.config.page_bytes s0.image start (needed_before n0 first at) at))
          (Does-append s0.shape (moment_of s0) (moment_of s) (moment_of s')
          (copies n0.config.page_bytes s0.image start (needed_before n0 first at))
          (copy_program n0.config.page_bytes s0.image (start + length (needed_before n0 first at)) at ∷ []) h.does
          (subst (λ o. Does s0.shape (moment_of s) (o ∷ []) (moment_of s')) its_program
          (subst (λ sh. Does sh (moment_of s) (copy_program n.config.page_bytes s.image to at ∷ []) (moment_of s'))
          h.keeps.carries.shape done.programmed)))

      pub copied_taken : CopiedSoFar p a n' s' t u' first start (at + 1) (used + 1)
      copied_taken = record {
        keeps = keeps_then p a (store_parts s n t u) (store_parts s' n' t u') false h.keeps copy.keeps;
        within = omega (arith, h.within, low);
        count = ap (λ k. k + 1) h.count ∙ sym (ap length so_far ∙ length_push (needed_before n0 first at) at);
        does = does_now;
        noted = changed ∙ ap (λ k. copied n at k) to_at
            ∙ ap (λ k. copied k at (start + length (needed_before n0 first at))) h.noted
            ∙ sym (ap (copied_from n0 start) so_far ∙ copied_more n0 start (needed_before n0 first at) at);
        reads = done.reads ∙ ap counted h.reads ∙ counted_times-then used 1 s0.reads;
        needs = needs_now;
        notes = λ slot a. note_other slot (not_to slot a) ∙ h.notes slot a;
        image = λ slot a. image_other slot (not_to slot a) ∙ h.image slot a;
        records = λ k lt. elim (cases_lt k used) [
          | inl before ↦ (let r = h.records k before in
              (r.0, note_other (start + k) (λ e. omega (arith, e, before)) ∙ r.1))
          | inr last ↦ (let is : start + k ≡ to = omega arith in
              (source.rec, ap (note_at n'.notes) is ∙ note_to ∙ source.is))
        ];
        tail = λ slot from before. note_other slot (λ e. omega (arith, e, from)) ∙ h.tail slot (omega arith) before;
        there = λ slot from before wanted. elim (cases_lt slot at) [
          | inl earlier ↦ (let c = h.there slot from earlier wanted in
              (c.0, omega (arith, c.1), note_other (start + c.0) (λ e. omega (arith, e, c.1)) ∙ c.2))
          | inr last ↦ (let is : slot ≡ at = omega arith in
              (used, omega arith, note_to ∙ h.notes at away ∙ ap (note_at n0.notes) (sym is)))
        ];
      }

-- all was copied
module _ (p : Protocol) (a : StoreParts) (n : IndexState) (s : FlashState) (t : BlocksState) (u : Unsure)
    (first start at used block : ℕ)
    (h : CopiedSoFar p a n s t u first start at used)
    (block_is : first ≡ block * a.noted.config.pages_per_block)
    (spare_is : start ≡ t.spare * a.noted.config.pages_per_block)
    (end : at ≡ first + a.noted.config.pages_per_block) (apart : block ≢ t.spare) where
  abbrev old_noted : IndexState
  old_noted = a.noted

  abbrev old_flash : FlashState
  old_flash = a.flash

  abbrev pages : ℕ
  pages = old_noted.config.pages_per_block

  config_is : n.config ≡ old_noted.config
  config_is = h.keeps.preserves.config

  pages_are : n.config.pages_per_block ≡ pages
  pages_are = ap (λ (k : Config). k.pages_per_block) config_is

  all_needed : needed_before old_noted first at ≡ needed_slots old_noted block
  all_needed =
      ap (λ k. filter (needed_of old_noted) (range_with_len first k))
      (let count : at - first ≡ pages = omega (arith, end) in count)
      ∙ ap (λ k. filter (needed_of old_noted) (range_with_len k pages)) block_is

  count_is : used ≡ length (needed_slots old_noted block)
  count_is = h.count ∙ ap length all_needed

  no_more_slots : used ≤ pages
  no_more_slots = (let most = filter_most (needed_of old_noted) (block * pages) pages in omega (arith, most, count_is))

  -- and fewer where one is not needed
  pub fewer_slots : HasUnneeded old_noted block → used < pages
  fewer_slots unneeded = (let less = filter_fewer (needed_of old_noted) (block * pages) pages unneeded in
      omega (arith, less, count_is))

  start_is : t.spare * n.config.pages_per_block ≡ start
  start_is = ap (λ k. t.spare * k) pages_are ∙ sym spare_is

  has_copy : (slot : ℕ) → is_outside (shape_of n.config) block slot ≡ false → needed_of n slot ≡ true →
      HasCopy n block slot
  has_copy slot inside needed =
      let some : 0 < n.config.pages_per_block = (let b = h.keeps.matches.noted.bounds.shape.pages_least in
      omega arith) in
      let place = inside_block n.config.pages_per_block block slot some (in_it (shape_of n.config) block slot inside) in
      let low : block * pages ≤ slot = subst (λ k. block * k ≤ slot) pages_are place.0 in
      let high : slot < block * pages + pages = subst (λ k. slot < block * k + k) pages_are place.1 in
      let away = subst (λ k. Away k pages slot) (sym spare_is) (blocks_away pages block t.spare slot apart low high) in
      let c = h.there slot (omega (arith, low, block_is)) (omega (arith, high, block_is, end))
      (sym (h.needs slot away) ∙ needed) in
      let below : t.spare < blocks_of (shape_of n.config) =
      omega (
        arith,
        h.keeps.matches.table.spare_within,
        ap blocks_of h.keeps.matches.blocks,
        ap blocks_of h.keeps.matches.shape,
      ) in
      let room = block_within (shape_of n.config) t.spare below in
      let lt : c.0 < n.config.pages_per_block = omega (arith, c.1, no_more_slots, pages_are) in
      let its : start + c.0 ≡ t.spare * n.config.pages_per_block + c.0 = ap (λ k. k + c.0) (sym start_is) in (
        start + c.0,
        omega (arith, its, lt, room, h.keeps.matches.noted.slots),
        is_out (shape_of n.config) block t.spare (start + c.0) (λ e. apart (sym e))
            (ap (λ k. k / n.config.pages_per_block) its ∙ div-mul-add t.spare n.config.pages_per_block c.0 lt),
        c.2 ∙ sym (h.notes slot away),
      )

  pub copied_all : CopiesDone old_noted n old_flash s t.spare block used
  copied_all = record {
    count = count_is;
    programmed = subst (λ k. Does old_flash.shape (moment_of old_flash)
        (copies old_noted.config.page_bytes old_flash.image k (needed_slots old_noted block))
        (moment_of s)) spare_is
        (subst (λ l. Does old_flash.shape (moment_of old_flash)
        (copies old_noted.config.page_bytes old_flash.image start l) (moment_of s)) all_needed h.does);
    noted = h.noted ∙ ap (copied_from old_noted start) all_needed
        ∙ ap (λ k. copied_from old_noted k (needed_slots old_noted block)) spare_is;
    filled = record {
      within = omega (arith, no_more_slots, pages_are);
      records = λ k lt. (let r = h.records k lt in (r.0, ap (λ q. note_at n.notes (q + k)) start_is ∙ r.1));
      tail = λ k from before. ap (λ q. note_at n.notes (q + k)) start_is
          ∙ h.tail (start + k) (omega (arith, from)) (omega (arith, before, pages_are));
    };
    spared = spared_by_copies n t.spare block
        (one_each n.config.protocol (found_in n.notes) n.config.logical
        (noted_map n.config.protocol n h.keeps.matches.noted)) h.keeps.matches.spare
        h.keeps.matches.spared has_copy;
    reads = h.reads;
  }
