-- Where nothing outside the spare is garbage, and the spare is blank, each record of the image is wanted, and stands
-- once.
use Rattle.collector.proofs.Common.{◌≡◌, ◌≢◌, ◌⊎◌, ℕ, ◌*◌, ◌/◌, ◌<◌, Bool, true, false, List, length, get_or, All, AllPairs, Contains, refl, sym, ap, ◌∙◌, subst, inl, inr, arith, cases_eq, ne_eqb, all_from, shape_of, slots_of, blocks_of, Shape, FlashState, blank, damaged, slot_at, Found, IsCurrent, is_held, name_of, is_slot, Blank, Damaged, Holds, found_in, note_at, note_of, IndexState, needed_of, is_blank, pinned_names, inside_block, noted_from, BlocksState, block_state, Matches, AllOfBlock, HasNoGarbage, is_shut}
use Rattle.std.proofs.lemmas.List.Elements.{All-from_get_or, Contains-get_or}
use Rattle.list_lemmas.proofs.Counts.{none_in_range}
use Rattle.record_list.specs.Written.{is_garbage}
use Rattle.judged_records.specs.IndexState.{is_garbage_at, shut_or_part}
use Rattle.judged_records.proofs.OfNotes.NotedFacts.{other_garbage}
use Rattle.die_alloc.proofs.Changes.{block_within}
use Rattle.collector.specs.declared.unsure.Unsure.TheVariants as unsure
use Rattle.collector.specs.Tidy.{IsTidy}
use Rattle.collector.proofs.OfNotes.Calm.{noted_as_read, same_records}
use Rattle.collector.proofs.OfNotes.NeedFacts.{IsHome, home_needed, one_home, found_home}

-- a slot that is not blank and is no garbage is needed
needed_full : (n : IndexState) (shut : Bool) (slot : ℕ) → is_blank (note_at n.notes slot) ≡ false →
    is_garbage_at n (shut_or_part shut) slot ≡ false →
    needed_of n slot ≡ true
needed_full n shut slot full none =
    needed shut (needed_of n slot) (subst (λ b. is_garbage (shut_or_part shut) b (needed_of n slot) ≡ false) full none)
  where
    needed : (shut needed : Bool) → is_garbage (shut_or_part shut) false needed ≡ false → needed ≡ true
    needed true true e = refl
    needed true false e = cc
    needed false true e = refl
    needed false false e = cc

module _ (s : FlashState) (n : IndexState) (t : BlocksState) (m : Matches s n t unsure.Nothing)
    (bare : AllOfBlock n t.spare (λ slot. note_at n.notes slot ≡ Blank))
    (clear : HasNoGarbage n t) where
  abbrev list : List Found
  list = found_in n.notes

  per_some : 0 < n.config.pages_per_block
  per_some = (let b = m.noted.bounds.shape.pages_least in omega arith)

  below : (slot : ℕ) → slot < slots_of (shape_of n.config) →
      slot / n.config.pages_per_block < blocks_of (shape_of n.config)
  below slot within =
      subst (λ (x : Shape). slot / x.pages_per_block < blocks_of x) (m.blocks ∙ m.shape)
      (block_within t m.table slot (omega (arith, within, ap slots_of m.blocks, ap slots_of m.shape)))

  -- outside the spare, what is not blank is needed
  needed_outside : (slot : ℕ) → slot < slots_of (shape_of n.config) → slot / n.config.pages_per_block ≢ t.spare →
      is_blank (note_at n.notes slot) ≡ false →
      needed_of n slot ≡ true
  needed_outside slot within apart full =
      let block = slot / n.config.pages_per_block in
      let shut = is_shut (block_state t block) in
      let other : is_slot block n.spare ≡ false = ap (is_slot block) m.spare
      ∙ ne_eqb t.spare block (λ e. apart (sym e)) in
      let none = sym (other_garbage n block shut other) ∙ clear block (below slot within) in
      let place = inside_block n.config.pages_per_block block slot per_some refl in
      needed_full n shut slot full
      (none_in_range (is_garbage_at n (shut_or_part shut)) (block * n.config.pages_per_block) n.config.pages_per_block
      none slot place.0 place.1)

  -- what is not blank is the home of a wanted record
  home_full : (slot : ℕ) → slot < slots_of (shape_of n.config) → is_blank (note_at n.notes slot) ≡ false → IsHome n slot
  home_full slot within full = elim (cases_eq (slot / n.config.pages_per_block) t.spare) [
    | inl spare ↦ (let k : true ≡ false = sym (ap is_blank (bare slot within spare)) ∙ full in cc)
    | inr apart ↦ home_needed n slot (needed_outside slot within apart full)
  ]

  -- so no slot is damaged
  whole_at : (slot : ℕ) → slot < length s.image → slot_at s.image slot ≢ damaged
  whole_at slot within bad =
      let low : slot < slots_of s.shape = omega (arith, m.flash.slots) in
      let low_noted : slot < slots_of (shape_of n.config) = omega (arith, ap slots_of m.shape) in
      let is : note_at n.notes slot ≡ Damaged = noted_as_read s n t m slot low ∙ ap (note_of n.config.protocol) bad in
      let home = home_full slot low_noted (ap is_blank is) in
      let holds : note_at n.notes slot ≡ Holds home.found.rec = ap (note_at n.notes) (sym home.slot)
      ∙ (noted_from n.notes home.found home.is_in).1 in
      (let k : Damaged ≡ Holds home.found.rec = sym is ∙ holds in cc)

  -- each record stands in its home
  record_home : (f : Found) → Contains list f → IsHome n f.slot.0
  record_home f i =
      let at = noted_from n.notes f i in
      let low = at.0 in
      home_full f.slot.0 (omega (arith, m.noted.slots)) (ap is_blank at.1)

  -- so one name has one slot
  one_slot : (f g : Found) → Contains list f → Contains list g → name_of f.rec ≡ name_of g.rec → f.slot.0 ≡ g.slot.0
  one_slot f g i j same =
      one_home n f.slot.0 g.slot.0 (record_home f i) (record_home g j)
      (ap (λ (x : Found). name_of x.rec) (found_home n m.noted f i (record_home f i)) ∙ same
      ∙ sym (ap (λ (x : Found). name_of x.rec) (found_home n m.noted g j (record_home g j))))

  once : AllPairs (λ f g. name_of f.rec ≢ name_of g.rec) list
  once i j d lt within same =
      let f = get_or list i d in
      let g = get_or list j d in
      let slots = one_slot f g (Contains-get_or list i d (omega arith)) (Contains-get_or list j d within) same in
      let order = m.noted.scanned.ascending i j d lt within in
      absurd (omega (arith, order, slots))

  wanted : (f : Found) → Contains list f →
      IsCurrent n.config.protocol list n.config.logical f.rec
      ⊎ ((is_held n.config.protocol list n.config.logical f.rec ≡ true)
      ⊎ Contains (pinned_names n.pins) (name_of f.rec))
  wanted f i =
      subst (λ (x : Found). IsCurrent n.config.protocol list n.config.logical x.rec
      ⊎ ((is_held n.config.protocol list n.config.logical x.rec ≡ true)
      ⊎ Contains (pinned_names n.pins) (name_of x.rec))) (found_home n m.noted f i
      (record_home f i)) (record_home f i).wanted

  abbrev WantedIn : List Found → Type 0
  WantedIn l = All (λ f. IsCurrent n.config.protocol l n.config.logical f.rec
      ⊎ ((is_held n.config.protocol l n.config.logical f.rec ≡ true) ⊎ Contains (pinned_names n.pins) (name_of f.rec)))
      l

  pub tidy : IsTidy n.config.protocol n.config.logical s.image (pinned_names n.pins)
  tidy =
      let same = same_records s n t m in
      record {
        whole = All-from_get_or (λ contents. contents ≢ damaged) s.image blank whole_at;
        once = subst (AllPairs (λ f g. name_of f.rec ≢ name_of g.rec)) same once;
        wanted = subst WantedIn same (all_from (λ f. IsCurrent n.config.protocol list n.config.logical f.rec
            ⊎ ((is_held n.config.protocol list n.config.logical f.rec ≡ true)
            ⊎ Contains (pinned_names n.pins) (name_of f.rec))) list wanted);
      }
