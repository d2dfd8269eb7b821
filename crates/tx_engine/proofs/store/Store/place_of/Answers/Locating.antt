-- The slot from which the current record of a page is read has the bytes that are known of the page.
use Rattle.tx_engine.proofs.Common.{◌≡◌, ◌⊎◌, ℕ, ◌<◌, ◌≤◌, Bool, true, false, ◌&&◌, eqb, eqb-true, List, [], ◌∷◌, Option, Some, None, refl, sym, ap, ◌∙◌, subst, inl, inr, arith, Contains, option_and_then, if◌then◌else◌, option_map, cases_Bool, cond-true, cond-false, and_from, none-some, All-contains, Contains-cases, Contains-nil, Protocol, Slot, Link, Rec, shape_of, slots_of, FlashState, slot_at, Found, name_of, is_present, cur, is_outside, value_at, value_of, found_named, counted_wanted, Blank, written_in, note_at, found_in, IndexState, current_of, current_name_of, discarded_of, pinned_names, written, noted_present, BlocksState, Unsure, page_known, Matches, CanSpare}
use Rattle.std.proofs.Common.{find, IsNone, IfSome, IfNone}
use Rattle.std.proofs.Common.{IsSomeAnd, ◌↔◌}
use Rattle.std.specs.Option.{option_or}
use Rattle.std.proofs.lemmas.Bool.{false≢true, and_parts, not_from_true}
use Rattle.list_lemmas.proofs.Membership.{from_filter}
use Rattle.tx_types.specs.declared.config.Block.{Block}
use Rattle.flash_model.specs.Calls.{page_of}
use Rattle.record_list.specs.Records.{has_name}
use Rattle.record_list.specs.Changes.{left}
use Rattle.record_list.specs.Current.{IsCurrent}
use Rattle.record_list.specs.Written.{is_wanted, first_slot, home, records_of}
use Rattle.record_list.proofs.OfFacts.Names.{has_own_name, present_as}
use Rattle.record_list.proofs.OfChanges.WrittenLists.{one_text}
use Rattle.record_list.proofs.OfChanges.Arrays.{text_named, text_absent}
use Rattle.judged_records.specs.declared.note.Note.{Note}
use Rattle.judged_records.specs.declared.note.Note.TheVariants.{Damaged, Holds}
use Rattle.judged_records.specs.Notes.{rec_of}
use Rattle.judged_records.specs.IndexState.{IsBlank, home_of, place_of, slot_off, HoldsName}
use Rattle.judged_records.proofs.OfNotes.FoundIn.{found, noted_in}
use Rattle.judged_records.proofs.OfNotes.HomeFacts.{first_stands}
use Rattle.judged_records.proofs.OfLaws.ImageScans.{records_scanned, read_slot}
use Rattle.judged_records.proofs.OfNotes.NotedFacts.{noted_discard}
use Rattle.collector.specs.declared.unsure.Unsure.TheVariants as unsure
use Rattle.collector.specs.Known.{is_unsure}
use Rattle.collector.proofs.OfNotes.SpelledNotes.{noted_record}
use Rattle.tx_engine.specs.Read.{ShowsKnown, current_place, read_place}

holds_it : (note : Note) (rec : Rec) → rec_of note ≡ Some rec → note ≡ Holds rec
holds_it Blank rec e = absurd (none-some rec e)
holds_it Damaged rec e = absurd (none-some rec e)
holds_it (Holds r) rec e = ap held e
  where
    held : Option Rec → Note
    held None = Blank
    held (Some r) = Holds r

-- the first slot of a record that passes a test is found where some record does
first_some : (test : Found → Bool) (list : List Found) (f : Found) → Contains list f → test f ≡ true →
    first_slot test list ≡ None → ⊥
first_some test [] f i pass none = Contains-nil f i
first_some test (g ∷ gs) f i pass none = elim (cases_Bool (test g)) [
  | inl here ↦ none-some g.slot.0 (sym none ∙ ap (option_map (λ (x : Found). x.slot.0))
      (cond-true (test g) (Some g) (find test gs) here))
  | inr not_here ↦ elim (Contains-cases g gs f i) [
    | inl same ↦ false≢true (sym not_here ∙ ap test same ∙ pass)
    | inr later ↦ first_some test gs f later pass
        (sym (ap (option_map (λ (x : Found). x.slot.0)) (cond-false (test g) (Some g) (find test gs) not_here))
        ∙ none)
  ]
]

first_left : (keep : ℕ → Bool) (list : List Found) (name : Link) → is_present (left keep list) name ≡ true →
    first_slot (λ f. has_name name f.rec && keep f.slot.0) list ≡ None → ⊥
first_left keep list name here =
    let f = found_named (left keep list) name here in
    let i = from_filter (λ (g : Found). keep g.slot.0) f.0 list f.1 in
    first_some (λ f. has_name name f.rec && keep f.slot.0) list f.0 i.0
    (and_from (has_name name f.0.rec) (keep f.0.slot.0) (has_own_name name f.0.rec f.2) i.1)

first_choice : (a b : Option ℕ) (at : ℕ) → (a ≡ None → ⊥) → option_or a b ≡ Some at → a ≡ Some at
first_choice None b at some e = absurd (some refl)
first_choice (Some x) b at some e = e

module _ (s : FlashState) (n : IndexState) (t : BlocksState) (u : Unsure) (m : Matches s n t u) (page : ℕ) where
  p : Protocol
  p = n.config.protocol

  abbrev name : Link
  name = current_name_of n page

  -- where its slot is noted as it reads, and does not discard it
  shows_known : (at : ℕ) → HoldsName n at name → is_unsure s.shape t.spare u at ≡ false → discarded_of n page ≡ false →
      ShowsKnown s n page at
  shows_known at holds sure held = of_record (rec_of (note_at n.notes at)) refl holds.1
    where
      within : at < slots_of s.shape
      within = (let w = holds.0 in omega (arith, w, ap slots_of m.shape))

      of_record : (o : Option Rec) → rec_of (note_at n.notes at) ≡ o → IsSomeAnd o (λ rec. name_of rec ≡ name) →
          ShowsKnown s n page at
      of_record None e h = absurd h
      of_record (Some rec) e h =
          let has = noted_record n.config.protocol rec (slot_at s.image at) (sym (holds_it (note_at n.notes at) rec e)
          ∙ m.sure at within sure) in
          let list = written_in n.config.protocol s.image in
          let there = read_slot n.config.protocol s.image at has.bytes has.spare rec
          (omega (arith, within, m.flash.slots)) has.is has.spells in
          let one = one_text n.config.protocol list n.config.logical m.sound.written.records
          (records_scanned n.config.protocol s.image)
          m.sound.written.bytes in
          let flag : rec.discard ≡ false = noted_discard n.config.protocol n m.noted page at rec
          (holds_it (note_at n.notes at) rec e) h ∙ held in
          record {
            within = within;
            shows = ap (value_at list) (sym h) ∙ ap (option_and_then value_of)
                (text_named list (written at rec has.bytes) one there)
                ∙ ap (λ d. value_of (record { discard = d; bytes = has.bytes })) flag
                ∙ ap (λ c. Some (page_of s.shape.page_bytes c)) (sym has.is);
          }

  -- a page without a current record has no bytes
  pub unknown : current_of n page ≡ 0 → page_known n s.image page ≡ None
  unknown none =
      let list = written_in n.config.protocol s.image in
      ap (option_and_then value_of) (text_absent list name (elim (cases_Bool (is_present (records_of list) name)) [
        | inl here ↦
            (let f = found_named (records_of list) name here in
            let positive = (All-contains (λ f. (1 ≤ f.rec.version) × (1 ≤ f.rec.next.version)) (records_of list) f.0
            (records_scanned n.config.protocol s.image).versions f.1).0 in
            let version = ap (λ (x : Link). x.version) f.2 in
            absurd (omega (arith, positive, version, none)))
        | inr gone ↦ gone
      ]))

  -- outside a block that can be spared the current record of the page has a slot
  stays_outside : (block : ℕ) → CanSpare n block → is_present (found_in n.notes) name ≡ true →
      is_present (left (is_outside (shape_of n.config) block) (found_in n.notes)) name ≡ true
  unfolding current_of
  stays_outside block spared here =
      let list = found_in n.notes in
      let f = found_named list name here in
      let current : IsCurrent n.config.protocol list n.config.logical f.0.rec =
      ap (λ (x : Link). x.version) f.2 ∙ ap (λ (x : Link). cur n.config.protocol list n.config.logical x.page)
      (sym f.2) in
      subst (λ x. is_present (left (is_outside (shape_of n.config) block) list) x ≡ true) f.2
      (All-contains (λ f. is_wanted n.config.protocol list n.config.logical (pinned_names n.pins) f.rec ≡ true →
      is_present (left (is_outside (shape_of n.config) block) list) (name_of f.rec) ≡ true) list f.0 spared f.1
      (counted_wanted n.config.protocol list n.config.logical (pinned_names n.pins) f.0.rec (inl current)))

  -- its home lies outside the spare
  home_outside : (at : ℕ) → home_of n name ≡ Some at → is_present (found_in n.notes) name ≡ true →
      is_outside s.shape t.spare at ≡ true
  unfolding home_of
  home_outside at e here =
      let list = found_in n.notes in
      let outside = stays_outside t.spare m.spared here in
      let e' = subst (λ spare. home (shape_of n.config) spare list name ≡ Some at) m.spare e in
      let first = first_choice (first_slot (λ f. has_name name f.rec && is_outside (shape_of n.config) t.spare f.slot.0)
      list) _ at
      (first_left (is_outside (shape_of n.config) t.spare) list name outside) e' in
      let h = first_stands (λ f. has_name name f.rec && is_outside (shape_of n.config) t.spare f.slot.0)
      list at first in
      subst (λ sh. is_outside sh t.spare at ≡ true) (sym m.shape)
      (subst (λ k. is_outside (shape_of n.config) t.spare k ≡ true) h.its_slot
      (and_parts (has_name name h.found.rec) (is_outside (shape_of n.config) t.spare h.found.slot.0) h.passes).1)

  -- a slot that holds a record is not the place of a program
  not_blank : (at place : ℕ) → HoldsName n at name → note_at n.notes place ≡ Blank → eqb at place ≡ false
  not_blank at place holds was = elim (cases_Bool (eqb at place)) [
    | inl same ↦ absurd (subst (λ note. IsSomeAnd (rec_of note) (λ rec. name_of rec ≡ name))
        (ap (note_at n.notes) (eqb-true at place same) ∙ was) holds.1)
    | inr other ↦ other
  ]

  current_there : (at : ℕ) → HoldsName n at name → is_present (found_in n.notes) name ≡ true
  current_there at holds = of_record (rec_of (note_at n.notes at)) refl holds.1
    where
      of_record : (o : Option Rec) → rec_of (note_at n.notes at) ≡ o → IsSomeAnd o (λ rec. name_of rec ≡ name) →
          is_present (found_in n.notes) name ≡ true
      of_record None e h = absurd h
      of_record (Some rec) e h =
          present_as (found_in n.notes) (found at rec) name
          (noted_in n.notes at rec (let w = holds.0 in omega (arith, w, m.noted.slots))
          (holds_it (note_at n.notes at) rec e)) h

  -- outside a block that can be spared the page has a slot, or it has no current record
  off_there : (block : ℕ) → CanSpare n block → slot_off n block name ≡ None → current_of n page ≡ 0
  unfolding slot_off
  off_there block spared none = elim (noted_present n.config.protocol n m.noted page) [
    | inl bare ↦ bare
    | inr here ↦ absurd (first_left (is_outside (shape_of n.config) block) (found_in n.notes) name
        (stays_outside block spared here) none)
  ]

  off_outside : (block at : ℕ) → slot_off n block name ≡ Some at → is_outside s.shape block at ≡ true
  unfolding slot_off
  off_outside block at e =
      let h = first_stands (λ f. has_name name f.rec && is_outside (shape_of n.config) block f.slot.0)
      (found_in n.notes) at e in
      subst (λ sh. is_outside sh block at ≡ true) (sym m.shape)
      (subst (λ k. is_outside (shape_of n.config) block k ≡ true) h.its_slot
      (and_parts (has_name name h.found.rec) (is_outside (shape_of n.config) block h.found.slot.0) h.passes).1)

-- where no collected block is being erased, the home of a page lies outside the place whose contents are not known
home_sure : (s : FlashState) (n : IndexState) (t : BlocksState) (u : Unsure) (m : Matches s n t u) (page at : ℕ) →
    HoldsName n at (current_name_of n page) →
    home_of n (current_name_of n page) ≡ Some at → ((block : Block) → u ≡ unsure.VictimErase block → ⊥) →
    is_unsure s.shape t.spare u at ≡ false
home_sure s n t unsure.Nothing m page at holds home other = refl
home_sure s n t (unsure.Own place rec) m page at holds home other = not_blank s n t (unsure.Own place rec) m page at
    place.0 holds m.place.1
home_sure s n t (unsure.Copy from to) m page at holds home other = not_blank s n t (unsure.Copy from to) m page at to.0
    holds m.place.2
home_sure s n t unsure.SpareErase m page at holds home other =
    not_from_true (is_outside s.shape t.spare at) (home_outside s n t unsure.SpareErase m page at home
    (current_there s n t unsure.SpareErase m page at holds))
home_sure s n t (unsure.VictimErase block) m page at holds home other = absurd (other block refl)

-- what an answer is that names the home of a page
pub located : (s : FlashState) (n : IndexState) (t : BlocksState) (u : Unsure) (m : Matches s n t u) (page : ℕ)
    (r : Option Slot) →
    ((block : Block) → u ≡ unsure.VictimErase block → ⊥) →
    option_map (λ at. at.0) r ≡ home_of n (current_name_of n page) →
    discarded_of n page ≡ false → IsNone r ↔ IsBlank n page →
    IfSome r (λ at. HoldsName n at.0 (current_name_of n page)) →
    IfNone r (page_known n s.image page ≡ None) × IfSome r (λ at. ShowsKnown s n page at.0)
located s n t u m page None other home held none holds = (
  elim (none.0 refl) [
    | inl missing ↦ unknown s n t u m page missing
    | inr discards ↦ absurd (false≢true (sym held ∙ discards))
  ],
  tt,
)
located s n t u m page (Some at) other home held none holds =
    (tt, shows_known s n t u m page at.0 holds (home_sure s n t u m page at.0 holds (sym home) other) held)

-- and one that names a slot outside a block that is being erased
pub located_off : (s : FlashState) (n : IndexState) (t : BlocksState) (block : Block)
    (m : Matches s n t (unsure.VictimErase block)) (page : ℕ) (r : Option Slot) →
    option_map (λ at. at.0) r ≡ slot_off n block.0 (current_name_of n page) → discarded_of n page ≡ false →
    IfSome r (λ at. HoldsName n at.0 (current_name_of n page)) →
    IfNone r (page_known n s.image page ≡ None) × IfSome r (λ at. ShowsKnown s n page at.0)
located_off s n t block m page None lowest held holds = (
  unknown s n t (unsure.VictimErase block) m page (off_there s n t (unsure.VictimErase block) m page block.0 m.victim
      (sym lowest)),
  tt,
)
located_off s n t block m page (Some at) lowest held holds = (
  tt,
  shows_known s n t (unsure.VictimErase block) m page at.0 holds
      (not_from_true (is_outside s.shape block.0 at.0) (off_outside s n t (unsure.VictimErase block) m page block.0 at.0
      (sym lowest))) held,
)

-- none of the other places is a block that is being erased
pub not_victim : (u : Unsure) →
    (u ≡ unsure.Nothing) ⊎ (((at : Slot) × (rec : Rec) × (u ≡ unsure.Own at rec))
    ⊎ (((from : Slot) × (to : Slot) × (u ≡ unsure.Copy from to)) ⊎ (u ≡ unsure.SpareErase))) →
    (block : Block) → u ≡ unsure.VictimErase block → ⊥
not_victim unsure.Nothing known block e = cc
not_victim (unsure.Own at rec) known block e = cc
not_victim (unsure.Copy from to) known block e = cc
not_victim unsure.SpareErase known block e = cc
not_victim (unsure.VictimErase b) (inl e) block is = cc
not_victim (unsure.VictimErase b) (inr (inl (at, rec, e))) block is = cc
not_victim (unsure.VictimErase b) (inr (inr (inl (from, to, e)))) block is = cc
not_victim (unsure.VictimErase b) (inr (inr (inr e))) block is = cc

-- where none of them is, the current record is read from its home
home_current : (n : IndexState) (u : Unsure) (page : ℕ) → ((block : Block) → u ≡ unsure.VictimErase block → ⊥) →
    home_of n (current_name_of n page) ≡ current_place n u page
home_current n unsure.Nothing page other = refl
home_current n (unsure.Own at rec) page other = refl
home_current n (unsure.Copy from to) page other = refl
home_current n unsure.SpareErase page other = refl
home_current n (unsure.VictimErase block) page other = absurd (other block refl)

-- and so is a page that its record does not discard, as an answer says that names the home
pub home_place : (n : IndexState) (u : Unsure) (page : ℕ) (r : Option ℕ) →
    ((block : Block) → u ≡ unsure.VictimErase block → ⊥) →
    r ≡ place_of n page → r ≡ read_place n u page
home_place n u page r other is = is ∙ ap (λ home. if discarded_of n page then None else home)
    (home_current n u page other)

-- while a block is being erased, from its lowest slot outside that block
pub off_place : (n : IndexState) (u : Unsure) (page : ℕ) (r : Option ℕ) → discarded_of n page ≡ false →
    r ≡ current_place n u page → r ≡ read_place n u page
off_place n u page r held is = is ∙ sym (cond-false (discarded_of n page) None (current_place n u page) held)

-- the home of a page that its record does not discard
pub place_home : (n : IndexState) (page : ℕ) (r : Option ℕ) → discarded_of n page ≡ false → r ≡ place_of n page →
    r ≡ home_of n (current_name_of n page)
place_home n page r held is = is ∙ cond-false (discarded_of n page) None (home_of n (current_name_of n page)) held

-- a page that its record discards is read nowhere
pub nowhere : (n : IndexState) (u : Unsure) (page : ℕ) → discarded_of n page ≡ true → None ≡ read_place n u page
nowhere n u page discards = sym (cond-true (discarded_of n page) None (current_place n u page) discards)
