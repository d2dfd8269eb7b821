-- What is pinned once a page is pinned at another version, and that the tables match still.
use Rattle.tx_engine.proofs.Common.{◌≡◌, ◌⊎◌, ℕ, ◌<◌, true, false, List, length, get_or, set, Contains, Some, None, sym, ap, ◌∙◌, subst, inl, inr, arith, eqb, cases_Bool, cases_eq, cond-true, cond-false, none-some, length-set, get_or-set_same, get_or-set_other, All-contains, all_from, shape_of, Link, FlashState, Contents, Found, name_of, is_present, is_outside, counted_wanted, found_in, IndexState, IsNoted, pinned_at, pinned_names, BlocksState, Unsure, Matches, CanSpare}
use Rattle.std.proofs.Common.{zero-add}
use Rattle.std.proofs.lemmas.Bool.{false≢true}
use Rattle.std.proofs.lemmas.Option.{same_Some}
use Rattle.record_list.specs.Changes.{left}
use Rattle.record_list.specs.Written.{is_wanted}
use Rattle.record_list.proofs.OfFacts.Names.{present_in}
use Rattle.record_list.proofs.OfFacts.Wanted.{wanted_cases, pinned_wanted}
use Rattle.judged_records.specs.IndexState.{pinned}
use Rattle.judged_records.proofs.OfNotes.BaseTables.{given_from, given_in}
use Rattle.judged_records.proofs.OfChanges.Pins.{numbered_pin}
use Rattle.collector.specs.declared.unsure.Unsure.TheVariants as unsure
use Rattle.collector.specs.Matches.{IsPlace, IsFilledBy, VictimIsSpared}

-- the name that a pin gives
pinned_name : (page version : ℕ) (name : Link) → pinned_at page version ≡ Some name →
    name ≡ record { page = page; version = version }
pinned_name page version name e = elim (cases_Bool (eqb version 0)) [
  | inl none ↦ absurd (none-some name
      (sym (cond-true (eqb version 0) None (Some (record { page = page; version = version })) none) ∙ e))
  | inr some ↦ sym (same_Some (record { page = page; version = version }) name
      (sym (cond-false (eqb version 0) None (Some (record { page = page; version = version })) some) ∙ e))
]

-- a pinned name was pinned before, or is that of the page
pub pinned_before : (pins : List ℕ) (page version : ℕ) (name : Link) →
    Contains (pinned_names (set pins page version)) name →
    (name ≡ record { page = page; version = version }) ⊎ Contains (pinned_names pins) name
pinned_before pins page version name pin =
    let h = given_from numbered_pin 0 (set pins page version) name pin in
    let within : h.at < length pins = (let w = h.within in omega (arith, w, length-set pins page version)) in
    let gives : pinned_at h.at (get_or (set pins page version) h.at 0) ≡ Some name =
    subst (λ i. pinned_at i (get_or (set pins page version) h.at 0) ≡ Some name) (zero-add h.at) (h.from 0) in
    elim (cases_eq h.at page) [
      | inl here ↦ inl (pinned_name page version name
          (ap (λ v. pinned_at page v) (sym (get_or-set_same pins page version 0 (omega (arith, within, here))))
          ∙ ap (λ i. pinned_at i (get_or (set pins page version) i 0)) (sym here) ∙ gives))
      | inr other ↦ inr (given_in numbered_pin 0 pins h.at 0 name within
          (subst (λ i. pinned_at i (get_or pins h.at 0) ≡ Some name) (sym (zero-add h.at))
          (ap (pinned_at h.at) (sym (get_or-set_other pins page h.at version 0 other)) ∙ gives)))
    ]

module _ (n : IndexState) (page version : ℕ) where
  -- no record has the name of the new pin, so what can be spared can be spared still
  pub pinned_spared : is_present (found_in n.notes) (record { page = page; version = version }) ≡ false → (block : ℕ) →
      CanSpare n block →
      CanSpare (pinned n page version) block
  pinned_spared absent block spared =
      let p = n.config.protocol in
      let old = found_in n.notes in
      let keep = is_outside (shape_of n.config) block in
      let stays : (f : Found) → Contains old f → is_wanted p old n.config.logical (pinned_names n.pins) f.rec ≡ true →
      is_present (left keep old) (name_of f.rec) ≡ true =
      λ f i w. All-contains (λ f. is_wanted p old n.config.logical (pinned_names n.pins) f.rec ≡ true →
      is_present (left keep old) (name_of f.rec) ≡ true) old f
      spared i w in
      all_from (λ f. is_wanted p old n.config.logical (pinned_names (set n.pins page version)) f.rec ≡ true →
      is_present (left keep old) (name_of f.rec) ≡ true)
      old
      (λ f i w. elim (wanted_cases p old n.config.logical (pinned_names (set n.pins page version)) f.rec w) [
        | inl current ↦ stays f i (counted_wanted p old n.config.logical (pinned_names n.pins) f.rec (inl current))
        | inr (inl held) ↦ stays f i (counted_wanted p old n.config.logical (pinned_names n.pins) f.rec (inr held))
        | inr (inr pin) ↦ elim (pinned_before n.pins page version (name_of f.rec) pin) [
          | inl new ↦ absurd (false≢true (sym absent ∙ sym (ap (is_present old) new) ∙ present_in old f i))
          | inr was ↦ stays f i (pinned_wanted p old n.config.logical (pinned_names n.pins) f.rec was)
        ]
      ])

  pinned_victim : is_present (found_in n.notes) (record { page = page; version = version }) ≡ false → (u : Unsure) →
      VictimIsSpared n u →
      VictimIsSpared (pinned n page version) u
  pinned_victim absent unsure.Nothing v = tt
  pinned_victim absent (unsure.Own at rec) v = tt
  pinned_victim absent (unsure.Copy from to) v = tt
  pinned_victim absent unsure.SpareErase v = tt
  pinned_victim absent (unsure.VictimErase block) v = pinned_spared absent block.0 v

  pub pinned_noted : IsNoted n.config.protocol n → IsNoted n.config.protocol (pinned n page version)
  pinned_noted k = record {
    check = k.check;
    bounds = k.bounds;
    rule = k.rule;
    slots = k.slots;
    pages = length-set n.pins page version ∙ k.pages;
    mentions = k.mentions;
    spare = k.spare;
    closed = k.closed;
    scanned = k.scanned;
    sound = k.sound;
    mentioned = k.mentioned;
  }

  pinned_place : (image : List Contents) (t : BlocksState) (u : Unsure) → IsPlace image n t u →
      IsPlace image (pinned n page version) t u
  pinned_place image t unsure.Nothing place = tt
  pinned_place image t (unsure.Own at rec) place = place
  pinned_place image t (unsure.Copy from to) place = place
  pinned_place image t unsure.SpareErase place = place
  pinned_place image t (unsure.VictimErase block) place =
      (place.0, place.1, place.2, (place.3.0, filled place.3.1), place.4)
    where
      filled : IsFilledBy n t.spare place.3.0 → IsFilledBy (pinned n page version) t.spare place.3.0
      filled f = record { within = f.within; records = f.records; tail = f.tail }

  -- the tables match still
  pub pinned_matches : is_present (found_in n.notes) (record { page = page; version = version }) ≡ false →
      (s : FlashState) (t : BlocksState) (u : Unsure) →
      Matches s n t u → Matches s (pinned n page version) t u
  pinned_matches absent s t u m = record {
    shape = m.shape;
    flash = m.flash;
    sound = m.sound;
    noted = pinned_noted m.noted;
    counts = m.counts;
    table = m.table;
    blocks = m.blocks;
    spare = m.spare;
    sure = m.sure;
    place = pinned_place s.image t u m.place;
    spared = pinned_spared absent t.spare m.spared;
    victim = pinned_victim absent u m.victim;
    free = m.free;
    shut = record { spare = m.shut.spare; others = m.shut.others };
  }
