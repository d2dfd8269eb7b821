-- What a device that stands for its array has on its flash.
use Rattle.tx_engine.proofs.Common.{◌≡◌, ◌≢◌, ℕ, ◌+◌, ◌<◌, Bool, true, false, cond, List, length, Some, refl, sym, ap, ap₂, ◌∙◌, subst, inl, inr, arith, eq-eqb, AllZip, cases_eq, shape_of, slots_of, Config, Protocol, Slot, Rec, FlashState, Contents, blank, damaged, complete, slot_at, spelling, cur, name_of, text_at, array_in, records_in, current_in, written_in, IndexState, IsNoted, current_of, programmed, found_in, BlocksState, Unsure, array_known, known_image, Matches, CanTake, CanTakeOwn, settlement, Settlement, Entry, Pages, put, is_doubted, Mark, Plain, Doubt, Whole, Represents, DeviceState, Naming, Stands, DoubtsAs, IsOwn, IsOpenAs, IsUnderWay, text_with, ImageIsSound, NotingKeeps}
use Rattle.list_lemmas.proofs.Membership.{got_within}
use Rattle.list_lemmas.proofs.Pairs.{zip_at}
use Rattle.judged_records.specs.Notes.{notes_of}
use Rattle.judged_records.proofs.OfLaws.NotedImages.{found_in_notes}
use Rattle.collector.specs.declared.unsure.Unsure.TheVariants as unsure
use Rattle.collector.specs.declared.unsure.Settled.TheVariants as settled
use Rattle.collector.specs.Settling.{own_settled}
use Rattle.tx_engine.proofs.OfDevice.OpenOnes.{under_way, can_take}
use Rattle.tx_engine.proofs.OfDevice.InDoubt.{slot_text, partly_array, wholly_array}

-- a mark is the one of doubt where it counts as doubted
pub doubt_is : (m : Mark) → is_doubted m ≡ true → m ≡ Doubt
doubt_is Plain h = cc
doubt_is Doubt h = refl
doubt_is Whole h = cc

-- The settlement of the program of an open transaction's record that is there is that the record is noted.
module _ (p : Protocol) (laws : ImageIsSound p) (notes : NotingKeeps p) (s : FlashState) (n : IndexState)
    (t : BlocksState) (at : Slot) (rec : Rec)
    (m : Matches s n t (unsure.Own at rec)) (rule : n.config.protocol ≡ p) (take : CanTakeOwn n t rec)
    (bytes spare : List ℕ)
    (is : slot_at s.image at.0 ≡ complete bytes spare) where
  noted_there : IsNoted p n
  noted_there = subst (λ q. IsNoted q n) rule m.noted

  within : at.0 < slots_of (shape_of n.config)
  within = omega (arith, m.place.0.within, ap slots_of m.blocks, ap slots_of m.shape)

  pub settles_there : settlement n t s.image (unsure.Own at rec) ≡ own_settled n t at.0 (λ m. programmed m at.0 rec)
      (complete bytes spare)
  settles_there = ap (own_settled n t at.0 (λ m. programmed m at.0 rec)) is

  pub array_there : array_in p n.config.logical s.image ≡ array_known (programmed n at.0 rec) s.image
  array_there = laws.array s n t (unsure.Own at rec) m take rule
      ∙ ap (λ (f : Settlement). array_known f.noted s.image) settles_there

  -- the slot spells the record
  spelled_there : complete bytes spare ≡ complete bytes (spelling n.config.protocol rec)
  spelled_there = elim m.place.3 [
    | inl none ↦ (let both = sym is ∙ none in cc)
    | inr (inl torn) ↦ (let both = sym is ∙ torn in cc)
    | inr (inr asked) ↦ (let both : complete bytes spare ≡ complete asked.0 (spelling n.config.protocol rec) = sym is
        ∙ asked.1 in cc)
  ]

  pub text_there : text_at (written_in n.config.protocol s.image) (name_of rec) ≡ Some (text_with rec bytes)
  text_there = slot_text s n t (unsure.Own at rec) m at.0 bytes rec within m.place.2 (is ∙ spelled_there)

  module _ (entries : List Entry) (namings : List Naming) (each : AllZip (IsOpenAs s.image n) entries namings)
      (own : IsOwn s.image n entries namings at rec) where
    open_there : IsOpenAs s.image n own.entry own.naming
    open_there = zip_at (IsOpenAs s.image n) entries namings own.place own.entry own.naming each
        own.is_entry own.is_naming

    under_there : IsUnderWay s.image n own.entry own.naming
    under_there = under_way s.image n own.entry own.naming own.entry.mark open_there.marked own.not_whole

    -- the array of the image is the one that is known, or that with the pages of the transaction in doubt
    pub own_stands : (pages : Pages) → pages ≡ array_known n s.image →
        Represents (record { pages = pages; entries = entries }) (array_in p n.config.logical s.image)
    own_stands pages known = elim (cases_eq (own.entry.done + 1) (length own.entry.writes)) [
      | inl last ↦ inr (
        own.entry,
        got_within entries own.place own.entry own.is_entry,
        doubt_is own.entry.mark (own.doubt ∙ eq-eqb _ _ last),
        array_there
            ∙ wholly_array p notes n noted_there rule at.0 rec own.next within m.place.1 s.image own.entry own.naming
            open_there.named under_there own.its
            own.written own.named last
            (text_there ∙ ap Some (own.text bytes spare is))
            ∙ ap (λ ps. put ps own.entry.writes) (sym known),
      )
      | inr more ↦ inl (array_there
          ∙ partly_array p notes n noted_there rule at.0 rec own.next within m.place.1 s.image own.entry own.naming
          open_there.named under_there own.its
          own.written own.named more
          ∙ sym known)
    ]

-- What is not the program of an open transaction's record, or was not done, leaves the array.
pub no_record : (n : IndexState) (t : BlocksState) (image : List Contents) (at : Slot) (rec : Rec) (c : Contents) →
    slot_at image at.0 ≡ c →
    (own_settled n t at.0 (λ m. programmed m at.0 rec) c).answer ≡ settled.Missing →
    (settlement n t image (unsure.Own at rec)).answer ≢ settled.Present
no_record n t image at rec c is missing there =
    let same = ap (λ k. (own_settled n t at.0 (λ m. programmed m at.0 rec) k).answer) is in
    let both = sym missing ∙ sym same ∙ there in cc

pub spare_other : (b : Bool) (n : IndexState) (t : BlocksState) (u : Settlement) → u.answer ≡ settled.Other →
    (cond b (record { noted = n; table = t; answer = settled.Other }) u).answer ≢ settled.Present
spare_other true n t u h e = cc
spare_other false n t u h e = let both = sym h ∙ e in cc

module _ (p : Protocol) (laws : ImageIsSound p) (notes : NotingKeeps p) (s : FlashState) (n : IndexState)
    (t : BlocksState) (rule : n.config.protocol ≡ p)
    (entries : List Entry) (namings : List Naming) (each : AllZip (IsOpenAs s.image n) entries namings)
    (pages : Pages) (known : pages ≡ array_known n s.image) where
  left_alone : (u : Unsure) → Matches s n t u → CanTake n t u → (settlement n t s.image u).answer ≢ settled.Present →
      Represents (record { pages = pages; entries = entries }) (array_in p n.config.logical s.image)
  left_alone u m take other = inl ((laws.preserves s n t u m take rule other).1 ∙ sym known)

  own_array : (at : Slot) (rec : Rec) → Matches s n t (unsure.Own at rec) → CanTakeOwn n t rec →
      IsOwn s.image n entries namings at rec →
      (c : Contents) → slot_at s.image at.0 ≡ c → Represents (record { pages = pages; entries = entries })
      (array_in p n.config.logical s.image)
  own_array at rec m take own blank is = left_alone (unsure.Own at rec) m take
      (no_record n t s.image at rec blank is refl)
  own_array at rec m take own damaged is = left_alone (unsure.Own at rec) m take
      (no_record n t s.image at rec damaged is refl)
  own_array at rec m take own (complete bytes spare) is = own_stands p laws notes s n t at rec m rule take bytes spare
      is entries namings each own pages known

  pub stands_for : (u : Unsure) → Matches s n t u → CanTake n t u → DoubtsAs s.image n entries namings u →
      Represents (record { pages = pages; entries = entries }) (array_in p n.config.logical s.image)
  stands_for unsure.Nothing m take doubt = left_alone unsure.Nothing m take (λ e. cc)
  stands_for (unsure.Own at rec) m take doubt = own_array at rec m take doubt (slot_at s.image at.0) refl
  stands_for (unsure.Copy from to) m take doubt = left_alone (unsure.Copy from to) m take (λ e. cc)
  stands_for unsure.SpareErase m take doubt = left_alone unsure.SpareErase m take (spare_other _ n t _ refl)
  stands_for (unsure.VictimErase block) m take doubt = left_alone (unsure.VictimErase block) m take
      (spare_other _ n t _ refl)

-- the array of the image is the device's, or that with the pages of the transaction in doubt
pub device_array : {F : Type 0} (state : F → FlashState) (p : Protocol) (laws : ImageIsSound p) (notes : NotingKeeps p)
    (s : DeviceState F) → Stands state s →
    s.config.protocol ≡ p →
    Represents s.machine (array_in p s.config.logical (state s.flash).image)
device_array state p laws notes s h rule =
    let rule_noted : s.noted.config.protocol ≡ p = ap (λ (c : _). c.protocol) (sym h.config) ∙ rule in
    subst (λ (c : _). Represents s.machine (array_in p c.logical (state s.flash).image)) (sym h.config)
    (stands_for p laws notes (state s.flash) s.noted s.table rule_noted s.machine.entries s.namings h.each
    s.machine.pages h.array s.unsure h.matches
    (can_take state s h) h.doubt)

-- the known image has the notes of the tables
abbrev pub HasNotes : Protocol → Type 0
HasNotes p = (s : FlashState) (n : IndexState) (t : BlocksState) (u : Unsure) → Matches s n t u →
    n.config.protocol ≡ p →
    notes_of p (known_image n t.spare u s.image) ≡ n.notes

module _ {F : Type 0} (state : F → FlashState) (p : Protocol) (notes : HasNotes p) (s : DeviceState F)
    (h : Stands state s) (rule : s.config.protocol ≡ p) where
  noted_rule : s.noted.config.protocol ≡ p
  noted_rule = ap (λ (c : Config). c.protocol) (sym h.config) ∙ rule

  abbrev known : List Contents
  known = known_image s.noted s.table.spare s.unsure (state s.flash).image

  -- so it has their records
  pub known_records : records_in p known ≡ found_in s.noted.notes
  known_records = sym (found_in_notes p known)
      ∙ ap found_in (notes (state s.flash) s.noted s.table s.unsure h.matches noted_rule)

  -- and their versions
  pub known_versions : (page : ℕ) → current_in p s.config.logical known page ≡ current_of s.noted page
  unfolding current_in current_of
  known_versions page =
      ap (λ l. cur p l s.config.logical page) known_records
      ∙ ap₂ (λ q k. cur q (found_in s.noted.notes) k page) (sym noted_rule) (ap (λ (c : Config). c.logical) h.config)
