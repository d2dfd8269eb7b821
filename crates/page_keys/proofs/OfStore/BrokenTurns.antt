-- How the buckets of a put are written where a step breaks off.
use Rattle.page_keys.proofs.Common.{◌≡◌, ◌⊎◌, ℕ, ◌+◌, ◌<◌, ◌≤◌, true, false, List, [], ◌∷◌, length, map, take, drop, get_or, Some, refl, sym, ap, subst, ◌∙◌, inl, inr, arith, zero, suc, PageWrite, Config, Protocol, Shape, shape_of, FlashState, Contents, Moment, moment_of, IndexState, HoldsAlways, ArrayState, DeviceState, writing}
use Rattle.std.proofs.Common.{All, length-drop}
use Rattle.std.specs.Prelude.{◌≢◌, AllPairs, slice_get}
use Rattle.std.proofs.lemmas.Bool.{cases_Bool, false≢true}
use Rattle.std.proofs.lemmas.List.{get_or-drop, length-map}
use Rattle.std.proofs.lemmas.List.Elements.{All-from_get_or}
use Rattle.list_lemmas.proofs.Membership.{Contains-here, Contains-one}
use Rattle.tx_types.specs.Config.{slots_of}
use Rattle.tx_types.specs.declared.config.Slot.{Slot}
use Rattle.tx_types.specs.declared.record.Link.{Link}
use Rattle.tx_types.specs.declared.record.Rec.{Rec}
use Rattle.flash_model.specs.Flash.{blank, complete, damaged, slot_at}
use Rattle.flash_model.specs.Moves.{Moves}
use Rattle.record_list.specs.Records.{is_present, name_of}
use Rattle.record_list.specs.declared.found.Found.{Found}
use Rattle.judged_records.specs.Images.{records_in}
use Rattle.judged_records.specs.IndexState.{IsNoted, programmed}
use Rattle.judged_records.specs.Notes.{found_in}
use Rattle.collector.specs.Laws.{ImageIsSound, NotingKeeps}
use Rattle.collector.specs.Matches.{CanTake, CanTakeOwn, Matches}
use Rattle.collector.specs.Preserves.{IsThere, Preserves}
use Rattle.collector.specs.Settling.{Settlement, own_settled, settlement}
use Rattle.collector.specs.declared.unsure.Settled.TheVariants as settled
use Rattle.collector.specs.declared.unsure.Unsure.{Unsure}
use Rattle.collector.specs.declared.unsure.Unsure.TheVariants as unsure
use Rattle.array_machine.specs.ArrayState.{Entry}
use Rattle.array_machine.specs.declared.mark.Mark.{Mark}
use Rattle.open_table.specs.OpenTransactionsState.{Naming, name_at, next_name, no_name}
use Rattle.tx_engine.specs.DeviceState.{DoubtsAs, IsOwn, Stands}
use Rattle.tx_engine.specs.Exits.{Exits}
use Rattle.tx_engine.specs.Settling.{StaysUnread, settlement_of}
use Rattle.tx_engine.proofs.OfDevice.OpenOnes.{can_take}
use Rattle.tx_engine.proofs.OfLaws.DevicesStand.{no_record, spare_other}
use Rattle.page_keys.specs.BucketWrites.{AddsNames, WritesFirst}
use Rattle.page_keys.proofs.OfStore.Turns.{Turning, entry_at, one_named, opened_as, same_names}

-- the record whose program was broken has this name
abbrev IsOwnName : Unsure → Link → Type 0
IsOwnName unsure.Nothing name = ⊥
IsOwnName (unsure.Own at rec) name = name ≡ name_of rec
IsOwnName (unsure.Copy from to) name = ⊥
IsOwnName unsure.SpareErase name = ⊥
IsOwnName (unsure.VictimErase block) name = ⊥

-- a name that a record of an image has is noted, or is that of the record whose program was broken
module _ {F : Type 0} (state : F → FlashState) (p : Protocol) (laws : ImageIsSound p) (notings : NotingKeeps p)
    (d : DeviceState F) (rule : d.noted.config.protocol ≡ p) (name : Link) where
  abbrev s : FlashState
  s = state d.flash

  abbrev n : IndexState
  n = d.noted

  left_alone : (u : Unsure) → Matches s n d.table u → CanTake n d.table u →
      (settlement n d.table s.image u).answer ≢ settled.Present → IsThere (settlement n d.table s.image u).noted name →
      IsThere n name
  left_alone u m take other there = (laws.preserves s n d.table u m take rule other).0.fewer name there

  own_there : (at : Slot) (rec : Rec) → Matches s n d.table (unsure.Own at rec) → CanTakeOwn n d.table rec →
      (c : Contents) → slot_at s.image at.0 ≡ c → IsThere (settlement n d.table s.image (unsure.Own at rec)).noted name →
      IsThere n name ⊎ (name ≡ name_of rec)
  own_there at rec m take blank is there =
      inl (left_alone (unsure.Own at rec) m take (no_record n d.table s.image at rec blank is refl) there)
  own_there at rec m take damaged is there =
      inl (left_alone (unsure.Own at rec) m take (no_record n d.table s.image at rec damaged is refl) there)
  own_there at rec m take (complete bytes spare) is there =
      let same : settlement n d.table s.image (unsure.Own at rec)
      ≡ own_settled n d.table at.0 (λ m. programmed m at.0 rec) (complete bytes spare) =
      ap (own_settled n d.table at.0 (λ m. programmed m at.0 rec)) is in
      let noted = subst (λ q. IsNoted q n) rule m.noted in
      (notings.names n at.0 rec name noted
      (omega (arith, m.place.0.within, ap slots_of m.blocks, ap slots_of m.shape)) m.place.1).0
      (subst (λ (f : Settlement). IsThere f.noted name) same there)

  there_in : (u : Unsure) → Matches s n d.table u → CanTake n d.table u →
      IsThere (settlement n d.table s.image u).noted name → IsThere n name ⊎ IsOwnName u name
  there_in unsure.Nothing m take there = inl (left_alone unsure.Nothing m take (λ e. cc) there)
  there_in (unsure.Own at rec) m take there = own_there at rec m take (slot_at s.image at.0) refl there
  there_in (unsure.Copy from to) m take there = inl (left_alone (unsure.Copy from to) m take (λ e. cc) there)
  there_in unsure.SpareErase m take there =
      inl (left_alone unsure.SpareErase m take (spare_other _ n d.table _ refl) there)
  there_in (unsure.VictimErase block) m take there =
      inl (left_alone (unsure.VictimErase block) m take (spare_other _ n d.table _ refl) there)

  in_image : (u : Unsure) → Matches s n d.table u → CanTake n d.table u →
      is_present (records_in p s.image) name ≡ true → IsThere n name ⊎ IsOwnName u name
  in_image u m take here =
      there_in u m take
      (ap (λ (l : List Found). is_present l name) (sym (laws.records s n d.table u m take rule)) ∙ here)

-- of all names from this place on
dropped : (P : Link → Type 0) (names : List Link) (k n : ℕ) → length names ≡ n →
    ((j : ℕ) → k ≤ j → j < n → P (get_or names j no_name)) → All P (drop k names)
dropped P names k n long each =
    All-from_get_or P (drop k names) no_name (λ i lt.
    let size = length-drop k names in
    subst P (sym (get_or-drop k names i no_name)) (each (k + i) (omega arith) (omega (arith, long, size, lt))))

-- the one name at this place
one_at : (names : List Link) (k : ℕ) → k < length names → take 1 (drop k names) ≡ get_or names k no_name ∷ []
one_at [] k lt = absurd (omega (arith, lt))
one_at (name ∷ names) zero lt = refl
one_at (name ∷ names) (suc k) lt = one_at names k (omega (arith, lt))

only_entry : (e f : Entry) (place : ℕ) → slice_get (e ∷ []) place ≡ Some f → e ≡ f
only_entry e f zero is = cc
only_entry e f (suc place) is = cc

only_naming : (x y : Naming) (place : ℕ) → slice_get (x ∷ []) place ≡ Some y → x ≡ y
only_naming x y zero is = cc
only_naming x y (suc place) is = cc

module _ {F : Type 0} (state : F → FlashState) (protocol : Protocol) (old prev new : DeviceState F)
    (ws : List PageWrite) (k : ℕ) (so_far : Turning state old prev ws k) (within : k < length ws)
    (was : HoldsAlways state protocol prev) (is : HoldsAlways state protocol new)
    (config : prev.config ≡ old.config) (machine : prev.machine ≡ writing old.machine.pages ws k)
    (stands : Stands state new) (laws : ImageIsSound protocol) (notings : NotingKeeps protocol)
    (fresh : StaysUnread state prev new ⊎ Preserves (settlement_of state prev).noted new.noted)
    (exits : Exits state prev new true) (mark : Mark)
    (after : new.machine.entries ≡ record { tag = 0; writes = ws; done = k; mark = mark } ∷ []) where
  abbrev names : List Link
  names = map (next_name old.noted) ws

  abbrev entry : Entry
  entry = record { tag = 0; writes = ws; done = k; mark = mark }

  long : length names ≡ length ws
  long = length-map ws (next_name old.noted)

  rule : old.config.protocol ≡ protocol
  rule = sym (ap (λ (c : Config). c.protocol) config) ∙ was.rule

  -- the record that was being written is the next one
  own_next : (at : Slot) (rec : Rec) →
      IsOwn (state new.flash).image new.noted new.machine.entries new.namings at rec →
      name_of rec ≡ get_or names k no_name
  own_next at rec own =
      let x = one_named state new stands entry after in
      let same : x.0.names ≡ names =
      same_names so_far.naming x.0 prev.namings new.namings so_far.namings x.1 exits.tables.names ∙ so_far.names in
      let its = only_entry entry own.entry own.place
      (subst (λ (es : List Entry). slice_get es own.place ≡ Some own.entry) after own.is_entry) in
      let naming = only_naming x.0 own.naming own.place
      (subst (λ (xs : List Naming). slice_get xs own.place ≡ Some own.naming) x.1 own.is_naming) in
      own.named ∙ ap (λ (y : Naming). name_at y own.entry.done) (sym naming)
      ∙ ap (λ (f : Entry). name_at x.0 f.done) (sym its)
      ∙ ap (λ (l : List Link). get_or l k no_name) same

  own_name : (u : Unsure) →
      DoubtsAs (state new.flash).image new.noted new.machine.entries new.namings u → (name : Link) →
      IsOwnName u name → name ≡ get_or names k no_name
  own_name unsure.Nothing doubt name own = absurd own
  own_name (unsure.Own at rec) doubt name own = own ∙ own_next at rec doubt
  own_name (unsure.Copy from to) doubt name own = absurd own
  own_name unsure.SpareErase doubt name own = absurd own
  own_name (unsure.VictimErase block) doubt name own = absurd own

  before : records_in old.config.protocol (state prev.flash).image
      ≡ found_in (settlement_of state prev).noted.notes
  before =
      subst (λ (q : Protocol). records_in q (state prev.flash).image ≡ found_in (settlement_of state prev).noted.notes)
      (sym rule)
      (laws.records (state prev.flash) prev.noted prev.table prev.unsure so_far.stands.matches
      (can_take state prev so_far.stands) (ap (λ (c : Config). c.protocol) was.its ∙ was.rule))

  distinct : (j : ℕ) → k < j → j < length ws → get_or names j no_name ≡ get_or names k no_name → ⊥
  distinct j low lt same =
      let its = opened_as state prev so_far.stands (entry_at ws k)
      so_far.naming (ap (λ (m : ArrayState). m.entries) machine) so_far.namings in
      let apart = subst (λ (l : List Link). AllPairs (λ a b. a.page ≢ b.page) l) so_far.names
      its.named.transaction.distinct in
      apart k j no_name low (omega (arith, long, lt)) (sym (ap (λ (a : Link). a.page) same))

  -- no other name is added
  adds_next : AddsNames old.config (moment_of (state prev.flash)) (get_or names k no_name ∷ [])
      (moment_of (state new.flash))
  adds_next name here = elim fresh [
    | inl unread ↦ inl (subst (λ (m : Moment). is_present (records_in old.config.protocol m.image) name ≡ true)
        unread.moment here)
    | inr kept ↦ elim (in_image state protocol laws notings new
        (ap (λ (c : Config). c.protocol) is.its ∙ is.rule) name new.unsure stands.matches
        (can_take state new stands)
        (subst (λ (q : Protocol). is_present (records_in q (state new.flash).image) name ≡ true) rule here)) [
          | inl there ↦ inl (ap (λ (l : List Found). is_present l name) before ∙ kept.fewer name there)
          | inr own ↦ inr (Contains-here (get_or names k no_name) [] name
              (sym (own_name new.unsure stands.doubt name own)))
        ]
  ]

  -- the records of the pages that follow it are not there
  absent_after : (j : ℕ) → k + 1 ≤ j → j < length ws →
      is_present (records_in old.config.protocol (state new.flash).image) (get_or names j no_name) ≡ false
  absent_after j low lt =
      let name = get_or names j no_name in
      elim (cases_Bool (is_present (records_in old.config.protocol (state new.flash).image) name)) [
        | inr gone ↦ gone
        | inl here ↦ elim (adds_next name here) [
          | inl there ↦ absurd (false≢true (sym (so_far.absent j (omega (arith, low)) lt) ∙ there))
          | inr own ↦ absurd (distinct j (omega (arith, low)) lt
              (sym (Contains-one (get_or names k no_name) name own)))
        ]
      ]

  pub writes_first : WritesFirst old.config names (moment_of (state old.flash)) (moment_of (state new.flash))
  writes_first = record {
    written = k;
    mid = moment_of (state prev.flash);
    turns = so_far.turns;
    due = dropped
        (λ name. is_present (records_in old.config.protocol (state prev.flash).image) name ≡ false) names k
        (length ws) long so_far.absent;
    moves = subst (λ (x : Shape). Moves x (moment_of (state prev.flash)) true (moment_of (state new.flash)))
        (was.shape ∙ ap shape_of config) exits.moves;
    next = subst
        (λ (l : List Link). AddsNames old.config (moment_of (state prev.flash)) l (moment_of (state new.flash)))
        (sym (one_at names k (omega (arith, long, within)))) adds_next;
    later = dropped
        (λ name. is_present (records_in old.config.protocol (state new.flash).image) name ≡ false) names (k + 1)
        (length ws) long absent_after;
  }
