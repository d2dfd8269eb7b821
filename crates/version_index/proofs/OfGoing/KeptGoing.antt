-- The lowest block that must go, by the tables.
use Rattle.version_index.proofs.Common.{◌≡◌, ℕ, ◌<◌, ◌/◌, ◌⊎◌, true, ◌↔◌, List, length, IsSome, Option, Some, None, refl, sym, ap, ◌∙◌, subst, inl, inr, arith, slice_get, option_map, false≢true, cases_Bool, cases_lt, none-some, same_Some, get_or_past, All-contains, cases_Option, Rec, Config, Protocol, Scc, Bpcc, name_of, same_name, TablesState, IsTablesState, use_at, holds, copies_of, number_at, numbers_at, found_in, block_to_go, waits_of, is_waiting, rec_at, Goes, notes_in, noted_by, numbered_of, AreIndexed}
use Rattle.std.proofs.Common.{IsSomeAnd}
use Rattle.record_list.specs.Current.{is_loose}
use Rattle.slot_tables.specs.declared.slots.SlotUse.TheVariants as slot
use Rattle.judged_records.specs.Derived.{IsNewestUncommitted, WaitsBelow, loose_of, goes_of}
use Rattle.judged_records.proofs.OfReadings.Firsts.{head_find, first_passed, none_passed}
use Rattle.judged_records.proofs.OfNotes.FoundIn.{found}
use Rattle.judged_records.proofs.OfReadings.LowestSlots.{lowest_to_go, none_to_go}
use Rattle.judged_records.proofs.OfReadings.NumberedReadings.{waiting_number}
use Rattle.judged_records.proofs.OfReadings.Readings.{going_reading, none_goes}
use Rattle.version_index.specs.Going.{IsLowestIn}
use Rattle.version_index.proofs.OfReadings.KeptHomes.{holds_use, use_holds}
use Rattle.version_index.proofs.OfTables.KeptNotes.{note_held, held_number, kept_found, numbering}
use Rattle.version_index.proofs.OfCommit.Newest.{newest_number, no_number}

pub use_within : (k : TablesState) (at x : ℕ) → use_at k.slots at ≡ slot.Holds x → at < length k.slots
use_within k at x e = elim (cases_lt at (length k.slots)) [
  | inl within ↦ within
  | inr past ↦ (let other : slot.Blank ≡ slot.Holds x = sym (get_or_past k.slots at slot.Blank past) ∙ e in absurd cc)
]

-- the lowest copy of a number that is such, where no other is
pub lowest_copy : (k : TablesState) (Such : ℕ → Type 0) (x : ℕ) → Such x → ((y : ℕ) → Such y → y ≡ x) →
    IsLowestIn k Such (slice_get (copies_of k.slots x) 0)
unfolding copies_of
lowest_copy k Such x such only = of_head (slice_get (copies_of k.slots x) 0) refl
  where
    of_head : (o : Option ℕ) → slice_get (copies_of k.slots x) 0 ≡ o → IsLowestIn k Such o
    of_head None e = λ at y here is.
        let same = only y is in
        let none = none_passed (λ j. holds x (use_at k.slots j)) (λ _. true) (length k.slots)
        (sym (head_find (copies_of k.slots x)) ∙ e) at
        (use_within k at y here) (use_holds x (use_at k.slots at) (here ∙ ap slot.Holds same)) in
        false≢true (sym none)
    of_head (Some at) e =
        let first = first_passed (λ j. holds x (use_at k.slots j)) (λ _. true) 0 (length k.slots) at
        (sym (head_find (copies_of k.slots x)) ∙ e) in
        record {
          number = x;
          holds = holds_use x (use_at k.slots at) first.one;
          such = such;
          lowest = λ other y here is. first.least other (omega arith)
              (use_holds x (use_at k.slots other) (here ∙ ap slot.Holds (only y is))) refl;
        }

-- what a test of a record says is what it says of the record that there is
some_and : (o : Option Rec) (P : Rec → Type 0) (r : Rec) → o ≡ Some r → IsSomeAnd o P → P r
some_and None P r e h = absurd (none-some r e)
some_and (Some s) P r e h = subst P (same_Some s r e) h

and_some : (o : Option Rec) (P : Rec → Type 0) (r : Rec) → o ≡ Some r → P r → IsSomeAnd o P
and_some o P r e h = subst (λ q. IsSomeAnd q P) (sym e) h

module _ (protocol : Protocol) (its : Config) (m : List ℕ) (k : TablesState) (i : AreIndexed protocol its m k)
    (kept' : IsTablesState k)
    (scc : its.protocol ≡ Scc) (page below : ℕ) where
  waits_loose : (r : Rec) → waits_of (noted_by its m k) r ≡ loose_of (noted_by its m k) r
  unfolding waits_of loose_of
  waits_loose r =
      let l = found_in (notes_in k) in
      ap (λ p. is_waiting p l its.logical r) scc ∙ ap (λ p. is_loose p l its.logical r) (sym scc)

  -- a number goes where its record does
  pub number_goes : (x : ℕ) (r : Rec) → rec_at k.records x ≡ Some r → Goes k page below x →
      goes_of (noted_by its m k) page below r ≡ true
  number_goes x r is goes =
      let n = noted_by its m k in
      let f = kept_found k i.held x r is in
      let reading = All-contains (λ f. (goes_of n page below f.rec ≡ true)
      ↔ (IsNewestUncommitted n page below f.rec ⊎ WaitsBelow n page below f.rec))
      (found_in n.notes) (found f.0 r) (going_reading protocol n i.noted scc page below) f.2 in
      let waiting = λ (to : ℕ). waiting_number protocol n i.noted (numbered_of k)
      (numbering protocol its m k i) x r is to in
      reading.1 (elim goes [
        | inl top ↦ (
            let newest = newest_number k i.held kept'.versions page x top.0 in
            let same : newest.rec ≡ r = same_Some newest.rec r (sym newest.is ∙ is) in
            elim (cases_Option (number_at k.waits x)) [
              | inl none ↦ absurd (false≢true (subst IsSome none top.1.0))
              | inr some ↦ inl (record {
                own_page = ap (λ (s : Rec). s.page) (sym same) ∙ newest.own_page;
                top = newest.top ∙ ap (λ (s : Rec). s.version) same;
                loose = sym (waits_loose r) ∙ ((waiting some.0).0 some.1).0;
                low = some_and (rec_at k.records x) (λ s. s.version < below) r is top.1.1;
              })
            ])
        | inr link ↦ (
            let both = (waiting page).0 link.0 in
            inr (record {
              waits = both.0;
              next_page = both.1;
              low = some_and (rec_at k.records x) (λ s. s.next.version < below) r is link.1;
            }))
      ])

  pub goes_number : (x : ℕ) (r : Rec) → rec_at k.records x ≡ Some r → goes_of (noted_by its m k) page below r ≡ true →
      Goes k page below x
  goes_number x r is goes =
      let n = noted_by its m k in
      let f = kept_found k i.held x r is in
      let reading = All-contains (λ f. (goes_of n page below f.rec ≡ true)
      ↔ (IsNewestUncommitted n page below f.rec ⊎ WaitsBelow n page below f.rec))
      (found_in n.notes) (found f.0 r) (going_reading protocol n i.noted scc page below) f.2 in
      let waiting = λ (to : ℕ). waiting_number protocol n i.noted (numbered_of k)
      (numbering protocol its m k i) x r is to in
      elim (reading.0 goes) [
        | inl top ↦ (
            let waits = (waiting r.next.page).1 (waits_loose r ∙ top.loose, refl) in
            let some = subst IsSome (sym waits) refl in
            elim (cases_Option (slice_get (numbers_at k.pages page) 0)) [
              | inl none ↦ absurd (no_number k kept'.versions page none x r is top.own_page)
              | inr head ↦ (
                  let newest = newest_number k i.held kept'.versions page head.0 head.1 in
                  let name = same_name (name_of newest.rec) (name_of r) (newest.own_page ∙ sym top.own_page)
                  (sym newest.top ∙ top.top) in
                  let same = i.held.once head.0 x newest.rec r newest.is is name in
                  inl (
                    head.1 ∙ ap Some same,
                    (some, and_some (rec_at k.records x) (λ s. s.version < below) r is top.low),
                  ))
            ])
        | inr link ↦ inr (
          (waiting page).1 (link.waits, link.next_page),
          and_some (rec_at k.records x) (λ s. s.next.version < below) r is link.low,
        )
      ]

  -- the block of the lowest slot of such a number
  pub read_to_go : (o : Option ℕ) → IsLowestIn k (Goes k page below) o →
      option_map (λ at. at / its.pages_per_block) o ≡ block_to_go (noted_by its m k) page below
  read_to_go None none = sym (none_to_go (noted_by its m k) page below
      (λ at r here. elim (cases_Bool (goes_of (noted_by its m k) page below r)) [
        | inl goes ↦ (let x = held_number k at r here in
            absurd (none at x.number x.holds (goes_number x.number r x.is goes)))
        | inr stays ↦ stays
      ]))
  read_to_go (Some at) lowest =
      let r = i.held.held at lowest.number lowest.holds in
      sym (lowest_to_go (noted_by its m k) page below at (record {
        rec = r.0;
        holds = note_held k at lowest.number r.0 lowest.holds r.1;
        passes = number_goes lowest.number r.0 r.1 lowest.such;
        least = λ j s here goes. (let x = held_number k j s here in
            lowest.lowest j x.number x.holds (goes_number x.number s x.is goes));
      }))

-- and under Back Pointer Cyclic Commit there is none
module _ (protocol : Protocol) (its : Config) (m : List ℕ) (k : TablesState) (i : AreIndexed protocol its m k)
    (kept' : IsTablesState k)
    (page below : ℕ) where
  pub read_going : (o : Option ℕ) → (its.protocol ≡ Scc → IsLowestIn k (Goes k page below) o) →
      (its.protocol ≡ Bpcc → o ≡ None) →
      option_map (λ at. at / its.pages_per_block) o ≡ block_to_go (noted_by its m k) page below
  read_going o scc bpcc = of_protocol its.protocol refl
    where
      of_protocol : (p : Protocol) → its.protocol ≡ p → option_map (λ at. at / its.pages_per_block) o
          ≡ block_to_go (noted_by its m k) page below
      of_protocol Scc e = read_to_go protocol its m k i kept' e page below o (scc e)
      of_protocol Bpcc e =
          let n = noted_by its m k in
          ap (option_map (λ at. at / its.pages_per_block)) (bpcc e)
          ∙ sym (none_to_go n page below (λ at r here. none_goes protocol n i.noted e page below r))
