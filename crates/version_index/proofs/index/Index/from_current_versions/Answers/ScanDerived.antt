-- Tables that are filled with the records of a scan have what is derived from the notes.
use Rattle.version_index.proofs.Common.{◌≡◌, ℕ, ◌<◌, true, List, length, get_or, Bool, cond, Option, Some, None, refl, sym, ap, ◌∙◌, subst, inl, inr, arith, position, option_map, Contains-get_or, IsPermutation-sym, Contains-permutation, none-some, same_Some, cases_Option, Config, Protocol, Scc, Bpcc, Link, Rec, shape_of, Found, name_of, has_name, is_present, nothing, cur, has_name_true, Sorts, TablesState, record_at, number_at, derived_by, number_by, AreFilled, name_at, answerer, is_waiting, answerer_of, waits_of, derived_of, found_in, IsNoted, current_of, AreDerived, named, awaited, notes_in, noted_by, numbered_of, AreHeld, AreIndexed}
use Rattle.list_lemmas.proofs.Positions.{position_some}
use Rattle.list_lemmas.proofs.Tests.{find-position, find_stands}
use Rattle.record_list.specs.Records as records
use Rattle.record_list.proofs.OfFacts.Names.{present_as}
use Rattle.sorted_records.proofs.OfSort.Alike.{cur_alike, responsible_alike, present_alike}
use Rattle.slot_tables.specs.declared.slots.SlotUse.TheVariants as slot
use Rattle.judged_records.proofs.OfNotes.FoundIn.{noted_from}
use Rattle.judged_records.proofs.OfNotes.Derived.{name_at_is, answerer_held}
use Rattle.judged_records.proofs.OfNotes.NotedFacts.{noted_present}
use Rattle.version_index.proofs.OfTables.KeptNotes.{held_number}
use Rattle.version_index.proofs.OfOpening.ScanSlots.{not_missing}

module _ (protocol : Protocol) (its : Config) (m : List ℕ) (t : TablesState) (list : List Found)
    (noted : IsNoted protocol (noted_by its m t)) (sorts : Sorts (found_in (notes_in t)) list)
    (h : AreFilled its.protocol list (shape_of its) its.logical t) where
  abbrev l : List Found
  l = found_in (notes_in t)

  -- a number's record is at a place
  placed_record : (x : ℕ) (r : Rec) → record_at t.records x ≡ Some r →
      (j : ℕ) × (j < length list) × (get_or h.numbers j 0 ≡ x) × (records.record_at list j ≡ r)
  placed_record x r is =
      let j = h.numbered.some x r is in
      let whole = h.whole in
      let low = j.1 in (
        j.0,
        omega arith,
        j.2,
        same_Some (records.record_at list j.0) r (sym (h.numbered.each j.0 j.1)
            ∙ ap (record_at t.records) j.2 ∙ is),
      )

  place_record : (j : ℕ) → j < length list → record_at t.records (get_or h.numbers j 0)
      ≡ Some (records.record_at list j)
  place_record j low = let whole = h.whole in h.numbered.each j (omega arith)

  filled_held : AreHeld t
  filled_held = record {
    held = λ at x e. (
        let j = h.placed at x e in
        (records.record_at list j.0, ap (record_at t.records) (sym j.2) ∙ place_record j.0 j.1));
    used = λ x r is. (
        let j = placed_record x r is in
        let f = get_or list j.0 nothing in
        let in_l = Contains-permutation list l f (IsPermutation-sym l list sorts.records)
        (Contains-get_or list j.0 nothing j.1) in
        let y = held_number t f.slot.0 f.rec (noted_from (notes_in t) f in_l).1 in
        let same = h.numbered.once y.number x f.rec r y.is is (ap name_of j.3) in
        (f.slot.0, y.holds ∙ ap slot.Holds same));
    once = h.numbered.once;
    unused = λ x none. h.others x (λ j low e. none-some (records.record_at list j)
        (sym none ∙ ap (record_at t.records) (sym e) ∙ place_record j low));
  }

  -- what stands for a name that is present
  named_by : (name : Option Link) → ((u : Link) → name ≡ Some u → is_present list u ≡ true) →
      named t.records (number_by list h.numbers name) ≡ option_map Some name
  named_by None present = refl
  named_by (Some u) present = elim (cases_Option (position (λ f. has_name u f.rec) list)) [
    | inl none ↦ absurd (missing u (present u refl) none)
    | inr some ↦ (
        let p : Found → Bool = λ f. has_name u f.rec in
        let within = position_some p list some.0 some.1 in
        let stands = find_stands p list (get_or list some.0 nothing) (find-position p list some.0 nothing some.1) in
        let name = has_name_true u (records.record_at list some.0) stands.1 in
        ap (λ o. named t.records (option_map (λ place. get_or h.numbers place 0) o)) some.1
        ∙ ap (λ o. Some (option_map name_of o)) (place_record some.0 within.1) ∙ ap (λ v. Some (Some v)) name)
  ]
    where
      missing : (u : Link) → is_present list u ≡ true → position (λ f. has_name u f.rec) list ≡ None → ⊥
      missing u here none = not_missing list (record nothing.rec { page = u.page; version = u.version }) here none

  -- each answerer and each page that is awaited are those of what was noted
  same_answerer : (r : Rec) → answerer its.protocol list its.logical r ≡ answerer_of (noted_by its m t) r
  unfolding answerer_of
  same_answerer r = by_protocol its.protocol
    where
      by_protocol : (p : Protocol) → answerer p list its.logical r ≡ answerer p l its.logical r
      by_protocol Scc = refl
      by_protocol Bpcc = rw (
        cur_alike l list sorts Bpcc its.logical r.page,
        responsible_alike l list sorts Bpcc its.logical r.next,
      ) refl

  same_waits : (r : Rec) → is_waiting its.protocol list its.logical r ≡ waits_of (noted_by its m t) r
  unfolding waits_of
  same_waits r = by_protocol its.protocol
    where
      by_protocol : (p : Protocol) → is_waiting p list its.logical r ≡ is_waiting p l its.logical r
      by_protocol Scc = rw (cur_alike l list sorts Scc its.logical r.page) refl
      by_protocol Bpcc = rw (
        cur_alike l list sorts Bpcc its.logical r.page,
        cur_alike l list sorts Bpcc its.logical r.next.page,
      ) refl

  same_current : (page : ℕ) → cur its.protocol list its.logical page ≡ current_of (noted_by its m t) page
  unfolding current_of
  same_current page = cur_alike l list sorts its.protocol its.logical page

  filled_derived : AreDerived (numbered_of t) its.logical (derived_of (noted_by its m t))
  filled_derived =
      let n = noted_by its m t in
      record {
        current = λ page low. (
            let name = name_at page (cur its.protocol list its.logical page) in
            let version = same_current page in
            ap (named t.records) (h.current page low)
            ∙ named_by name (λ u e. (
            let is = name_at_is page (cur its.protocol list its.logical page) u e in
            present_alike l list sorts u ∙ (elim (noted_present protocol n noted page) [
              | inl none ↦ (let some = is.0 in absurd (omega arith))
              | inr here ↦ subst (λ v. is_present l v ≡ true)
                  (ap (λ v. record { page = page; version = v }) (sym version) ∙ sym is.1) here
            ])))
            ∙ ap (λ v. option_map Some (name_at page v)) version);
        answerers = λ x r is. (
            let j = placed_record x r is in
            let f = get_or list j.0 nothing in
            let own = ap (answerer its.protocol list its.logical) j.3 in
            ap (λ y. named t.records (number_at t.answerers y)) (sym j.2) ∙ ap (named t.records) (h.done j.0 j.1).0
            ∙ named_by (answerer its.protocol list its.logical f.rec) (λ u e. (
            let a = answerer_held its.protocol list its.logical f u (Contains-get_or list j.0 nothing j.1) e in
            present_as list a.at u a.is_in a.its_name))
            ∙ ap (option_map Some) (own ∙ same_answerer r));
        waits = λ x r is. (
            let j = placed_record x r is in
            ap (number_at t.waits) (sym j.2) ∙ (h.done j.0 j.1).1
            ∙ ap (awaited (derived_by its.protocol list its.logical)) j.3
            ∙ ap (λ b. cond b (Some r.next.page) None) (same_waits r));
      }

  -- the tables have what was noted
  pub filled_indexed : AreIndexed protocol its m t
  filled_indexed = record {
    noted = noted;
    shape = h.shape;
    pages = h.pages;
    held = filled_held;
    judged = filled_derived;
  }
