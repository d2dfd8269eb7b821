-- A name that is written next stays one where what is preserved stays.
use Rattle.collector.proofs.Common.{◌≡◌, ℕ, ◌<◌, ◌≤◌, Bool, true, false, List, length, Some, None, All, Contains, sym, ap, ◌∙◌, subst, inl, inr, arith, both_ways, cases_Bool, none-some, same_Some, All-contains, all_from, Config, Link, is_present, InProgress, found_in, IndexState, pinned_names, IsNextName, IsPinBeside, Preserves}
use Rattle.std.specs.Prelude.{if◌then◌else◌}
use Rattle.judged_records.proofs.OfNotes.BaseTables.{given_from}
use Rattle.judged_records.proofs.OfChanges.Pins.{numbered_pin}

its_page : (page version : ℕ) (name : Link) (b : Bool) →
    (if b then None else Some (record { page = page; version = version })) ≡ Some name → name.page ≡ page
its_page page version name true e = absurd (none-some name e)
its_page page version name false e = ap (λ (y : Link). y.page)
    (sym (same_Some (record { page = page; version = version }) name e))

-- a pinned name is of a page of the pins
pub pinned_page : (pins : List ℕ) (name : Link) → Contains (pinned_names pins) name → name.page < length pins
pinned_page pins name i =
    let h = given_from numbered_pin 0 pins name i in
    let page = its_page _ _ name _ (h.from 0) in
    let within = h.within in
    omega arith

module _ (n n' : IndexState) (names : List Link) (kept : Preserves n n') where
  -- a transaction in progress stays
  in_progress_stays : (others : List Link) → InProgress n.config.protocol (found_in n.notes) n.config.logical others →
      InProgress n'.config.protocol (found_in n'.notes) n'.config.logical others
  in_progress_stays others h = subst (λ (c : Config). InProgress c.protocol (found_in n'.notes) c.logical others)
      (sym kept.config) (kept.in_progress others h)

  beside_stays : (name : Link) → name.page < n.config.logical → IsPinBeside n names name → IsPinBeside n' names name
  beside_stays name within beside = elim beside [
    | inl current ↦ inl (kept.current name.page within ∙ current)
    | inr (inl own) ↦ inr (inl own)
    | inr (inr other) ↦ inr (inr (record {
      others = other.others;
      in_progress = in_progress_stays other.others other.in_progress;
      apart = other.apart;
      named = other.named;
    }))
  ]

  absent_stays : (name : Link) → is_present (found_in n.notes) name ≡ false →
      is_present (found_in n'.notes) name ≡ false
  absent_stays name absent = elim (cases_Bool (is_present (found_in n'.notes) name)) [
    | inl there ↦ absurd (both_ways (is_present (found_in n.notes) name) absent (kept.fewer name there))
    | inr gone ↦ gone
  ]

pub next_stays : (n n' : IndexState) (names : List Link) (name : Link) → length n.pins ≡ n.config.logical →
    Preserves n n' → IsNextName n names name →
    IsNextName n' names name
next_stays n n' names name pages kept h = record {
  in_progress = in_progress_stays n n' names kept names h.in_progress;
  named = h.named;
  absent = absent_stays n n' names kept name h.absent;
  pinned = subst (λ l. All (λ own. Contains (pinned_names l) own) names) (sym kept.pins) h.pinned;
  beside = subst (λ l. All (IsPinBeside n' names) (pinned_names l)) (sym kept.pins)
      (all_from (IsPinBeside n' names) (pinned_names n.pins) (λ pin i.
      let page = pinned_page n.pins pin i in
      beside_stays n n' names kept pin (omega (arith, page))
      (All-contains (IsPinBeside n names) (pinned_names n.pins) pin h.beside i)));
  few = subst (λ l. length (pinned_names l) ≤ n'.config.pending) (sym kept.pins)
      (subst (λ (c : Config). length (pinned_names n.pins) ≤ c.pending) (sym kept.config) h.few);
}
