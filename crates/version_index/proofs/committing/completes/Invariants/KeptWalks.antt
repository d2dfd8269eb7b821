-- The walk over the numbers that finds whether a record completes its cycle.
use Rattle.version_index.proofs.Common.{◌≡◌, ℕ, suc, ◌+◌, ◌-◌, ◌<◌, ◌≤◌, true, false, eqb, List, length, Option, Some, None, sym, ap, ◌∙◌, inl, inr, arith, eq-eqb, false≢true, cond-true, and_from, All-contains, none-some, same_Some, cases_Option, Config, Protocol, Link, Rec, name_of, has_name, has_name_true, TablesState, IsTablesState, record_at, LinksExist, newest_at, newest_with_name, comes_back, completes, found_in, notes_in, noted_by}
use Rattle.std.proofs.Common.{option_and_then}
use Rattle.judged_records.proofs.OfCommit.Closing.{back_stops}
use Rattle.judged_records.proofs.OfNotes.FoundIn.{found}
use Rattle.version_index.specs.Committing.{with_version, MayComplete}
use Rattle.version_index.proofs.OfTables.KeptNotes.{kept_found, kept_noted}
use Rattle.version_index.proofs.OfCommit.KeptRounds.{named_rec}
use Rattle.version_index.proofs.OfCommit.Newest.{newest_number, no_newest}
use Rattle.version_index.proofs.committing.completes.Invariants.WalkSteps.{LeadsTo, walk_closes, walk_goes}

-- what is still to be looked at says whether the record completes its cycle
pub record IsWalking (k : TablesState) (r : Rec) (logical n : ℕ) (link : Link) : Type 0 where
  pub page : link.page < length k.pages
  pub rest :
      (protocol : Protocol) (its : Config) (m : List ℕ) → MayComplete protocol its m k r → its.logical ≡ logical →
      (1 ≤ link.version)
      × (comes_back (found_in (notes_in k)) (name_of r) (logical - n) link ≡ completes (noted_by its m k) r)

-- the link of a record of the tables has a version
link_some : (protocol : Protocol) (its : Config) (m : List ℕ) (k : TablesState) (r s : Rec) (x : ℕ) →
    MayComplete protocol its m k r →
    record_at k.records x ≡ Some s → 1 ≤ s.next.version
link_some protocol its m k r s x may is =
    let f = kept_found k may.held x s is in
    (All-contains (λ g. (1 ≤ g.rec.version) × (1 ≤ g.rec.next.version)) (found_in (notes_in k)) (found f.0 s)
    may.noted.scanned.versions f.2).1

pub start_walk : (k : TablesState) (r : Rec) (logical : ℕ) → r.next.page < length k.pages →
    IsWalking k r logical 0 r.next
unfolding completes
start_walk k r logical page = record {
  page = page;
  rest = λ protocol its m may same. (
    link_some protocol its m k r r may.own.0 may may.own.1,
    ap (λ turns. comes_back (found_in (notes_in k)) (name_of r) turns r.next) (omega arith),
  );
}

module _ (k : TablesState) (sizes : IsTablesState k) (r : Rec) (logical n : ℕ) (link : Link)
    (h : IsWalking k r logical n link) (below : n < logical)
    (protocol : Protocol) (its : Config) (m : List ℕ) (may : MayComplete protocol its m k r)
    (same : its.logical ≡ logical) where
  one_turn : comes_back (found_in (notes_in k)) (name_of r) (suc (logical - (n + 1))) link
      ≡ completes (noted_by its m k) r
  one_turn =
      ap (λ turns. comes_back (found_in (notes_in k)) (name_of r) turns link)
      (let more : suc (logical - (n + 1)) ≡ logical - n = omega arith in more)
      ∙ (h.rest protocol its m may same).1

  pub walk_stops : newest_with_name k link ≡ None → false ≡ completes (noted_by its m k) r
  walk_stops none =
      let l = found_in (notes_in k) in
      let some = (h.rest protocol its m may same).0 in
      sym (back_stops l (name_of r) (logical - (n + 1)) link (λ top. elim (cases_Option (newest_at k link.page)) [
        | inl bare ↦ (let zero' = no_newest k may.held sizes.versions link.page bare in absurd (omega arith))
        | inr x ↦ (
            let head = newest_number k may.held sizes.versions link.page x.0 x.1 in
            let second : Option Rec → Option Rec = option_and_then (with_version link.version) in
            let version : head.rec.version ≡ link.version = sym head.top ∙ top in
            let is = ap (option_and_then (λ y. second (record_at k.records y))) x.1 ∙ ap second head.is
            ∙ cond-true (eqb head.rec.version link.version) (Some head.rec) None
            (eq-eqb head.rec.version link.version version) in
            absurd (none-some head.rec (sym none ∙ is)))
      ])) ∙ one_turn

  module _ (s : Rec) (is : newest_with_name k link ≡ Some s) where
    its_step : ((name_of s ≡ name_of r) → comes_back (found_in (notes_in k)) (name_of r) (suc (logical - (n + 1))) link
        ≡ true)
        × ((name_of s ≡ name_of r → ⊥) → comes_back (found_in (notes_in k)) (name_of r) (suc (logical - (n + 1))) link
        ≡ comes_back (found_in (notes_in k)) (name_of r) (logical - (n + 1)) s.next)
    its_step =
        let noted = noted_by its m k in
        let x = named_rec k link s is in
        let head = newest_number k may.held sizes.versions link.page x.number x.newest in
        let one : head.rec ≡ s = same_Some head.rec s (sym head.is ∙ x.is) in
        let leads : LeadsTo noted link s = record {
          noted = kept_noted k may.held x.number s x.is;
          page = ap (λ (u : Rec). u.page) (sym one) ∙ head.own_page;
          version = x.version;
          top = head.top ∙ ap (λ (u : Rec). u.version) one;
        } in (
          walk_closes protocol noted may.noted r s link (logical - (n + 1)) leads,
          walk_goes protocol noted may.noted r s link (logical - (n + 1)) leads,
        )

    pub walk_comes : has_name (name_of r) s ≡ true → true ≡ completes (noted_by its m k) r
    walk_comes same_name = sym (its_step.0 (has_name_true (name_of r) s same_name)) ∙ one_turn

    pub walk_on : has_name (name_of r) s ≡ false → (1 ≤ s.next.version)
        × (comes_back (found_in (notes_in k)) (name_of r) (logical - (n + 1)) s.next ≡ completes (noted_by its m k) r)
    walk_on other =
        let x = named_rec k link s is in (
          link_some protocol its m k r s x.number may x.is,
          sym (its_step.1 (λ e. false≢true (sym other ∙ and_from (eqb s.page r.page) (eqb s.version r.version)
              (eq-eqb s.page r.page (ap (λ u. u.page) e)) (eq-eqb s.version r.version (ap (λ u. u.version) e)))))
              ∙ one_turn,
        )

pub walk_more : (k : TablesState) → IsTablesState k → LinksExist k → (r : Rec) (logical n : ℕ) (link : Link) →
    IsWalking k r logical n link → n < logical →
    (s : Rec) → newest_with_name k link ≡ Some s → has_name (name_of r) s ≡ false → IsWalking k r logical (n + 1) s.next
walk_more k sizes links r logical n link h below s is other = record {
  page = (let x = named_rec k link s is in links x.number s x.is);
  rest = λ protocol its m may same. walk_on k sizes r logical n link h below protocol its m may same s is other;
}

-- with no turn left it does not
pub walk_ends : (k : TablesState) (r : Rec) (logical n : ℕ) (link : Link) → IsWalking k r logical n link → logical ≤ n →
    (protocol : Protocol) (its : Config) (m : List ℕ) → MayComplete protocol its m k r → its.logical ≡ logical →
    false ≡ completes (noted_by its m k) r
walk_ends k r logical n link h past protocol its m may same =
    ap (λ turns. comes_back (found_in (notes_in k)) (name_of r) turns link)
    (let none : 0 ≡ logical - n = omega arith in none)
    ∙ (h.rest protocol its m may same).1
