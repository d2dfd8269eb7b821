-- The first record where there is none: a transaction of one page asks for it.
use Rattle.judged_records.proofs.Common.{◌≡◌, ℕ, ◌<◌, ◌≤◌, List, [], ◌∷◌, refl, sym, ap, subst, arith, Link, Rec, Scc, Found, name_of, is_present, found_in, IndexState, IsNextRecord}
use Rattle.std.proofs.lemmas.List.Elements.{All-from_recursion}
use Rattle.tx_types.specs.Limits.{max_version}
use Rattle.record_list.specs.Transaction.{IsAsked, IsBegun, InProgress, IsAskedAt}
use Rattle.record_list.specs.Changes.{NothingMustGo}

-- a record that links to itself, and counts itself
pub record IsAlone (logical : ℕ) (rec : Rec) : Type 0 where
  pub page : rec.page < logical
  pub low : 1 ≤ rec.version
  pub high : rec.version ≤ max_version
  pub own : rec.next ≡ name_of rec
  pub back : rec.back ≡ 0
  pub count : rec.count ≡ 1

module _ (logical : ℕ) (rec : Rec) (a : IsAlone logical rec) where
  alone_asked : (list : List Found) → IsAsked Scc list logical (name_of rec ∷ []) rec
  alone_asked list =
      All-from_recursion (IsAskedAt Scc list logical (name_of rec ∷ []) rec) ((name_of rec, name_of rec) ∷ [])
      ((λ same. (a.own, a.back, a.count)), tt)

  alone_begun : IsBegun Scc [] logical (name_of rec ∷ [])
  alone_begun = record {
    transaction = record {
      distinct = λ i j d less within. absurd (omega arith);
      in_range = All-from_recursion (λ (x : Link). (x.page < logical) × (1 ≤ x.version) ×
          (x.version ≤ max_version)) (name_of rec ∷ []) ((a.page, a.low, a.high), tt);
      few = omega arith;
    };
    asked = λ k d within. absurd (omega arith);
    others = λ k d within. absurd (omega arith);
  }

pub first_next : (n : IndexState) (rec : Rec) → n.config.protocol ≡ Scc → found_in n.notes ≡ [] →
    IsAlone n.config.logical rec → IsNextRecord n rec
first_next n rec rule empty a = record {
  names = name_of rec ∷ [];
  in_progress = subst (λ p. InProgress p (found_in n.notes) n.config.logical (name_of rec ∷ [])) (sym rule)
      (subst (λ l. InProgress Scc l n.config.logical (name_of rec ∷ [])) (sym empty) (record {
        begun = alone_begun n.config.logical rec a;
        absent = (0, name_of rec, omega arith, refl, refl);
      }));
  named = (0, omega arith, refl);
  fresh = ap (λ l. is_present l (name_of rec)) empty;
  asked = subst (λ p. IsAsked p (found_in n.notes) n.config.logical (name_of rec ∷ []) rec) (sym rule)
      (alone_asked n.config.logical rec a (found_in n.notes));
  clear = subst (λ l. NothingMustGo n.config.protocol l n.config.logical rec) (sym empty)
      (λ k d within. absurd (omega arith));
}
