-- What the definitions say of the lists of a few records, by computation.
use Rattle.record_list.proofs.Common.{◌≡◌, ◌≢◌, ◌⊎◌, ℕ, zero, suc, ◌<◌, ◌≤◌, true, false, ◌&&◌, eqb, List, [], ◌∷◌, zip, All, Contains, inl, inr, refl, sym, ap, ◌∙◌, arith, false≢true, Link, Scc, Bpcc, Found, mention_at, name_of, is_present, nothing, IsScanned, IsCurrent, must_go, is_held, follow, next_names, IsAskedAt, IsAsked, InProgress, left, KeepsCounted, is_outside}
use Rattle.std.proofs.Common.{◌==◌, not}
use Rattle.std.proofs.lemmas.List.Elements.{All-nil, All-cons, All-from_recursion}
use Rattle.std.proofs.lemmas.List.Kept.{AllPairs-cons}
use Rattle.tx_types.specs.Limits.{max_version}
use Rattle.record_list.specs.SoundList.{LooseIsShown, LooseEnds}
use Rattle.record_list.specs.Transaction.{IsTransaction}
use Rattle.record_list.proofs.OfLosses.LossCurrent.{left_scanned}
use Rattle.record_list.specs.Examples.{name, found, shape, StraddledVerdict, StraddledIsHeld, NamesakeIsHeld, CopiedHome, unanswered, UnansweredBreaks, misled}
use Rattle.record_list.specs.Examples.{MisledBreaks, closed, ClosedBreaks, TwiceMentioned, of_two, begun, first_alone, CopyMayGo, pair, second, without_first}
use Rattle.record_list.specs.Examples.{ended, AskedAfterLoss, WholeOrAbsent, overtaken, first_and_last, TornWithoutCurrent}

pub straddled_verdict : StraddledVerdict
straddled_verdict = (refl, refl, refl, refl, refl)

pub straddled_is_held : StraddledIsHeld
straddled_is_held = (refl, refl, refl, refl, refl, refl)

pub namesake_is_held : NamesakeIsHeld
namesake_is_held = (refl, refl, refl)

pub copied_home : CopiedHome
copied_home = (refl, refl, refl, refl)

unanswered_unshown : LooseIsShown Bpcc unanswered 3 (found 0 0 1 1 2 0) → ⊥
unfolding LooseIsShown
unanswered_unshown shown = (shown (omega arith)).2 (omega arith) refl

pub unanswered_breaks : UnansweredBreaks
unanswered_breaks = (unanswered_unshown, refl, refl)

misled_unshown : LooseIsShown Bpcc misled 20 (found 1 0 3 1 5 2) → ⊥
unfolding LooseIsShown
misled_unshown shown = let loose : 1 < 3 = omega arith in false≢true (sym (ap (λ n. eqb n 2) (shown loose).0))

pub misled_breaks : MisledBreaks
misled_breaks = (refl, misled_unshown)

closed_follow : (n : ℕ) → is_present closed (follow closed (name 0 2) n) ≡ true
closed_follow zero = refl
closed_follow (suc n) = closed_follow n

closed_endless : LooseEnds Bpcc closed 20 (found 1 0 2 0 2 1) → ⊥
unfolding LooseEnds
closed_endless ends = let (n, absent) = ends (omega arith) in false≢true (sym absent ∙ closed_follow n)

open_ends : LooseEnds Bpcc closed 20 (found 2 0 3 1 9 1)
unfolding LooseEnds
open_ends loose = (0, refl)

pub closed_breaks : ClosedBreaks
closed_breaks = (closed_endless, open_ends)

pub twice_mentioned : TwiceMentioned
twice_mentioned = refl

-- a record that has a slot elsewhere, or does not count
counted_begun : KeepsCounted Scc begun 3 (λ slot. first_alone slot && is_outside shape 1 slot)
counted_begun =
    All-from_recursion (λ f. IsCurrent Scc begun 3 f.rec ⊎ (is_held Scc begun 3 f.rec ≡ true) →
    is_present (left (λ slot. first_alone slot && is_outside shape 1 slot) begun) (name_of f.rec) ≡ true) begun
    (λ h. refl, (λ h. refl, (uncounted, tt)))
  where
    uncounted : (◌≡◌ {A = ℕ} 1 0) ⊎ (false ≡ true) → false ≡ true
    uncounted (inl current) = absurd (omega arith)
    uncounted (inr held) = held

lost_with_copy : KeepsCounted Scc begun 3 (λ slot. slot == 5) → ⊥
lost_with_copy counted = false≢true (counted 0 nothing (omega arith) (inl refl))

pub copy_may_go : CopyMayGo
copy_may_go = (record { block = 1; exists = omega arith; counted = counted_begun }, refl, refl, lost_with_copy)

pub whole_or_absent : WholeOrAbsent
whole_or_absent = (refl, refl, refl, refl, refl, refl, refl, refl)

torn_counted : KeepsCounted Scc overtaken 3 first_and_last → ⊥
torn_counted counted = false≢true (counted 2 nothing (omega arith) (inl refl))

pub torn_without_current : TornWithoutCurrent
torn_without_current = (refl, refl, refl, refl, refl, torn_counted)

-- the transaction, in any list of the records of page 0 and its first record
pair_transaction : IsTransaction 3 pair
pair_transaction = record {
  distinct = AllPairs-cons (λ a b. a.page ≢ b.page) (name 1 1) (name 2 1 ∷ [])
      (All-from_recursion (λ b. 1 ≢ b.page) (name 2 1 ∷ []) (omega arith, tt))
      (AllPairs-cons (λ a b. a.page ≢ b.page) (name 2 1) [] (All-nil (λ b. 2 ≢ b.page))
      (λ i j d less within. absurd (omega arith)));
  in_range = All-from_recursion (λ a. (a.page < 3) × (1 ≤ a.version) × (a.version ≤ max_version)) pair
      ((omega arith, omega arith, omega arith), ((omega arith, omega arith, omega arith), tt));
  few = omega arith;
}

-- the pages of the two records are not page 0, and not one page
not_zero : {n : ℕ} → name 0 1 ≡ name (suc n) 1 → ⊥
not_zero e = let same = ap (λ (u : Link). u.page) e in absurd (omega arith)

not_second : name 1 1 ≡ name 2 1 → ⊥
not_second e = let same = ap (λ (u : Link). u.page) e in absurd (omega arith)

module _ (list : List Found) where
  -- the transaction asks for its two records, and for none of page 0
  asked_zero : (slot : ℕ) → IsAsked Scc list 3 pair (found slot 0 1 0 1 0).rec
  asked_zero slot = All-from_recursion (IsAskedAt Scc list 3 pair (found slot 0 1 0 1 0).rec)
      (zip pair (next_names pair))
      (λ e. absurd (not_zero e), (λ e. absurd (not_zero e), tt))

  asked_first : IsAsked Scc list 3 pair (of_two (found 5 1 1 2 1 0)).rec
  asked_first = All-from_recursion (IsAskedAt Scc list 3 pair (of_two (found 5 1 1 2 1 0)).rec)
      (zip pair (next_names pair))
      (λ e. (refl, refl, refl), (λ e. absurd (not_second e), tt))

  asked_second : IsAsked Scc list 3 pair second.rec
  asked_second = All-from_recursion (IsAskedAt Scc list 3 pair second.rec) (zip pair (next_names pair))
      (λ e. absurd (not_second (sym e)), (λ e. (refl, refl, refl), tt))

-- a record of page 0 mentions no page of the transaction
zero_below : (slot : ℕ) → All (λ a. mention_at a.page (found slot 0 1 0 1 0).rec < a.version) pair
zero_below slot = All-from_recursion (λ a. mention_at a.page (found slot 0 1 0 1 0).rec < a.version) pair
    (let low : 0 < 1 = omega arith in (low, (low, tt)))

-- it is in progress with its first record, and without
begun_in_progress : InProgress Scc begun 3 pair
begun_in_progress = record {
  begun = record {
    transaction = pair_transaction;
    asked = All-from_recursion (λ f. IsAsked Scc begun 3 pair f.rec) begun (
      asked_zero begun 0,
      (asked_zero begun 4, (asked_first begun, tt)),
    );
    others = All-from_recursion (λ f. (Contains pair (name_of f.rec) → ⊥) →
        All (λ a. mention_at a.page f.rec < a.version) pair) begun
        (λ out. zero_below 0, (λ out. zero_below 4, (λ out. absurd (out (0, omega arith, refl)), tt)));
  };
  absent = (1, name 2 1, omega arith, refl, refl);
}

lost_in_progress : InProgress Scc (left without_first begun) 3 pair
lost_in_progress =
    let list : List Found = left without_first begun in
    record {
      begun = record {
        transaction = pair_transaction;
        asked = All-from_recursion (λ f. IsAsked Scc list 3 pair f.rec) list (
          asked_zero list 0,
          (asked_zero list 4, tt),
        );
        others = All-from_recursion (λ f. (Contains pair (name_of f.rec) → ⊥) →
            All (λ a. mention_at a.page f.rec < a.version) pair) list
            (λ out. zero_below 0, (λ out. zero_below 4, tt));
      };
      absent = (1, name 2 1, omega arith, refl, refl);
    }

-- the lists are scanned
scanned_cons : (f : Found) (list : List Found) → All (λ g. f.slot.0 < g.slot.0) list → (1 ≤ f.rec.version)
    × (1 ≤ f.rec.next.version) → IsScanned list →
    IsScanned (f ∷ list)
scanned_cons f list below versions rest = record {
  ascending = AllPairs-cons (λ g h. g.slot.0 < h.slot.0) f list below rest.ascending;
  versions = All-cons (λ g. (1 ≤ g.rec.version) × (1 ≤ g.rec.next.version)) f list versions rest.versions;
}

ended_scanned : IsScanned ended
ended_scanned =
    let one : 1 ≤ 1 = omega arith in
    let last : IsScanned (second ∷ []) = scanned_cons second [] (All-nil (λ g. 6 < g.slot.0)) (one, one) (record {
      ascending = λ i j d less within. absurd (omega arith);
      versions = All-nil (λ g. (1 ≤ g.rec.version) × (1 ≤ g.rec.next.version));
    }) in
    let first = of_two (found 5 1 1 2 1 0) in
    let later : IsScanned (first ∷ second ∷ []) =
    scanned_cons first (second ∷ []) (All-from_recursion (λ g. 5 < g.slot.0) (second ∷ []) (omega arith, tt))
    (one, one) last in
    let copy : IsScanned (found 4 0 1 0 1 0 ∷ first ∷ second ∷ []) =
    scanned_cons (found 4 0 1 0 1 0) (first ∷ second ∷ [])
    (All-from_recursion (λ g. 4 < g.slot.0) (first ∷ second ∷ []) (omega arith, (omega arith, tt))) (one, one) later in
    scanned_cons (found 0 0 1 0 1 0) (found 4 0 1 0 1 0 ∷ first ∷ second ∷ [])
    (All-from_recursion (λ g. 0 < g.slot.0) (found 4 0 1 0 1 0 ∷ first ∷ second ∷ []) (
      omega arith,
      (omega arith, (omega arith, tt)),
    )) (one, one) copy

begun_scanned : IsScanned begun
begun_scanned = left_scanned (λ slot. not (slot == 6)) ended ended_scanned

pub asked_after_loss : AskedAfterLoss
asked_after_loss = (
  record {
    scanned = begun_scanned;
    scanned' = ended_scanned;
    in_progress = begun_in_progress;
    added = record { before = begun; after = []; was = refl; now = refl };
    named = (1, omega arith, refl);
    fresh = refl;
    asked = asked_second begun;
    clear = All-from_recursion (λ f. must_go Scc begun 3 2 1 f.rec ≡ false) begun (refl, (refl, (refl, tt)));
  },
  record {
    scanned = left_scanned without_first begun begun_scanned;
    scanned' = left_scanned without_first ended ended_scanned;
    in_progress = lost_in_progress;
    added = record { before = left without_first begun; after = []; was = refl; now = refl };
    named = (1, omega arith, refl);
    fresh = refl;
    asked = asked_second (left without_first begun);
    clear = All-from_recursion (λ f. must_go Scc (left without_first begun) 3 2 1 f.rec ≡ false)
        (left without_first begun) (refl, (refl, tt));
  },
)
