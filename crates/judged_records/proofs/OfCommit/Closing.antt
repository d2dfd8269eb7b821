-- When a noted record completes its cycle: exactly where its links lead back to it over newest records.
use Rattle.judged_records.proofs.Common.{◌≡◌, ℕ, zero, suc, ◌<◌, ◌≤◌, Bool, true, false, eqb, ◌||◌, List, [], ◌∷◌, ◌++◌, length, zip, All, Any, Contains, refl, sym, ◌∙◌, subst, inl, inr, arith, if◌then◌else◌, eq-eqb, eqb-true, ne_eqb, le-ltb, false≢true, and_parts, and_from, and_left, or_cases, All-contains, Contains-first, Contains-rest, all_from, Link, Rec, Protocol, shape_of, slots_of, Found, newest, name_of, is_present, link_of, next_names, same_name, follows_in, follows_of, name_newest, step_underway, step_of, Blank, note_at, found_in, IndexState, IsNoted, IsNextRecord, programmed}
use Rattle.std.proofs.lemmas.Bool.{or_left, or_right}
use Rattle.record_list.specs.declared.found.Why.{Why}
use Rattle.record_list.specs.declared.found.Why.TheVariants.{Cycle, Absent}
use Rattle.record_list.specs.Records.{is_same}
use Rattle.record_list.specs.Verdict.{newest_name, why_below_newest, is_ahead, is_behind, walk, is_committed}
use Rattle.record_list.proofs.OfFacts.Names.{cases_present}
use Rattle.record_list.proofs.OfFacts.Safe.{IsLinked, turn_closes}
use Rattle.record_list.proofs.OfChanges.Progress.{IsUnderway, name_uncounted, absent_name}
use Rattle.record_list.proofs.OfChanges.OneMore.{step_linked, its_link}
use Rattle.judged_records.specs.DerivedChanges.{IsRound, comes_back, completes}
use Rattle.judged_records.proofs.OfNotes.FoundIn.{found}
use Rattle.judged_records.proofs.OfNotes.NotedFacts.{noted_map}
use Rattle.judged_records.proofs.OfChanges.NotedChanges.{next_write}
use Rattle.judged_records.proofs.OfCommit.CycleOrder.{turned, few_names}
use Rattle.judged_records.proofs.OfCommit.Cycles.{cycle_written}

module _ (l : List Found) (start : Link) where
  -- a link that leads to no newest record ends it
  pub back_stops : (turns : ℕ) (q : Link) → (newest l q.page ≡ q.version → ⊥) → comes_back l start (suc turns) q ≡ false
  back_stops turns q off =
      and_left (eqb (newest l q.page) q.version) (is_same q start || comes_back l start turns (link_of l q))
      (ne_eqb (newest l q.page) q.version off)

  -- one to the start closes it
  pub back_closes : (turns : ℕ) (q : Link) → newest l q.page ≡ q.version → is_same q start ≡ true →
      comes_back l start (suc turns) q ≡ true
  back_closes turns q at same =
      and_from (eqb (newest l q.page) q.version) (is_same q start || comes_back l start turns (link_of l q))
      (eq-eqb (newest l q.page) q.version at)
      (or_left (is_same q start) (comes_back l start turns (link_of l q)) same)

  -- and from another it goes on
  pub back_goes : (turns : ℕ) (q : Link) → newest l q.page ≡ q.version → is_same q start ≡ false →
      comes_back l start (suc turns) q ≡ comes_back l start turns (link_of l q)
  back_goes turns q at other = rw (eq-eqb (newest l q.page) q.version at, other) refl

  -- more turns do no harm
  back_longer : (turns more : ℕ) (q : Link) → turns ≤ more → comes_back l start turns q ≡ true →
      comes_back l start more q ≡ true
  back_longer zero more q le h = absurd (false≢true h)
  back_longer (suc t) zero q le h = absurd (omega arith)
  back_longer (suc t) (suc u) q le h =
      let parts = and_parts (eqb (newest l q.page) q.version) (is_same q start || comes_back l start t (link_of l q))
      h in
      and_from (eqb (newest l q.page) q.version) (is_same q start || comes_back l start u (link_of l q)) parts.0
      (elim (or_cases (is_same q start) (comes_back l start t (link_of l q)) parts.1) [
        | inl same ↦ or_left (is_same q start) (comes_back l start u (link_of l q)) same
        | inr on ↦ or_right (is_same q start) (comes_back l start u (link_of l q))
            (back_longer t u (link_of l q) (omega arith) on)
      ])

  -- along names that follow each other it comes back
  back_along : (x : Link) (xs : List Link) → ((a b : Link) → Contains (zip (x ∷ xs) (xs ++ start ∷ [])) (a, b) →
      (link_of l a ≡ b) × (newest l b.page ≡ b.version)) →
      comes_back l start (suc (length xs)) (link_of l x) ≡ true
  back_along x [] h =
      let one = h x start (Contains-first (x, start) []) in
      subst (λ q. comes_back l start (suc zero) q ≡ true) (sym one.0)
      (back_closes zero start one.1 (and_from (eqb start.page start.page) (eqb start.version start.version)
      (eq-eqb start.page start.page refl) (eq-eqb start.version start.version refl)))
  back_along x (y ∷ ys) h =
      let one = h x y (Contains-first (x, y) (zip (y ∷ ys) (ys ++ start ∷ []))) in
      let rest = back_along y ys (λ a b i. h a b (Contains-rest (x, y) (zip (y ∷ ys) (ys ++ start ∷ [])) (a, b) i)) in
      subst (λ q. comes_back l start (suc (suc (length ys))) q ≡ true) (sym one.0)
      (and_from (eqb (newest l y.page) y.version) (is_same y start
      || comes_back l start (suc (length ys)) (link_of l y))
      (eq-eqb (newest l y.page) y.version one.1)
      (or_right (is_same y start) (comes_back l start (suc (length ys)) (link_of l y)) rest))

-- a turn of a walk at a link to another newest record
turn_on : (a b c : Bool) (w x : Why) → a ≡ false → b ≡ false → is_committed x ≡ true →
    is_committed (if a then Absent else if b then w else if c then Cycle else x) ≡ true
turn_on a b c w x e f h = rw (e, f) (of c)
  where
    of : (c : Bool) → is_committed (if c then Cycle else x) ≡ true
    of true = refl
    of false = h

-- what comes back is a walk that says yes
back_walks : (p : Protocol) (l : List Found) (start : Link) (turns more : ℕ) (q : Link) → turns ≤ more →
    comes_back l start turns q ≡ true →
    is_committed (walk p l start more q) ≡ true
back_walks p l start zero more q le h = absurd (false≢true h)
back_walks p l start (suc t) zero q le h = absurd (omega arith)
back_walks p l start (suc t) (suc u) q le h =
    let parts = and_parts (eqb (newest l q.page) q.version) (is_same q start || comes_back l start t (link_of l q)) h in
    let at = eqb-true (newest l q.page) q.version parts.0 in
    let ahead : is_ahead l q ≡ false = le-ltb (newest l q.page) q.version (omega arith) in
    let behind : is_behind l q ≡ false = le-ltb q.version (newest l q.page) (omega arith) in
    elim (or_cases (is_same q start) (comes_back l start t (link_of l q)) parts.1) [
      | inl same ↦ turn_closes (is_ahead l q) (is_behind l q) (is_same q start) (why_below_newest p l q)
          (walk p l start u (link_of l q)) ahead behind same
      | inr on ↦ turn_on (is_ahead l q) (is_behind l q) (is_same q start) (why_below_newest p l q)
          (walk p l start u (link_of l q)) ahead behind
          (back_walks p l start t u (link_of l q) (omega arith) on)
    ]

module _ (l : List Found) (logical : ℕ) (names : List Link) (t : IsUnderway l logical names)
    (linked : IsLinked l logical) (start : Link)
    (own : Contains names start) (here : is_present l start ≡ true) where
  -- where all names are present the links of one lead back to it
  pub whole_returns : ((a : Link) → Contains names a → is_present l a ≡ true) →
      comes_back l start logical (link_of l start) ≡ true
  whole_returns all =
      let r = turned names start own in
      let few = few_names (start ∷ r.rest) logical (r.apart t.apart) (λ a i.
      let after = follows_of (start ∷ r.rest) a i in
      (t.range a (follows_in names a after.0 (r.back a after.0 after.1)).0).0) in
      let along = back_along l start start r.rest (λ a b i.
      let ends = follows_in names a b (r.back a b i) in
      (t.asked a b (r.back a b i) (all a ends.0), name_newest l logical names t b ends.1 (all b ends.1))) in
      back_longer l start (suc (length r.rest)) logical (link_of l start) few along

  -- and while one is absent they do not
  pub open_stays : (p : Protocol) (gone : Link) → Contains names gone → is_present l gone ≡ false →
      comes_back l start logical (link_of l start) ≡ true → ⊥
  open_stays p gone i absent h =
      let top = name_newest l logical names t start own here in
      let positive = (t.range start own).1 in
      let its : newest_name l start.page ≡ start = same_name (newest_name l start.page) start refl top in
      let walks : is_committed (walk p l start (suc logical) (link_of l start)) ≡ true =
      back_walks p l start logical (suc logical) (link_of l start) (omega arith) h in
      name_uncounted l logical names t p linked gone i absent start own here
      (omega arith, subst (λ u. is_committed (walk p l u (suc logical) (link_of l u)) ≡ true) (sym its) walks)

module _ (protocol : Protocol) (n : IndexState) (k : IsNoted protocol n) (at : ℕ) (rec : Rec)
    (exists : at < slots_of (shape_of n.config))
    (was : note_at n.notes at ≡ Blank) (next : IsNextRecord n rec) where
  -- the names as they stand once the record is noted
  record Stands : Type 0 where
    underway : IsUnderway (found_in (programmed n at rec).notes) n.config.logical next.names
    linked : IsLinked (found_in (programmed n at rec).notes) n.config.logical
    here : is_present (found_in (programmed n at rec).notes) (name_of rec) ≡ true
    link : link_of (found_in (programmed n at rec).notes) (name_of rec) ≡ rec.next

  stands : Stands
  stands =
      let within : at < length n.notes = (let slots = k.slots in omega arith) in
      let l = found_in n.notes in
      let l' = found_in (programmed n at rec).notes in
      let write = next_write protocol n k at rec within was next in
      let s = step_of n.config.protocol l l' n.config.logical next.names (found at rec) write in
      record {
        underway = step_underway l l' n.config.logical next.names rec s;
        linked = step_linked l l' n.config.logical next.names rec s (noted_map protocol n k).linked;
        here = s.one.own;
        link = its_link s.one;
      }

  -- it completes its cycle exactly where each name of its transaction is present
  pub completes_whole : completes (programmed n at rec) rec ≡ true →
      All (λ name. is_present (found_in (programmed n at rec).notes) name ≡ true) next.names
  unfolding completes
  completes_whole h =
      let l' = found_in (programmed n at rec).notes in
      let s = stands in
      elim (cases_present l' next.names) [
        | inr all ↦ all
        | inl absent ↦ (
            let gone = absent_name l' next.names absent in
            absurd (open_stays l' n.config.logical next.names s.underway s.linked (name_of rec) next.named s.here
            protocol gone.0 gone.1 gone.2
            (subst (λ q. comes_back l' (name_of rec) n.config.logical q ≡ true) (sym s.link) h)))
      ]

  pub whole_completes : All (λ name. is_present (found_in (programmed n at rec).notes) name ≡ true) next.names →
      completes (programmed n at rec) rec ≡ true
  unfolding completes
  whole_completes all =
      let l' = found_in (programmed n at rec).notes in
      let s = stands in
      subst (λ q. comes_back l' (name_of rec) n.config.logical q ≡ true) s.link
      (whole_returns l' n.config.logical next.names s.underway s.linked (name_of rec) next.named s.here
      (λ a i. All-contains (λ name. is_present l' name ≡ true) next.names a all i))

  -- and leaves it open exactly where one is absent
  pub open_absent : completes (programmed n at rec) rec ≡ false →
      Any (λ name. is_present (found_in (programmed n at rec).notes) name ≡ false) next.names
  open_absent h = elim (cases_present (found_in (programmed n at rec).notes) next.names) [
    | inl absent ↦ absent
    | inr all ↦ absurd (false≢true (sym h ∙ whole_completes all))
  ]

  -- the names of a whole cycle from the record's on
  pub round_of : completes (programmed n at rec) rec ≡ true → (round : List Link)
      × IsRound (programmed n at rec) next.names (name_of rec) round
  round_of h =
      let m = programmed n at rec in
      let l' = found_in m.notes in
      let s = stands in
      let t = turned next.names (name_of rec) next.named in
      let round = name_of rec ∷ t.rest in
      let whole = cycle_written protocol n k at rec exists was next (completes_whole h) in (
        round,
        record {
          rest = t.rest;
          first = refl;
          short = few_names round n.config.logical (t.apart s.underway.apart) (λ a i.
              let after = follows_of round a i in
              (s.underway.range a (follows_in next.names a after.0 (t.back a after.0 after.1)).0).0);
          same = λ name. (
            (λ i. let after = follows_of next.names name i in
                (follows_in round name after.0 (t.onto name after.0 after.1)).0),
            (λ i. let after = follows_of round name i in
                (follows_in next.names name after.0 (t.back name after.0 after.1)).0),
          );
          apart = t.apart s.underway.apart;
          cycle = all_from (λ (x : Link × Link). (is_present l' x.0 ≡ true) × (newest l' x.0.page ≡ x.0.version)
              × (link_of l' x.0 ≡ x.1))
              (zip round (next_names round)) (λ x i.
              All-contains (λ (y : Link × Link). (is_present l' y.0 ≡ true) × (newest l' y.0.page ≡ y.0.version)
              × (link_of l' y.0 ≡ y.1))
              (zip next.names (next_names next.names)) x whole (t.back x.0 x.1 i));
        },
      )
