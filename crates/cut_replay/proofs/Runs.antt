-- A run on a flash goes on by one command.
use Rattle.cut_replay.proofs.Common.{◌≡◌, ℕ, ◌+◌, ◌≤◌, Bool, false, ◌||◌, List, [], ◌∷◌, ◌++◌, length, take, Option, Some, None, refl, sym, ap, ◌∙◌, subst, inl, inr, arith, count_by, IfSome, MatchBool, cases_Bool, Config, FlashState, Told, counted_by, BothTell, NoMoreToCome, Rose, Command, Reply, text_of, is_break, seen_after, Point, IsPoint, FlashRun, ServesFlash, moment_of, last_point, is_fault, Grew, CountsBreak, CountsBreaks, IsSpentBy}
use Rattle.std.proofs.Common.{zero, suc}
use Rattle.std.proofs.Common.{append-nil, append_assoc, length-append}
use Rattle.std.specs.Prelude.{if◌then◌else◌}
use Rattle.std.specs.List.{flat_map}
use Rattle.std.proofs.lemmas.Grind.{flat_map-append}
use Rattle.std.proofs.lemmas.Bool.{cases_lt}
use Rattle.std.proofs.lemmas.List.{take_all, take-append-le}
use Rattle.std.proofs.lemmas.List.Sums.{sum_by_push}
use Rattle.list_lemmas.proofs.Quantifiers.{all_left, all_right}
use Rattle.array_runs.specs.Run.{MayBeSpent}
use Rattle.cut_replay.specs.FlashRun.{MentionsUpTo, last_moment}
use Rattle.cut_replay.specs.ServerRuns.{seen_through, faulted_through}
use Rattle.cut_replay.specs.Watching.{text_of_all, replies_told}
use Rattle.cut_replay.specs.Bounds.{AreSpent, SpendsTold, LastIsSet}
use Rattle.array_runs.specs.Breaks.{is_cut, arms_cut, arms_fault}
use Rattle.mounted_session.proofs.Telling.{both_tell, weaker_told}

-- one command more
abbrev pub GoesOn : Config → (ℕ → ℕ) → Bool → Command → Point → Reply → Point → Type 0
GoesOn its seen faulted c old r new = ((spent : ℕ → Bool) × MayBeSpent seen spent
    × ServesFlash its spent faulted c old r new) × (IsPoint its new × MentionsUpTo its (seen_after seen c r) new)

pub run_more : (its : Config) (seen : ℕ → ℕ) (faulted : Bool) (old : Point) (cs : List Command) (rs : List Reply)
    (ps : List Point) (c : Command) (r : Reply)
    (p : Point) → FlashRun its seen faulted old cs rs ps →
    GoesOn its (seen_through seen cs rs) (faulted_through faulted rs) c (last_point old ps) r p →
    FlashRun its seen faulted old (cs ++ c ∷ []) (rs ++ r ∷ []) (ps ++ p ∷ [])
run_more its seen faulted old [] [] [] c r p run h = (h.0, h.1, tt)
run_more its seen faulted old [] [] (q ∷ ps) c r p run h = absurd run
run_more its seen faulted old [] (s ∷ rs) ps c r p run h = absurd run
run_more its seen faulted old (d ∷ cs) [] ps c r p run h = absurd run
run_more its seen faulted old (d ∷ cs) (s ∷ rs) [] c r p run h = absurd run
run_more its seen faulted old (d ∷ cs) (s ∷ rs) (q ∷ ps) c r p run h =
    (run.0, run.1, run_more its (seen_after seen d s) (faulted || is_fault s) q cs rs ps c r p run.2 h)

pub last_more : (old : Point) (ps : List Point) (p : Point) → last_point old (ps ++ p ∷ []) ≡ p
last_more old [] p = refl
last_more old (q ∷ ps) p = last_more q ps p

pub seen_more : (seen : ℕ → ℕ) (cs : List Command) (rs : List Reply) (c : Command) (r : Reply) → length rs ≡ length cs →
    seen_through seen (cs ++ c ∷ []) (rs ++ r ∷ []) ≡ seen_after (seen_through seen cs rs) c r
seen_more seen [] [] c r same = refl
seen_more seen [] (s ∷ rs) c r same = absurd (omega arith)
seen_more seen (d ∷ cs) [] c r same = absurd (omega arith)
seen_more seen (d ∷ cs) (s ∷ rs) c r same = seen_more (seen_after seen d s) cs rs c r (omega arith)

pub faulted_more : (faulted : Bool) (rs : List Reply) (r : Reply) →
    faulted_through faulted (rs ++ r ∷ []) ≡ (faulted_through faulted rs || is_fault r)
faulted_more faulted [] r = refl
faulted_more faulted (s ∷ rs) r = faulted_more (faulted || is_fault s) rs r

pub last_moment_is : (old : Point) (ps : List Point) → moment_of (last_point old ps).flash
    ≡ last_moment (moment_of old.flash) ps
last_moment_is old [] = refl
last_moment_is old (p ∷ ps) = last_moment_is p ps

-- how many replies and points there are
pub run_lengths : (its : Config) (seen : ℕ → ℕ) (faulted : Bool) (old : Point) (cs : List Command) (rs : List Reply)
    (ps : List Point) →
    FlashRun its seen faulted old cs rs ps →
    (length rs ≡ length cs) × (length ps ≡ length cs)
run_lengths its seen faulted old [] [] [] run = (refl, refl)
run_lengths its seen faulted old [] [] (q ∷ ps) run = absurd run
run_lengths its seen faulted old [] (s ∷ rs) ps run = absurd run
run_lengths its seen faulted old (d ∷ cs) [] ps run = absurd run
run_lengths its seen faulted old (d ∷ cs) (s ∷ rs) [] run = absurd run
run_lengths its seen faulted old (d ∷ cs) (s ∷ rs) (q ∷ ps) run =
    let rest = run_lengths its (seen_after seen d s) (faulted || is_fault s) q cs rs ps run.2 in
    (ap suc rest.0, ap suc rest.1)

-- What was told
pub grew_none : {X : Type 0} (o : Option (List X)) → Grew o o []
grew_none None = refl
grew_none (Some xs) = ap (λ ys. Some ys) (sym (append-nil xs))

pub grew_more : {X : Type 0} (a b d : Option (List X)) (xs ys : List X) → Grew a b xs → Grew b d ys →
    Grew a d (xs ++ ys)
grew_more None b d xs ys ab bd = let none = ab in subst (λ o. Grew o d ys) none bd
grew_more (Some a) b d xs ys ab bd = subst (λ o. Grew o d ys) ab bd ∙ ap (λ l. Some l) (append_assoc a xs ys)

pub text_more : (rs : List Reply) (r : Reply) → text_of_all (rs ++ r ∷ []) ≡ text_of_all rs ++ text_of r
text_more rs r = flat_map-append text_of rs (r ∷ []) ∙ ap (λ t. flat_map text_of rs ++ t) (append-nil (text_of r))

pub told_more : (rs : List Reply) (ps : List Point) (r : Reply) (p : Point) → length rs ≡ length ps →
    replies_told (rs ++ r ∷ []) (ps ++ p ∷ [])
    ≡ replies_told rs ps ++ record { text = text_of r; moment = moment_of p.flash } ∷ []
told_more [] [] r p same = refl
told_more [] (q ∷ ps) r p same = absurd (omega arith)
told_more (s ∷ rs) [] r p same = absurd (omega arith)
told_more (s ∷ rs) (q ∷ ps) r p same = ap (λ xs. record { text = text_of s; moment = moment_of q.flash } ∷ xs)
    (told_more rs ps r p (omega arith))

-- How many cuts and faults there were
abbrev ones : {X : Type 0} → (X → Bool) → X → ℕ
ones test x = if test x then 1 else 0

count_push : {X : Type 0} (test : X → Bool) (xs : List X) (x : X) →
    count_by test (xs ++ x ∷ []) ≡ count_by test xs + ones test x
count_push test xs x = sum_by_push (ones test) xs x

few_front : {X Y : Type 0} (this : X → Bool) (that : Y → Bool) (xs : List X) (ys : List Y) (x : X) (y : Y)
    (most j : ℕ) → length xs ≡ length ys →
    j ≤ length xs →
    count_by this (take j xs) ≤ most + count_by that (take j ys) →
    count_by this (take j (xs ++ x ∷ [])) ≤ most + count_by that (take j (ys ++ y ∷ []))
few_front this that xs ys x y most j same le h =
    let front : take j (xs ++ x ∷ []) ≡ take j xs = take-append-le j xs (x ∷ []) le in
    let other : take j (ys ++ y ∷ []) ≡ take j ys = take-append-le j ys (y ∷ []) (omega arith) in
    rw (front, other) h

few_whole : {X Y : Type 0} (this : X → Bool) (that : Y → Bool) (xs : List X) (ys : List Y) (most j : ℕ) →
    length xs ≤ j → length ys ≤ j →
    count_by this xs ≤ most + count_by that ys → count_by this (take j xs) ≤ most + count_by that (take j ys)
few_whole this that xs ys most j first second h =
    let one : take j xs ≡ xs = take_all j xs first in
    let two : take j ys ≡ ys = take_all j ys second in
    rw (one, two) h

few_more : {X Y : Type 0} (this : X → Bool) (that : Y → Bool) (xs : List X) (ys : List Y) (x : X) (y : Y) (most j : ℕ) →
    length xs ≡ length ys →
    count_by this (take j xs) ≤ most + count_by that (take j ys) →
    count_by this (xs ++ x ∷ []) ≤ most + count_by that (ys ++ y ∷ []) →
    count_by this (take j (xs ++ x ∷ [])) ≤ most + count_by that (take j (ys ++ y ∷ []))
few_more this that xs ys x y most j same front whole = elim (cases_lt (length xs) j) [
  | inl lt ↦ few_whole this that (xs ++ x ∷ []) (ys ++ y ∷ []) most j (omega (arith, length-append xs (x ∷ [])))
      (omega (arith, length-append ys (y ∷ []))) whole
  | inr le ↦ few_front this that xs ys x y most j same le front
]

none_taken : {X : Type 0} (test : X → Bool) (j : ℕ) → count_by test (take j []) ≡ 0
none_taken test zero = refl
none_taken test (suc j) = refl

spent_nothing : (old new : Told) → NoMoreToCome old new → AreSpent [] [] old new
spent_nothing old new h = record {
  few = λ j. (omega (arith, none_taken is_cut j), omega (arith, none_taken is_fault j));
  cuts = omega (arith, h.0);
  breaks = omega (arith, h.1);
}

spent_more : (cs : List Command) (rs : List Reply) (c : Command) (r : Reply) → length rs ≡ length cs → (x y z : Told) →
    AreSpent cs rs x y → IsSpentBy c r y z →
    AreSpent (cs ++ c ∷ []) (rs ++ r ∷ []) x z
spent_more cs rs c r same x y z h k =
    let cut_count = count_push is_cut rs r in
    let fault_count = count_push is_fault rs r in
    let cut_arms = count_push arms_cut cs c in
    let fault_arms = count_push arms_fault cs c in
    let cuts : count_by is_cut (rs ++ r ∷ []) + z.cuts ≤ x.cuts + count_by arms_cut (cs ++ c ∷ []) =
    omega (arith, cut_count, cut_arms, h.cuts, k.cuts) in
    let breaks : count_by is_fault (rs ++ r ∷ []) + z.breaks ≤ x.breaks + count_by arms_fault (cs ++ c ∷ []) =
    omega (arith, fault_count, fault_arms, h.breaks, k.breaks) in
    record {
      few = λ j. (
        few_more is_cut arms_cut rs cs r c x.cuts j same (h.few j).0 (omega (arith, cuts)),
        few_more is_fault arms_fault rs cs r c x.breaks j same (h.few j).1 (omega (arith, breaks)),
      );
      cuts = cuts;
      breaks = breaks;
    }

spent_later : (cs : List Command) (rs : List Reply) (x y z : Told) → AreSpent cs rs x y → NoMoreToCome y z →
    AreSpent cs rs x z
spent_later cs rs x y z h k = record {
  few = h.few;
  cuts = omega (arith, h.cuts, k.0);
  breaks = omega (arith, h.breaks, k.1);
}

pub spends_nothing : (a b : Option Told) → BothTell NoMoreToCome a b → SpendsTold [] [] a b
spends_nothing a b = weaker_told NoMoreToCome (AreSpent [] []) spent_nothing a b

pub spends_more : (cs : List Command) (rs : List Reply) (c : Command) (r : Reply) (a b d : Option Told) →
    length rs ≡ length cs → SpendsTold cs rs a b →
    BothTell (IsSpentBy c r) b d →
    SpendsTold (cs ++ c ∷ []) (rs ++ r ∷ []) a d
spends_more cs rs c r a b d same = both_tell (AreSpent cs rs) (IsSpentBy c r) (AreSpent (cs ++ c ∷ []) (rs ++ r ∷ []))
    (spent_more cs rs c r same) a b d

pub spends_later : (cs : List Command) (rs : List Reply) (a b d : Option Told) → SpendsTold cs rs a b →
    BothTell NoMoreToCome b d → SpendsTold cs rs a d
spends_later cs rs a b d = both_tell (AreSpent cs rs) NoMoreToCome (AreSpent cs rs) (spent_later cs rs) a b d

-- How many faults were counted
rose_more : (k a b d : ℕ) → counted_by k a ≤ b → Rose b d → counted_by (k + 1) a ≤ d
rose_more k a b d h rose = omega (arith, h, rose)

pub least_none : (a b : ℕ) → a ≤ b → counted_by 0 a ≤ b
least_none a b le = omega (arith, le)

pub counts_more : (rs : List Reply) (r : Reply) (x y z : FlashState) → CountsBreaks rs x y →
    CountsBreak r y.faults z.faults → CountsBreaks (rs ++ r ∷ []) x z
counts_more rs r x y z h one = elim (cases_Bool (is_break r)) [
  | inl broken ↦ (
      let rose : Rose y.faults z.faults = subst (λ b. MatchBool b (Rose y.faults z.faults) (z.faults ≡ y.faults)) broken
      one in
      let more : count_by is_break (rs ++ r ∷ []) ≡ count_by is_break rs + 1 = count_push is_break rs r ∙
      ap (λ (b : Bool). count_by is_break rs + (if b then 1 else 0)) broken in
      record {
        least = subst (λ n. counted_by n x.faults ≤ z.faults) (sym more)
            (rose_more (count_by is_break rs) x.faults y.faults z.faults h.least rose);
        quiet = λ unbroken all. (let not : is_break r ≡ false = all_right (λ q. is_break q ≡ false) rs (r ∷ []) all 0 r
            (omega arith) in absurd cc);
      })
  | inr whole ↦ (
      let same : z.faults ≡ y.faults = subst (λ b. MatchBool b (Rose y.faults z.faults) (z.faults ≡ y.faults)) whole
      one in
      let more : count_by is_break (rs ++ r ∷ []) ≡ count_by is_break rs + 0 = count_push is_break rs r ∙
      ap (λ (b : Bool). count_by is_break rs + (if b then 1 else 0)) whole in
      let none : count_by is_break (rs ++ r ∷ []) ≡ count_by is_break rs = omega (arith, more) in
      record {
        least = subst (λ n. counted_by n x.faults ≤ z.faults) (sym none)
            (subst (λ n. counted_by (count_by is_break rs) x.faults ≤ n) (sym same) h.least);
        quiet = λ unbroken all. same ∙ h.quiet unbroken (all_left (λ q. is_break q ≡ false) rs (r ∷ []) all);
      })
]

pub counts_later : (rs : List Reply) (x y z : FlashState) → CountsBreaks rs x y → z.faults ≡ y.faults →
    CountsBreaks rs x z
counts_later rs x y z h same = record {
  least = subst (λ n. counted_by (count_by is_break rs) x.faults ≤ n) (sym same) h.least;
  quiet = λ unbroken all. same ∙ h.quiet unbroken all;
}

-- Nothing was armed last
pub none_sets : (o : Option Told) → IfSome o (LastIsSet [])
none_sets None = tt
none_sets (Some told) = tt
