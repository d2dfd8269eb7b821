-- How runs of the map machine grow, and how many breaks they have.
use Rattle.page_keys.proofs.Common.{◌≡◌, ◌⊎◌, inl, inr, ℕ, zero, suc, ◌+◌, ◌≤◌, Bool, true, false, cond, List, [], ◌∷◌, ◌++◌, length, take, Option, Some, None, refl, ap, subst, arith, count_by, IfSome, Config, BothTell, NoMoreToCome, Told, KeyPoint, IsKeyPoint, ServesKeys, is_key_cut, is_key_fault, seen_after, KeyCommand, apply, KeyReply}
use Rattle.std.proofs.lemmas.List.Sums.{sum_by-cons}
use Rattle.std.specs.Prelude.{MatchBool}
use Rattle.array_runs.specs.Run.{MayBeSpent}
use Rattle.page_keys.specs.KeyRuns.{KeyRun, DoesKeys, DoesCommand, IsDone, OpensFirst, IsKeySpent, AreFewBreaks, ChangesAtOnce, arms_key_cut, changes_in}
use Rattle.page_keys.specs.KeyRuns.{MentionsUpTo, is_key_break, is_stored, last_point, seen_next}
use Rattle.page_keys.specs.declared.command.KeyCommand.TheVariants as command
use Rattle.page_keys.specs.declared.key_reply.KeyReply.TheVariants as reply

-- what may be mentioned after these commands
abbrev pub seen_over : Config → (ℕ → ℕ) → List KeyCommand → List KeyReply → List KeyPoint → ℕ → ℕ
seen_over its seen [] rs ps = seen
seen_over its seen (c ∷ cs) [] ps = seen
seen_over its seen (c ∷ cs) (r ∷ rs) [] = seen
seen_over its seen (c ∷ cs) (r ∷ rs) (p ∷ ps) = seen_over its (seen_next its seen c r p) cs rs ps

module _ (its : Config) (c : KeyCommand) (r : KeyReply) (p : KeyPoint) where
  -- one command more
  pub run_more : (spent : ℕ → Bool) (seen : ℕ → ℕ) (old : KeyPoint) (cs : List KeyCommand)
      (rs : List KeyReply) (ps : List KeyPoint) → KeyRun its seen old cs rs ps →
      MayBeSpent (seen_over its seen cs rs ps) spent → ServesKeys its spent c (last_point old ps) r p →
      IsKeyPoint its p × MentionsUpTo its (seen_after its (seen_over its seen cs rs ps) c r) p →
      KeyRun its seen old (cs ++ c ∷ []) (rs ++ r ∷ []) (ps ++ p ∷ [])
  run_more spent seen old [] [] [] run may serves is = ((spent, may, serves), is, tt)
  run_more spent seen old [] [] (q ∷ ps) run may serves is = absurd run
  run_more spent seen old [] (s ∷ rs) ps run may serves is = absurd run
  run_more spent seen old (d ∷ cs) [] ps run may serves is = absurd run
  run_more spent seen old (d ∷ cs) (s ∷ rs) [] run may serves is = absurd run
  run_more spent seen old (d ∷ cs) (s ∷ rs) (q ∷ ps) run may serves is =
      (run.0, run.1, run_more spent (seen_next its seen d s q) q cs rs ps run.2 may serves is)

  pub seen_more_over : (seen : ℕ → ℕ) (old : KeyPoint) (cs : List KeyCommand) (rs : List KeyReply)
      (ps : List KeyPoint) → KeyRun its seen old cs rs ps →
      seen_over its seen (cs ++ c ∷ []) (rs ++ r ∷ []) (ps ++ p ∷ [])
      ≡ seen_next its (seen_over its seen cs rs ps) c r p
  seen_more_over seen old [] [] [] run = refl
  seen_more_over seen old [] [] (q ∷ ps) run = absurd run
  seen_more_over seen old [] (s ∷ rs) ps run = absurd run
  seen_more_over seen old (d ∷ cs) [] ps run = absurd run
  seen_more_over seen old (d ∷ cs) (s ∷ rs) [] run = absurd run
  seen_more_over seen old (d ∷ cs) (s ∷ rs) (q ∷ ps) run =
      seen_more_over (seen_next its seen d s q) q cs rs ps run.2

  pub last_more : (old : KeyPoint) (ps : List KeyPoint) → last_point old (ps ++ p ∷ []) ≡ p
  last_more old [] = refl
  last_more old (q ∷ ps) = last_more q ps

-- a run has as many replies as commands
pub as_many : (its : Config) (seen : ℕ → ℕ) (old : KeyPoint) (cs : List KeyCommand)
    (rs : List KeyReply) (ps : List KeyPoint) → KeyRun its seen old cs rs ps →
    length rs ≡ length cs
as_many its seen old [] [] ps run = refl
as_many its seen old [] (s ∷ rs) ps run = absurd run
as_many its seen old (d ∷ cs) [] ps run = absurd run
as_many its seen old (d ∷ cs) (s ∷ rs) [] run = absurd run
as_many its seen old (d ∷ cs) (s ∷ rs) (q ∷ ps) run =
    ap suc (as_many its (seen_next its seen d s q) q cs rs ps run.2)

-- what a flash tells after a call, where it told this before
pub told_after : (P : Told → Told → Type 0) (a b : Option Told) (t : Told) → a ≡ Some t →
    BothTell P a b → (u : Told) × (b ≡ Some u) × P t u
told_after P None b t is h = cc
told_after P (Some x) None t is h = absurd h
told_after P (Some x) (Some y) t is h =
    let same : x ≡ t = cc in (y, refl, subst (λ (z : Told). P z y) same h)

few_step : (c : KeyCommand) (r : KeyReply) (cs : List KeyCommand) (rs : List KeyReply) (t u : Told)
    (j : ℕ) → IsKeySpent c r t u →
    (count_by is_key_cut (take j rs) ≤ u.cuts + count_by arms_key_cut (take j cs))
    × (count_by is_key_fault (take j rs) ≤ u.breaks) →
    (count_by is_key_cut (r ∷ take j rs) ≤ t.cuts + count_by arms_key_cut (c ∷ take j cs))
    × (count_by is_key_fault (r ∷ take j rs) ≤ t.breaks)
few_step c r cs rs t u j spent rest =
    let cut = sum_by-cons (λ (x : KeyReply). cond (is_key_cut x) 1 0) r (take j rs) in
    let arm = sum_by-cons (λ (x : KeyCommand). cond (arms_key_cut x) 1 0) c (take j cs) in
    let fault = sum_by-cons (λ (x : KeyReply). cond (is_key_fault x) 1 0) r (take j rs) in
    let cuts = spent.cuts in let breaks = spent.breaks in
    (omega (arith, cut, arm, cuts, rest.0), omega (arith, fault, breaks, rest.1))

-- a run has no more cuts and faults than were to come
pub few_breaks : (its : Config) (seen : ℕ → ℕ) (old : KeyPoint) (cs : List KeyCommand)
    (rs : List KeyReply) (ps : List KeyPoint) (t : Told) → old.flash.told ≡ Some t →
    KeyRun its seen old cs rs ps → AreFewBreaks t.cuts t.breaks cs rs
few_breaks its seen old [] [] ps t told run j = none j
  where
    none : (j : ℕ) → (count_by is_key_cut (take j []) ≤ t.cuts + count_by arms_key_cut (take j []))
        × (count_by is_key_fault (take j []) ≤ t.breaks)
    none zero = (omega arith, omega arith)
    none (suc j) = (omega arith, omega arith)
few_breaks its seen old [] (s ∷ rs) ps t told run j = absurd run
few_breaks its seen old (d ∷ cs) [] ps t told run j = absurd run
few_breaks its seen old (d ∷ cs) (s ∷ rs) [] t told run j = absurd run
few_breaks its seen old (d ∷ cs) (s ∷ rs) (q ∷ ps) t told run zero = (omega arith, omega arith)
few_breaks its seen old (d ∷ cs) (s ∷ rs) (q ∷ ps) t told run (suc j) =
    let apply = told_after (IsKeySpent d s) old.flash.told q.flash.told t told run.0.2.spends in
    few_step d s cs rs t apply.0 j apply.2
    (few_breaks its (seen_next its seen d s q) q cs rs ps apply.0 apply.1 run.2 j)

-- and so than were to come before the first point
pub few_first : (its : Config) (seen : ℕ → ℕ) (first : KeyPoint) (cs : List KeyCommand)
    (rs : List KeyReply) (ps : List KeyPoint) (before : Option Told) →
    BothTell NoMoreToCome before first.flash.told → KeyRun its seen first cs rs ps →
    IfSome before (λ t. AreFewBreaks t.cuts t.breaks cs rs)
few_first its seen first cs rs ps None less run = tt
few_first its seen first cs rs ps (Some t) less run = λ j.
    let apply = told_after NoMoreToCome (Some t) first.flash.told t refl less in
    let few = few_breaks its seen first cs rs ps apply.0 apply.1 run j in
    let cuts = apply.2.0 in let breaks = apply.2.1 in
    (omega (arith, few.0, cuts), omega (arith, few.1, breaks))

-- ---- each put is whole

taken : (its : Config) (spent : ℕ → Bool) (c : KeyCommand) (old new : KeyPoint) (r : KeyReply) →
    DoesKeys its spent c old r new →
    ((new.keys ≡ old.keys) ⊎ (new.keys ≡ apply old.keys (changes_in c)))
    × (is_stored r ≡ true → new.keys ≡ apply old.keys (changes_in c))
taken its spent (command.Put cs) old new (reply.Stored n) h = (inr h.0.keys, λ s. h.0.keys)
taken its spent (command.Put cs) old new reply.RefusedEmpty h = (inl h.1.keys, λ s. cc)
taken its spent (command.Put cs) old new (reply.RefusedRepeated k) h = (inl h.1.1.keys, λ s. cc)
taken its spent (command.Put cs) old new (reply.RefusedWide n) h = (inl h.1.keys, λ s. cc)
taken its spent (command.Put cs) old new (reply.RefusedBucket p) h = (inl h.1.keys, λ s. cc)
taken its spent (command.Put cs) old new (reply.RefusedSpent p) h = (inl h.1.keys, λ s. cc)
taken its spent (command.Put cs) old new reply.Cut h =
    (elim h.whole [ inl none ↦ inl none.0 | inr all ↦ inr all.keys ], λ s. cc)
taken its spent (command.Put cs) old new reply.Fault h =
    (elim h.whole [ inl none ↦ inl none.0 | inr all ↦ inr all.keys ], λ s. cc)
taken its spent (command.Put cs) old new (reply.Value k v) h = absurd h
taken its spent (command.Put cs) old new (reply.Absent k) h = absurd h
taken its spent (command.Put cs) old new reply.Armed h = absurd h
taken its spent (command.Get key) old new (reply.Value k v) h = (inl h.2.keys, λ s. cc)
taken its spent (command.Get key) old new (reply.Absent k) h = (inl h.2.keys, λ s. cc)
taken its spent (command.Get key) old new reply.Cut h = (inl h.keys, λ s. cc)
taken its spent (command.Get key) old new reply.Fault h = (inl h.keys, λ s. cc)
taken its spent (command.Get key) old new (reply.Stored n) h = absurd h
taken its spent (command.Get key) old new reply.Armed h = absurd h
taken its spent (command.Get key) old new reply.RefusedEmpty h = absurd h
taken its spent (command.Get key) old new (reply.RefusedRepeated k) h = absurd h
taken its spent (command.Get key) old new (reply.RefusedWide n) h = absurd h
taken its spent (command.Get key) old new (reply.RefusedBucket p) h = absurd h
taken its spent (command.Get key) old new (reply.RefusedSpent p) h = absurd h
taken its spent (command.Cut count what) old new reply.Armed h = (inl h.0, λ s. cc)
taken its spent (command.Cut count what) old new (reply.Value k v) h = absurd h
taken its spent (command.Cut count what) old new (reply.Absent k) h = absurd h
taken its spent (command.Cut count what) old new reply.Cut h = absurd h
taken its spent (command.Cut count what) old new reply.Fault h = absurd h
taken its spent (command.Cut count what) old new (reply.Stored n) h = absurd h
taken its spent (command.Cut count what) old new reply.RefusedEmpty h = absurd h
taken its spent (command.Cut count what) old new (reply.RefusedRepeated k) h = absurd h
taken its spent (command.Cut count what) old new (reply.RefusedWide n) h = absurd h
taken its spent (command.Cut count what) old new (reply.RefusedBucket p) h = absurd h
taken its spent (command.Cut count what) old new (reply.RefusedSpent p) h = absurd h

unstored : (r : KeyReply) → is_key_break r ≡ true → is_stored r ≡ true → ⊥
unstored (reply.Stored n) broken stored = cc
unstored reply.RefusedEmpty broken stored = cc
unstored (reply.RefusedRepeated k) broken stored = cc
unstored (reply.RefusedWide n) broken stored = cc
unstored (reply.RefusedBucket p) broken stored = cc
unstored (reply.RefusedSpent p) broken stored = cc
unstored (reply.Value k v) broken stored = cc
unstored (reply.Absent k) broken stored = cc
unstored reply.Armed broken stored = cc
unstored reply.Cut broken stored = cc
unstored reply.Fault broken stored = cc

-- also where the store is opened first
taken_first : (its : Config) (spent : ℕ → Bool) (c : KeyCommand) (old new : KeyPoint) (r : KeyReply) →
    DoesCommand its spent c old r new →
    ((new.keys ≡ old.keys) ⊎ (new.keys ≡ apply old.keys (changes_in c)))
    × (is_stored r ≡ true → new.keys ≡ apply old.keys (changes_in c))
taken_first its spent c old new r h = by (arms_key_cut c) old.up h
  where
    by : (arm up : Bool) → MatchBool arm (DoesKeys its spent c old r new × (new.up ≡ old.up))
        (MatchBool up (IsDone its spent c old r new) (OpensFirst its spent c old r new)) →
        ((new.keys ≡ old.keys) ⊎ (new.keys ≡ apply old.keys (changes_in c)))
        × (is_stored r ≡ true → new.keys ≡ apply old.keys (changes_in c))
    by true up h = taken its spent c old new r h.0
    by false true h = taken its spent c old new r h.does
    by false false (inl not) = (inl not.keys, λ stored. absurd (unstored r not.broken stored))
    by false false (inr done) =
        taken its spent c (record { keys = old.keys; up = true; flash = done.0 }) new r done.2.does

pub at_once : (its : Config) (seen : ℕ → ℕ) (old : KeyPoint) (cs : List KeyCommand)
    (rs : List KeyReply) (ps : List KeyPoint) → KeyRun its seen old cs rs ps →
    ChangesAtOnce old cs rs ps
at_once its seen old [] [] [] run = tt
at_once its seen old [] [] (q ∷ ps) run = absurd run
at_once its seen old [] (s ∷ rs) ps run = absurd run
at_once its seen old (d ∷ cs) [] ps run = absurd run
at_once its seen old (d ∷ cs) (s ∷ rs) [] run = absurd run
at_once its seen old (d ∷ cs) (s ∷ rs) (q ∷ ps) run =
    let one = taken_first its run.0.0 d old q s run.0.2.does in
    (one.0, one.1, at_once its (seen_next its seen d s q) q cs rs ps run.2)

-- a run ends at a point whose image is sound and shows its map
pub last_is_point : (its : Config) (seen : ℕ → ℕ) (old : KeyPoint) (cs : List KeyCommand)
    (rs : List KeyReply) (ps : List KeyPoint) → IsKeyPoint its old → KeyRun its seen old cs rs ps →
    IsKeyPoint its (last_point old ps)
last_is_point its seen old [] [] [] is run = is
last_is_point its seen old [] [] (q ∷ ps) is run = absurd run
last_is_point its seen old [] (s ∷ rs) ps is run = absurd run
last_is_point its seen old (d ∷ cs) [] ps is run = absurd run
last_is_point its seen old (d ∷ cs) (s ∷ rs) [] is run = absurd run
last_is_point its seen old (d ∷ cs) (s ∷ rs) (q ∷ ps) is run =
    last_is_point its (seen_next its seen d s q) q cs rs ps run.1.0 run.2
