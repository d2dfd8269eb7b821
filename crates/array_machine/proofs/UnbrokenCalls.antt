-- Where nothing is in doubt and nothing fails, the calls of the array machine are functions.
use Rattle.array_machine.proofs.Common.{◌≡◌, ◌≢◌, ℕ, ◌+◌, Bool, true, false, cond, List, [], ◌∷◌, length, map, Option, Some, None, Result, Ok, Err, refl, sym, ap, ◌∙◌, subst, inl, inr, arith, MatchOption, count_by, cases_Bool, All-cons, All-head, All-tail, All-take, sum_by-cons, ArrayState, Entry, entry_of, has_tag, put, with_entry, without, Mark, Plain, Doubt, Whole, GoInTurn, StepsAll, settled, settled_mark, settled_entry, doubted, StepGives, Steps, AbortGives, Aborts, finish_answer, Aborted, Moved, Progress, StepError}
use Rattle.std.proofs.Common.{ap₂}
use Rattle.std.specs.Prelude.{All, IfSome, not, take}
use Rattle.std.proofs.lemmas.Bool.Decides.{nat_tests}
use Rattle.array_machine.specs.Batches.{is_done}
use Rattle.array_machine.specs.UnbrokenCalls.{AllPlain, has_more, is_ending, taken, step_answer, stepped, stepped_each, finished, abort_answer}
use Rattle.array_machine.specs.UnbrokenCalls.{aborted_from}
use Rattle.array_machine.specs.declared.answers.Aborted.TheVariants as aborted
use Rattle.array_machine.specs.declared.answers.Progress.TheVariants as progress
use Rattle.array_machine.specs.declared.answers.StepError.TheVariants as failed

abbrev pub IsPlain : Entry → Type 0
IsPlain e = e.mark ≡ Plain

-- Settling
same_mark : (there : Bool) (m : Mark) → m ≡ Plain → settled_mark there m ≡ m
same_mark there Plain h = refl
same_mark there Doubt h = cc
same_mark there Whole h = refl

pub same_entry : (there : Bool) (e : Entry) → IsPlain e → settled_entry there e ≡ e
same_entry there e h = ap (λ m. record e { mark = m }) (same_mark there e.mark h)

pub nothing_doubted : (es : List Entry) → All IsPlain es → doubted es ≡ []
nothing_doubted [] h = refl
nothing_doubted (e ∷ es) h = let m = All-head IsPlain e es h in rw m (nothing_doubted es (All-tail IsPlain e es h))

pub same_entries : (there : Bool) (es : List Entry) → All IsPlain es → map (settled_entry there) es ≡ es
same_entries there [] h = refl
same_entries there (e ∷ es) h =
    let rest = same_entries there es (All-tail IsPlain e es h) in
    let first = same_entry there e (All-head IsPlain e es h) in
    ap (λ f. f ∷ map (settled_entry there) es) first ∙ ap (λ fs. e ∷ fs) rest

pub settled_same : (there : Bool) (s : ArrayState) → AllPlain s → settled there s ≡ s
settled_same true s h =
    ap (λ ws. record { pages = put s.pages ws; entries = map (settled_entry true) s.entries })
    (nothing_doubted s.entries h)
    ∙ ap (λ es. record s { entries = es }) (same_entries true s.entries h)
settled_same false s h = ap (λ es. record s { entries = es }) (same_entries false s.entries h)

-- The entry of a tag
found_step : (b : Bool) (e f : Entry) (r : Option Entry) → IsPlain e → IfSome r IsPlain →
    IfSome (cond b (Some e) r) IsPlain
found_step true e f r h k = h
found_step false e f r h k = k

pub found_plain : (tag : ℕ) (es : List Entry) → All IsPlain es → IfSome (entry_of tag es) IsPlain
found_plain tag [] h = tt
found_plain tag (e ∷ es) h = found_step (has_tag tag e) e e (entry_of tag es) (All-head IsPlain e es h)
    (found_plain tag es (All-tail IsPlain e es h))

without_step : (b : Bool) (e : Entry) (es rest : List Entry) → IsPlain e → All IsPlain es → All IsPlain rest →
    All IsPlain (cond b es (e ∷ rest))
without_step true e es rest h k l = k
without_step false e es rest h k l = All-cons IsPlain e rest h l

pub without_plain : (tag : ℕ) (es : List Entry) → All IsPlain es → All IsPlain (without tag es)
without_plain tag [] h = h
without_plain tag (e ∷ es) h =
    let rest = All-tail IsPlain e es h in
    without_step (has_tag tag e) e es (without tag es) (All-head IsPlain e es h) rest (without_plain tag es rest)

with_step : (b : Bool) (new e : Entry) (es rest : List Entry) → IsPlain new → IsPlain e → All IsPlain es →
    All IsPlain rest →
    All IsPlain (cond b (new ∷ es) (e ∷ rest))
with_step true new e es rest n h k l = All-cons IsPlain new es n k
with_step false new e es rest n h k l = All-cons IsPlain e rest h l

pub with_plain : (tag : ℕ) (new : Entry) (es : List Entry) → IsPlain new → All IsPlain es →
    All IsPlain (with_entry tag new es)
with_plain tag new [] n h = h
with_plain tag new (e ∷ es) n h =
    let rest = All-tail IsPlain e es h in
    with_step (has_tag tag e) new e es (with_entry tag new es) n (All-head IsPlain e es h) rest
    (with_plain tag new es n rest)

-- A step
abbrev Fine : ArrayState → ℕ → Option Entry → ArrayState → Result Progress StepError → Type 0
Fine old tag o new result = (result ≡ step_answer o) × (new ≡ stepped o tag old) × AllPlain new

more_fine : (b : Bool) (old new : ArrayState) (tag : ℕ) (e : Entry) (result : Result Progress StepError) →
    has_more e ≡ true →
    result ≡ Ok (progress.Wrote (e.done + 1) (length e.writes)) →
    new ≡ record old { entries = with_entry tag (record e { done = e.done + 1 }) old.entries } →
    (result ≡ step_answer (Some e)) × (new ≡ stepped (Some e) tag old)
more_fine b old new tag e result more is state = (rw more is, rw more state)

last_fine : (old new : ArrayState) (tag : ℕ) (e : Entry) (result : Result Progress StepError) → has_more e ≡ false →
    result ≡ Ok progress.Done → new ≡ taken tag e old →
    (result ≡ step_answer (Some e)) × (new ≡ stepped (Some e) tag old)
last_fine old new tag e result last is state = (rw last is, rw last state)

not_whole : (e : Entry) → IsPlain e → e.mark ≡ Whole → ⊥
not_whole e h k = let both = sym h ∙ k in cc

gives_fine : (old new : ArrayState) (tag : ℕ) (e : Entry) (result : Result Progress StepError) →
    AllPlain old → IsPlain e →
    StepGives old old tag e result new → result ≢ Err failed.Fault → Fine old tag (Some e) new result
gives_fine old new tag e (Ok (progress.Wrote done all)) plain p h fine =
    let more : has_more e ≡ true = let lt = h.1 in grind (arith, nat_tests) in
    let answer : Ok (progress.Wrote done all) ≡ Ok (progress.Wrote (e.done + 1) (length e.writes)) =
    ap₂ (λ d a. Ok (progress.Wrote d a)) h.2 h.3 in
    let both = more_fine true old new tag e (Ok (progress.Wrote done all)) more answer h.4 in
    let kept = with_plain tag (record e { done = e.done + 1 }) old.entries p plain in
    (both.0, both.1, subst AllPlain (sym h.4) kept)
gives_fine old new tag e (Ok progress.Done) plain p h fine = elim h [
  | inl whole ↦ absurd (not_whole e p whole.0)
  | inr last ↦ (
      let end : has_more e ≡ false = let at : e.done + 1 ≡ length e.writes = last.1 in grind (arith, nat_tests) in
      let both = last_fine old new tag e (Ok progress.Done) end refl last.2 in
      let kept = without_plain tag old.entries plain in
      (both.0, both.1, subst AllPlain (sym last.2) kept))
]
gives_fine old new tag e (Err failed.Unknown) plain p h fine = absurd h
gives_fine old new tag e (Err failed.Fault) plain p h fine = absurd (fine refl)

found_fine : (there : Bool) (old new : ArrayState) (tag : ℕ) (o : Option Entry) (result : Result Progress StepError) →
    AllPlain old → IfSome o IsPlain →
    MatchOption o ((result ≡ Err failed.Unknown) × (new ≡ old))
    (λ e. StepGives old (settled there old) tag (settled_entry there e) result new) →
    result ≢ Err failed.Fault → Fine old tag o new result
found_fine there old new tag None result plain p h fine = (h.0, h.1, subst AllPlain (sym h.1) plain)
found_fine there old new tag (Some e) result plain p h fine =
    let on_old = subst (λ (mid : ArrayState). StepGives old mid tag (settled_entry there e) result new)
    (settled_same there old plain) h in
    let on_same = subst (λ (f : Entry). StepGives old old tag f result new) (same_entry there e p) on_old in
    gives_fine old new tag e result plain p on_same fine

pub step_fine : (old new : ArrayState) (tag : ℕ) (result : Result Progress StepError) → AllPlain old →
    Steps old new tag result → result ≢ Err failed.Fault →
    (result ≡ step_answer (entry_of tag old.entries)) × (new ≡ stepped (entry_of tag old.entries) tag old)
    × AllPlain new
step_fine old new tag result plain h fine =
    found_fine h.0 old new tag (entry_of tag old.entries) result plain (found_plain tag old.entries plain) h.1 fine

-- Several at once
abbrev ends : Result Progress StepError → Bool
ends (Ok p) = is_done p
ends (Err e) = false

answer_ends : (e : Entry) → ends (step_answer (Some e)) ≡ is_ending e
answer_ends e = elim (has_more e) as (λ b. ends (cond b (Ok (progress.Wrote (e.done + 1) (length e.writes)))
    (Ok progress.Done)) ≡ not b) [
      | true ↦ refl
      | false ↦ refl
    ]

pub record TurnsFine (s : ArrayState) (es : List Entry) (ps : List Progress) (new : ArrayState) : Type 0 where
  pub state : new ≡ stepped_each es s
  pub gone : count_by is_done ps ≡ count_by is_ending es
  pub plain : AllPlain new

turn_fine : (es : List Entry) (ps : List Progress) (s new : ArrayState) → AllPlain s → All IsPlain es →
    GoInTurn s es ps new → TurnsFine s es ps new
turn_fine [] [] s new plain each h = record { state = h; gone = refl; plain = subst AllPlain (sym h) plain }
turn_fine [] (p ∷ ps) s new plain each h = absurd h
turn_fine (e ∷ es) [] s new plain each h = absurd h
turn_fine (e ∷ es) (p ∷ ps) s new plain each (found, (mid, goes, h)) =
    let one = gives_fine s mid e.tag e (Ok p) plain (All-head IsPlain e es each) goes (λ no. cc) in
    let rest = turn_fine es ps mid new one.2 (All-tail IsPlain e es each) h in
    let is : is_done p ≡ is_ending e = ap ends one.0 ∙ answer_ends e in
    record {
      state = rest.state ∙ ap (stepped_each es) one.1;
      gone = sum_by-cons (λ x. cond (is_done x) 1 0) p ps ∙ ap₂ (λ (b : Bool) n. cond b 1 0 + n) is rest.gone
          ∙ sym (sum_by-cons (λ x. cond (is_ending x) 1 0) e es);
      plain = rest.plain;
    }

pub step_all_fine : (old new : ArrayState) (answer : Moved) → AllPlain old → StepsAll old new answer →
    (answer.finished ≡ count_by is_ending (take answer.moved old.entries))
    × (new ≡ stepped_each (take answer.moved old.entries) old) × AllPlain new
step_all_fine old new answer plain (there, h) =
    let go = subst (λ (s : ArrayState). GoInTurn s (take answer.moved s.entries) h.each new)
    (settled_same there old plain) h.go in
    let fine = turn_fine (take answer.moved old.entries) h.each old new plain
    (All-take IsPlain answer.moved old.entries plain) go in
    (h.finished ∙ fine.gone, fine.state, fine.plain)

-- An abort
abort_gives : (old new : ArrayState) (tag : ℕ) (e : Entry) (result : Result Aborted StepError) →
    AllPlain old → IsPlain e →
    AbortGives old old tag e result new → result ≢ Err failed.Fault →
    (result ≡ abort_answer (Some e)) × (new ≡ aborted_from (Some e) tag old) × AllPlain new
abort_gives old new tag e (Ok aborted.Gone) plain p h fine =
    (refl, h.1, subst AllPlain (sym h.1) (without_plain tag old.entries plain))
abort_gives old new tag e (Ok aborted.Late) plain p h fine = absurd (not_whole e p h.0)
abort_gives old new tag e (Err failed.Unknown) plain p h fine = absurd h
abort_gives old new tag e (Err failed.Fault) plain p h fine = absurd (fine refl)

abort_found : (there : Bool) (old new : ArrayState) (tag : ℕ) (o : Option Entry) (result : Result Aborted StepError) →
    AllPlain old → IfSome o IsPlain →
    MatchOption o ((result ≡ Err failed.Unknown) × (new ≡ old))
    (λ e. AbortGives old (settled there old) tag (settled_entry there e) result new) →
    result ≢ Err failed.Fault → (result ≡ abort_answer o) × (new ≡ aborted_from o tag old) × AllPlain new
abort_found there old new tag None result plain p h fine = (h.0, h.1, subst AllPlain (sym h.1) plain)
abort_found there old new tag (Some e) result plain p h fine =
    let on_old = subst (λ (mid : ArrayState). AbortGives old mid tag (settled_entry there e) result new)
    (settled_same there old plain) h in
    let on_same = subst (λ (f : Entry). AbortGives old old tag f result new) (same_entry there e p) on_old in
    abort_gives old new tag e result plain p on_same fine

pub abort_fine : (old new : ArrayState) (tag : ℕ) (result : Result Aborted StepError) → AllPlain old →
    Aborts old new tag result → result ≢ Err failed.Fault →
    (result ≡ abort_answer (entry_of tag old.entries)) × (new ≡ aborted_from (entry_of tag old.entries) tag old)
    × AllPlain new
abort_fine old new tag result plain h fine =
    abort_found h.0 old new tag (entry_of tag old.entries) result plain (found_plain tag old.entries plain) h.1 fine

-- A transaction that wrote one page more
tagged_step : (tag : ℕ) (x e : Entry) (r : Option Entry) (b : Bool) → has_tag tag x ≡ b →
    (r ≡ Some e → has_tag tag e ≡ true) → cond b (Some x) r ≡ Some e →
    has_tag tag e ≡ true
tagged_step tag x e r true is rest h = let same : x ≡ e = cc in ap (has_tag tag) (sym same) ∙ is
tagged_step tag x e r false is rest h = rest h

pub tagged : (tag : ℕ) (es : List Entry) (e : Entry) → entry_of tag es ≡ Some e → has_tag tag e ≡ true
tagged tag [] e h = cc
tagged tag (x ∷ xs) e h = tagged_step tag x e (entry_of tag xs) (has_tag tag x) refl (tagged tag xs e) h

again_step : (tag : ℕ) (new x e : Entry) (xs : List Entry) (b : Bool) → has_tag tag x ≡ b → has_tag tag new ≡ true →
    (entry_of tag xs ≡ Some e → entry_of tag (with_entry tag new xs) ≡ Some new) →
    cond b (Some x) (entry_of tag xs) ≡ Some e →
    entry_of tag (cond b (new ∷ xs) (x ∷ with_entry tag new xs)) ≡ Some new
again_step tag new x e xs true is t rest h = rw t refl
again_step tag new x e xs false is t rest h = rw is (rest h)

pub again : (tag : ℕ) (new e : Entry) (es : List Entry) → has_tag tag new ≡ true → entry_of tag es ≡ Some e →
    entry_of tag (with_entry tag new es) ≡ Some new
again tag new e [] t h = cc
again tag new e (x ∷ xs) t h = again_step tag new x e xs (has_tag tag x) refl t (again tag new e xs t) h

goes_step : (tag : ℕ) (new x : Entry) (xs : List Entry) (b : Bool) → has_tag tag x ≡ b → has_tag tag new ≡ true →
    without tag (with_entry tag new xs) ≡ without tag xs → without tag (cond b (new ∷ xs) (x ∷ with_entry tag new xs))
    ≡ cond b xs (x ∷ without tag xs)
goes_step tag new x xs true is t rest = rw t refl
goes_step tag new x xs false is t rest = rw is (ap (λ es. x ∷ es) rest)

pub goes_again : (tag : ℕ) (new : Entry) (es : List Entry) → has_tag tag new ≡ true →
    without tag (with_entry tag new es) ≡ without tag es
goes_again tag new [] t = refl
goes_again tag new (x ∷ xs) t = goes_step tag new x xs (has_tag tag x) refl t (goes_again tag new xs t)

-- The last of the steps
last_done : (o : Option Entry) (tag : ℕ) (s : ArrayState) → Ok progress.Done ≡ step_answer o →
    (Ok progress.Done ≡ finish_answer o) ×
    (stepped o tag s ≡ finished o tag s)
last_done None tag s h = cc
last_done (Some e) tag s h = elim (cases_Bool (has_more e)) [
  | inl more ↦ (let is : step_answer (Some e) ≡ Ok (progress.Wrote (e.done + 1) (length e.writes)) = rw more refl in
      let both = h ∙ is in cc)
  | inr last ↦ (refl, rw last refl)
]

last_unknown : (o : Option Entry) (tag : ℕ) (s : ArrayState) → Err failed.Unknown ≡ step_answer o →
    (Err failed.Unknown ≡ finish_answer o) ×
    (stepped o tag s ≡ finished o tag s)
last_unknown None tag s h = (refl, refl)
last_unknown (Some e) tag s h = elim (cases_Bool (has_more e)) [
  | inl more ↦ (let is : step_answer (Some e) ≡ Ok (progress.Wrote (e.done + 1) (length e.writes)) = rw more refl in
      let both = h ∙ is in cc)
  | inr last ↦ (let is : step_answer (Some e) ≡ Ok progress.Done = rw last refl in let both = h ∙ is in cc)
]

-- the last of them leaves what all of them leave
pub last_finishes : (old new : ArrayState) (tag : ℕ) (result : Result Progress StepError) → AllPlain old →
    Steps old new tag result →
    result ≢ Err failed.Fault →
    ((done : ℕ) → (all : ℕ) → result ≢ Ok (progress.Wrote done all)) →
    (result ≡ finish_answer (entry_of tag old.entries)) × (new ≡ finished (entry_of tag old.entries) tag old)
    × AllPlain new
last_finishes old new tag (Ok (progress.Wrote done all)) plain h fine ended = absurd (ended done all refl)
last_finishes old new tag (Ok progress.Done) plain h fine ended =
    let is = step_fine old new tag (Ok progress.Done) plain h fine in
    let last = last_done (entry_of tag old.entries) tag old is.0 in
    (last.0, is.1 ∙ last.1, is.2)
last_finishes old new tag (Err failed.Unknown) plain h fine ended =
    let is = step_fine old new tag (Err failed.Unknown) plain h fine in
    let last = last_unknown (entry_of tag old.entries) tag old is.0 in
    (last.0, is.1 ∙ last.1, is.2)
last_finishes old new tag (Err failed.Fault) plain h fine ended = absurd (fine refl)

wrote_more : (old : ArrayState) (tag done all : ℕ) (o : Option Entry) → entry_of tag old.entries ≡ o →
    Ok (progress.Wrote done all) ≡ step_answer o →
    (finish_answer (entry_of tag (stepped o tag old).entries) ≡ finish_answer o)
    × (finished (entry_of tag (stepped o tag old).entries) tag (stepped o tag old) ≡ finished o tag old)
wrote_more old tag done all None is h = cc
wrote_more old tag done all (Some e) is h = elim (cases_Bool (has_more e)) [
  | inl more ↦ (
      let next : Entry = record e { done = e.done + 1 } in
      let t = tagged tag old.entries e is in
      let found : entry_of tag (with_entry tag next old.entries) ≡ Some next = again tag next e old.entries t is in
      let gone : without tag (with_entry tag next old.entries) ≡ without tag old.entries =
      goes_again tag next old.entries t in
      let mid : stepped (Some e) tag old ≡ record old { entries = with_entry tag next old.entries } = rw more refl in
      let at : entry_of tag (stepped (Some e) tag old).entries ≡ Some next = ap (λ s. entry_of tag s.entries) mid
      ∙ found in (
        ap finish_answer at,
        ap₂ (λ o s. finished o tag s) at mid ∙ ap (λ es. record { pages = put old.pages e.writes; entries = es }) gone,
      ))
  | inr last ↦ (let ends : step_answer (Some e) ≡ Ok progress.Done = rw last refl in let both = h ∙ ends in cc)
]

-- a step that wrote a page leaves to the others what they are to do
pub wrote_finishes : (old mid : ArrayState) (tag done all : ℕ) → AllPlain old →
    Steps old mid tag (Ok (progress.Wrote done all)) →
    AllPlain mid × (finish_answer (entry_of tag mid.entries) ≡ finish_answer (entry_of tag old.entries))
    × (finished (entry_of tag mid.entries) tag mid ≡ finished (entry_of tag old.entries) tag old)
wrote_finishes old mid tag done all plain h =
    let is = step_fine old mid tag (Ok (progress.Wrote done all)) plain h (λ e. cc) in
    let more = wrote_more old tag done all (entry_of tag old.entries) refl is.0 in (
      is.2,
      ap (λ s. finish_answer (entry_of tag s.entries)) is.1 ∙ more.0,
      ap (λ s. finished (entry_of tag s.entries) tag s) is.1 ∙ more.1,
    )
