-- Going on with a transaction up to its end.
use Rattle.array_runs.proofs.Common.{◌≡◌, ◌≢◌, ◌⊎◌, ℕ, ◌+◌, ◌<◌, ◌≤◌, Bool, true, false, cond, List, [], ◌∷◌, length, map, Contains, Option, Some, None, Result, Ok, Err, refl, sym, ap, ◌∙◌, subst, inl, inr, arith, MatchOption, Contains-cases, Contains-nil, ArrayState, Entry, Pages, entry_of, has_tag, is_doubted, put, with_entry, Steps, StepGives, IsAtLast, doubted, settled, settled_entry, settled_mark, Mark, Plain, Doubt, Whole, Progress, StepError, Reply, Finishes, step_reply}
use Rattle.std.proofs.Common.{◌-◌, max}
use Rattle.std.proofs.Common.{ap₂}
use Rattle.list_lemmas.proofs.Tests.{find_stands}
use Rattle.list_lemmas.proofs.Membership.{Contains-first, Contains-rest, in_map}
use Rattle.array_machine.specs.Step.{CutLeaves, MayTake}
use Rattle.array_machine.specs.declared.answers.Progress.TheVariants as progress
use Rattle.array_machine.specs.declared.answers.StepError.TheVariants as failed
use Rattle.array_machine.proofs.UnbrokenCalls.{tagged, again}
use Rattle.host_protocol.specs.declared.reply.Reply.TheVariants as reply
use Rattle.array_runs.specs.Run.{left_of, pages_left}

-- A step that wrote a page
pub record Writes (there : Bool) (old new : ArrayState) (tag : ℕ) (e : Entry) : Type 0 where
  pub found : entry_of tag old.entries ≡ Some e
  pub plain : settled_mark there e.mark ≡ Plain
  pub more : e.done + 1 < length e.writes
  pub new_is : new ≡ record (settled there old) {
    entries = with_entry tag
        (record (settled_entry there e) { done = e.done + 1 }) (settled there old).entries;
  }

pub found_writes : (o : Option Entry) (there : Bool) (old new : ArrayState) (tag done all : ℕ)
    (result : Result Progress StepError) →
    entry_of tag old.entries ≡ o → result ≡ Ok (progress.Wrote done all) →
    MatchOption o ((result ≡ Err failed.Unknown) × (new ≡ old))
    (λ e. StepGives old (settled there old) tag (settled_entry there e) result new) → (e : Entry) ×
    Writes there old new tag e
found_writes None there old new tag done all result found is h = cc
found_writes (Some e) there old new tag done all result found is h =
    let goes = subst (λ (x : Result Progress StepError). StepGives old (settled there old) tag (settled_entry there e)
    x new) is h in
    (e, record { found = found; plain = goes.0; more = goes.1; new_is = goes.4 })

-- the step of a reply
pub told_wrote : (own tag done all : ℕ) (result : Result Progress StepError) →
    reply.Wrote own done all ≡ step_reply tag result →
    result ≡ Ok (progress.Wrote done all)
told_wrote own tag done all (Ok (progress.Wrote d a)) h = cc
told_wrote own tag done all (Ok progress.Done) h = cc
told_wrote own tag done all (Err failed.Unknown) h = cc
told_wrote own tag done all (Err failed.Fault) h = cc

pub step_writes : (old new : ArrayState) (own tag done all : ℕ) (result : Result Progress StepError) →
    Steps old new tag result →
    reply.Wrote own done all ≡ step_reply tag result →
    (there : Bool) × (e : Entry) × Writes there old new tag e
step_writes old new own tag done all result steps told =
    let w = found_writes (entry_of tag old.entries) steps.0 old new tag done all result refl
    (told_wrote own tag done all result told) steps.1 in
    (steps.0, w.0, w.1)

-- the transaction in the settled state
settled_step : (there : Bool) (tag : ℕ) (x e : Entry) (es : List Entry) (b : Bool) → has_tag tag x ≡ b →
    (entry_of tag es ≡ Some e → entry_of tag (map (settled_entry there) es) ≡ Some (settled_entry there e)) →
    cond b (Some x) (entry_of tag es) ≡ Some e →
    cond b (Some (settled_entry there x)) (entry_of tag (map (settled_entry there) es)) ≡ Some (settled_entry there e)
settled_step there tag x e es true is rest h = let same : x ≡ e = cc in ap (λ y. Some (settled_entry there y)) same
settled_step there tag x e es false is rest h = rest h

pub settled_found : (there : Bool) (tag : ℕ) (e : Entry) (es : List Entry) → entry_of tag es ≡ Some e →
    entry_of tag (map (settled_entry there) es) ≡ Some (settled_entry there e)
settled_found there tag e [] h = cc
settled_found there tag e (x ∷ es) h = settled_step there tag x e es (has_tag tag x) refl
    (settled_found there tag e es) h

-- it is still there, with a page less to write
pub wrote_found : (old new : ArrayState) (there : Bool) (tag : ℕ) (e : Entry) → Writes there old new tag e →
    entry_of tag new.entries ≡ Some (record (settled_entry there e) { done = e.done + 1 })
wrote_found old new there tag e w =
    let next : Entry = record (settled_entry there e) { done = e.done + 1 } in
    let t : has_tag tag next ≡ true = tagged tag old.entries e w.found in
    ap (λ (s : ArrayState). entry_of tag s.entries) w.new_is
    ∙ again tag next (settled_entry there e) (map (settled_entry there) old.entries) t
    (settled_found there tag e old.entries w.found)

pub fewer_left : (old new : ArrayState) (there : Bool) (tag : ℕ) (e : Entry) → Writes there old new tag e →
    (pages_left tag new < pages_left tag old) × (0 < pages_left tag new)
fewer_left old new there tag e w =
    let now : pages_left tag new ≡ length e.writes - (e.done + 1) = ap left_of (wrote_found old new there tag e w) in
    let before : pages_left tag old ≡ length e.writes - e.done = ap left_of w.found in
    let more = w.more in (omega (arith, now, before, more), omega (arith, now, more))

-- nothing is in doubt
pub sure_mark : (there : Bool) (m : Mark) → is_doubted (settled_mark there m) ≡ false
sure_mark there Plain = refl
sure_mark true Doubt = refl
sure_mark false Doubt = refl
sure_mark there Whole = refl

sure_settled : (there : Bool) (es : List Entry) → doubted (map (settled_entry there) es) ≡ []
sure_settled there [] = refl
sure_settled there (e ∷ es) = rw (sure_mark there e.mark) (sure_settled there es)

sure_with : (there : Bool) (tag : ℕ) (new : Entry) (es : List Entry) → is_doubted new.mark ≡ false →
    doubted (with_entry tag new (map (settled_entry there) es)) ≡ []
sure_with there tag new [] is = refl
sure_with there tag new (e ∷ es) is = elim (has_tag tag e) as (λ b. doubted (cond b (new ∷ map (settled_entry there) es)
    (settled_entry there e ∷ with_entry tag new (map (settled_entry there) es))) ≡ []) [
      | true ↦ rw is (sure_settled there es)
      | false ↦ rw (sure_mark there e.mark) (sure_with there tag new es is)
    ]

pub settled_sure : (there : Bool) (s : ArrayState) → doubted s.entries ≡ [] → (settled there s).pages ≡ s.pages
settled_sure true s is = ap (put s.pages) is
settled_sure false s is = refl

-- each of its transactions is one of before, with its tag and its pages
abbrev IsFrom : List Entry → Entry → Type 0
IsFrom es e = (old : Entry) × Contains es old × (old.tag ≡ e.tag) × (old.writes ≡ e.writes)

from_more : (x : Entry) (es : List Entry) (e : Entry) → IsFrom es e → IsFrom (x ∷ es) e
from_more x es e h = (h.0, Contains-rest x es h.0 h.1, h.2, h.3)

settled_from : (there : Bool) (es : List Entry) (e : Entry) → Contains (map (settled_entry there) es) e → IsFrom es e
settled_from there es e c =
    let at = in_map (settled_entry there) es e c in
    (at.0, at.1, ap (λ (y : Entry). y.tag) at.2, ap (λ (y : Entry). y.writes) at.2)

with_step : (there : Bool) (tag : ℕ) (new x e : Entry) (es : List Entry) (b : Bool) →
    (Contains (with_entry tag new (map (settled_entry there) es)) e → (new ≡ e) ⊎ IsFrom es e) →
    Contains (cond b (new ∷ map (settled_entry there) es) (settled_entry there x
    ∷ with_entry tag new (map (settled_entry there) es))) e → (new ≡ e) ⊎
    IsFrom (x ∷ es) e
with_step there tag new x e es true rest c = elim (Contains-cases new (map (settled_entry there) es) e c) [
  | inl same ↦ inl same
  | inr i ↦ inr (from_more x es e (settled_from there es e i))
]
with_step there tag new x e es false rest c =
    elim (Contains-cases (settled_entry there x) (with_entry tag new (map (settled_entry there) es)) e c) [
      | inl same ↦ inr (x, Contains-first x es, ap (λ (y : Entry). y.tag) same, ap (λ (y : Entry). y.writes) same)
      | inr i ↦ elim (rest i) [ inl same ↦ inl same | inr from ↦ inr (from_more x es e from) ]
    ]

with_from : (there : Bool) (tag : ℕ) (new e : Entry) (es : List Entry) →
    Contains (with_entry tag new (map (settled_entry there) es)) e → (new ≡ e) ⊎
    IsFrom es e
with_from there tag new e [] i = absurd (Contains-nil e i)
with_from there tag new e (x ∷ es) i =
    with_step there tag new x e es (has_tag tag x) (λ j. with_from there tag new e es j) i

pub found_is_in : (tag : ℕ) (es : List Entry) (e : Entry) → entry_of tag es ≡ Some e → Contains es e
found_is_in tag es e h = (find_stands (has_tag tag) es e h).0

from_mid : (there : Bool) (old mid : ArrayState) (tag : ℕ) (e other : Entry) → Writes there old mid tag e →
    Contains mid.entries other →
    IsFrom old.entries other
from_mid there old mid tag e other w i =
    let next : Entry = record (settled_entry there e) { done = e.done + 1 } in
    elim (with_from there tag next other old.entries (subst (λ (s : ArrayState). Contains s.entries other)
    w.new_is i)) [
      | inl same ↦ (
        e,
        found_is_in tag old.entries e w.found,
        ap (λ (y : Entry). y.tag) same,
        ap (λ (y : Entry). y.writes) same,
      )
      | inr from ↦ from
    ]

-- the array comes from the settled one, with the pages of a transaction of this kind or not
abbrev pub Comes : (Entry → Type 0) → ArrayState → Pages → Type 0
Comes Q old pages = (there : Bool) × MayTake (settled there old).pages (λ e. Contains old.entries e × Q e) pages

-- So what comes of the state after the step comes of the one before, by transactions whose tags are of a kind.
pub comes_before : (Q : ℕ → Type 0) (there : Bool) (old mid : ArrayState) (pages : Pages) (tag : ℕ) (e : Entry) →
    Writes there old mid tag e →
    Comes (λ x. Q x.tag) mid pages → Comes (λ x. Q x.tag) old pages
comes_before Q there old mid pages tag e w h =
    let sure : doubted mid.entries ≡ [] = ap (λ (s : ArrayState). doubted s.entries) w.new_is
    ∙ sure_with there tag (record (settled_entry there e) { done = e.done + 1 }) old.entries (sure_mark there e.mark) in
    let same_pages : (settled h.0 mid).pages ≡ (settled there old).pages = settled_sure h.0 mid sure
    ∙ ap (λ (s : ArrayState). s.pages) w.new_is in (
      there,
      elim h.1 [
        | inl same ↦ inl (same ∙ same_pages)
        | inr took ↦ (
            let other = took.0 in
            let from = from_mid there old mid tag e other w took.1.0 in
            inr (from.0, (from.1, subst Q (sym from.2) took.1.1), took.2 ∙ ap₂ put same_pages (sym from.3)))
      ],
    )

-- and what a power cut leaves
abbrev pub IsOf : ℕ → Entry → Type 0
IsOf tag e = e.tag ≡ tag

pub cut_before : (there : Bool) (old mid new : ArrayState) (tag : ℕ) (e : Entry) → Writes there old mid tag e →
    CutLeaves (IsOf tag) mid new →
    CutLeaves (IsOf tag) old new
cut_before there old mid new tag e w h =
    let before = comes_before (λ t. t ≡ tag) there old mid new.pages tag e w (h.0, h.1) in (before.0, before.1, h.2)

-- The last of the steps
pub at_last : (tag : ℕ) (old new : ArrayState) → CutLeaves (λ e. (e.tag ≡ tag) × IsAtLast e) old new →
    CutLeaves (IsOf tag) old new
at_last tag old new h = (
  h.0,
  elim h.1 [
    | inl same ↦ inl same
    | inr took ↦ inr (took.0, (took.1.0, took.1.1.0), took.2)
  ],
  h.2,
)

pub ends : (old new : ArrayState) (tag : ℕ) (r : Reply) (result : Result Progress StepError) →
    ((own done all : ℕ) → r ≢ reply.Wrote own done all) →
    r ≡ step_reply tag result → Steps old new tag result →
    Finishes old [] new tag result
ends old new tag r (Ok (progress.Wrote done all)) last told steps = absurd (last tag done all told)
ends old new tag r (Ok progress.Done) last told steps = steps
ends old new tag r (Err e) last told steps = steps

-- So there are no more steps than pages left, and at least one.
pub steps_left : (old : ArrayState) (mids : List ArrayState) (new : ArrayState) (tag : ℕ)
    (result : Result Progress StepError) →
    Finishes old mids new tag result →
    length mids + 1 ≤ max 1 (pages_left tag old)
steps_left old [] new tag result h = omega arith
steps_left old (mid ∷ mids) new tag result h =
    let rest : length mids + 1 ≤ max 1 (pages_left tag mid) = steps_left mid mids new tag result h.3 in
    let w = found_writes (entry_of tag old.entries) h.2.0 old mid tag h.0 h.1 (Ok (progress.Wrote h.0 h.1))
    refl refl h.2.1 in
    let less = fewer_left old mid h.2.0 tag w.0 w.1 in
    omega (arith, rest, less.0, less.1)
