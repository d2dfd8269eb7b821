-- Transactions of which each was taken or not, by itself, and what a command may take.
use Rattle.array_runs.proofs.Common.{◌≡◌, ℕ, Bool, List, [], ◌∷◌, length, map, take, refl, ap, ◌∙◌, inl, inr, Contains, All-head, All-tail, All-contains, Entry, Pages, page_at, put, settled_entry, Command, Avoid, AllAvoid, EntriesAreApart, HasSame}
use Rattle.std.proofs.Common.{zero, suc}
use Rattle.list_lemmas.proofs.Membership.{Contains-first, Contains-rest}
use Rattle.array_machine.specs.Batches.{MayTakeEach}
use Rattle.array_machine.specs.Step.{MayTake}
use Rattle.host_protocol.specs.declared.command.Command.TheVariants as command
use Rattle.array_runs.specs.Run.{TakesOf}
use Rattle.array_runs.proofs.Apart.{WholeOrSame, SameOrApart, IsBeside, beside_taken, beside_then, other_same, same_then, whole_or_then}
use Rattle.array_runs.proofs.Taking.{part_less, part_same, put_length, put_other}

-- ---- each by itself

each_none : (Q : Entry → Type 0) (es : List Entry) (pages : Pages) → MayTakeEach pages Q es pages
each_none Q [] pages = refl
each_none Q (e ∷ es) pages = inl (each_none Q es pages)

pub each_weaker : (P Q : Entry → Type 0) (es : List Entry) (old new : Pages) →
    ((e : Entry) → Contains es e → P e → Q e) → MayTakeEach old P es new →
    MayTakeEach old Q es new
each_weaker P Q [] old new weaker h = h
each_weaker P Q (e ∷ es) old new weaker (inl h) =
    inl (each_weaker P Q es old new (λ x i. weaker x (Contains-rest e es x i)) h)
each_weaker P Q (e ∷ es) old new weaker (inr h) =
    inr (
      weaker e (Contains-first e es) h.0,
      each_weaker P Q es (put old e.writes) new
          (λ x i. weaker x (Contains-rest e es x i)) h.1,
    )

-- of the first ones alone
pub each_front : (Q : Entry → Type 0) (n : ℕ) (es : List Entry) (old new : Pages) → MayTakeEach old Q (take n es) new →
    MayTakeEach old Q es new
each_front Q zero es old new same = subst_new (each_none Q es old)
  where
    subst_new : MayTakeEach old Q es old → MayTakeEach old Q es new
    subst_new h = rw same h
each_front Q (suc n) [] old new h = h
each_front Q (suc n) (e ∷ es) old new (inl h) = inl (each_front Q n es old new h)
each_front Q (suc n) (e ∷ es) old new (inr h) = inr (h.0, each_front Q n es (put old e.writes) new h.1)

-- before they settled
pub each_unsettled : (Q : Entry → Type 0) (there : Bool) (es : List Entry) (old new : Pages) →
    ((e : Entry) → Q (settled_entry there e) → Q e) →
    MayTakeEach old Q (map (settled_entry there) es) new → MayTakeEach old Q es new
each_unsettled Q there [] old new before h = h
each_unsettled Q there (e ∷ es) old new before (inl h) = inl (each_unsettled Q there es old new before h)
each_unsettled Q there (e ∷ es) old new before (inr h) =
    inr (before e h.0, each_unsettled Q there es (put old e.writes) new before h.1)

each_other : (Q : Entry → Type 0) (page : ℕ) (es : List Entry) (old new : Pages) → AllAvoid page es →
    MayTakeEach old Q es new →
    page_at new page ≡ page_at old page
each_other Q page [] old new avoid h = ap (λ pages. page_at pages page) h
each_other Q page (e ∷ es) old new avoid (inl h) = each_other Q page es old new
    (All-tail (λ (x : Entry). Avoid page x.writes) e es avoid) h
each_other Q page (e ∷ es) old new avoid (inr h) =
    each_other Q page es (put old e.writes) new (All-tail (λ (x : Entry). Avoid page x.writes) e es avoid) h.1
    ∙ put_other page e.writes old (All-head (λ (x : Entry). Avoid page x.writes) e es avoid)

each_long : (Q : Entry → Type 0) (es : List Entry) (old new : Pages) → MayTakeEach old Q es new →
    length new ≡ length old
each_long Q [] old new h = ap length h
each_long Q (e ∷ es) old new (inl h) = each_long Q es old new h
each_long Q (e ∷ es) old new (inr h) = each_long Q es (put old e.writes) new h.1 ∙ put_length e.writes old

each_atomic : (Q : Entry → Type 0) (es : List Entry) (x : Entry) (old new : Pages) → IsBeside old es x →
    MayTakeEach old Q es new → WholeOrSame old new x
each_atomic Q [] x old new b same = rw same (inr (λ k d lt. refl))
each_atomic Q (e ∷ es) x old new b (inl h) =
    each_atomic Q es x old new (beside_then old old (e ∷ es) es x refl (part_less e es es (part_same es)) b) h
each_atomic Q (e ∷ es) x old new b (inr h) =
    let mid = put old e.writes in
    whole_or_then old mid new x (beside_taken old (e ∷ es) x b e.writes
    (All-head (λ (f : Entry). SameOrApart x f.writes) e es b.each))
    (each_atomic Q es x mid new (beside_then old mid (e ∷ es) es x (put_length e.writes old)
    (part_less e es es (part_same es)) b) h.1)

-- what is taken writes none of its pages
each_apart : (Q : Entry → Type 0) (es : List Entry) (x : Entry) (old new : Pages) →
    ((f : Entry) → Contains es f → Q f → EntriesAreApart x f) →
    MayTakeEach old Q es new → HasSame old new x
each_apart Q [] x old new apart same = rw same (λ k d lt. refl)
each_apart Q (e ∷ es) x old new apart (inl h) = each_apart Q es x old new (λ f i. apart f (Contains-rest e es f i)) h
each_apart Q (e ∷ es) x old new apart (inr h) =
    same_then old (put old e.writes) new x (other_same old x e.writes (apart e (Contains-first e es) h.0))
    (each_apart Q es x (put old e.writes) new (λ f i. apart f (Contains-rest e es f i)) h.1)

each_idle : (Q : Entry → Type 0) (es : List Entry) (old new : Pages) → ((e : Entry) → Contains es e → Q e → ⊥) →
    MayTakeEach old Q es new → new ≡ old
each_idle Q [] old new none h = h
each_idle Q (e ∷ es) old new none (inl h) = each_idle Q es old new (λ x i. none x (Contains-rest e es x i)) h
each_idle Q (e ∷ es) old new none (inr h) = absurd (none e (Contains-first e es) h.0)

-- ---- what a command may take

pub takes_none : (c : Command) (Q : Entry → Type 0) (es : List Entry) (pages : Pages) → TakesOf c Q es pages pages
takes_none command.StepAll Q es pages = each_none Q es pages
takes_none c Q es pages = inl refl

one_weaker : (P Q : Entry → Type 0) (es : List Entry) (old new : Pages) → ((e : Entry) → Contains es e → P e → Q e) →
    MayTake old (λ e. Contains es e × P e) new → MayTake old (λ e. Contains es e × Q e) new
one_weaker P Q es old new weaker (inl same) = inl same
one_weaker P Q es old new weaker (inr (e, kind, took)) = inr (e, (kind.0, weaker e kind.0 kind.1), took)

pub takes_weaker : (c : Command) (P Q : Entry → Type 0) (es : List Entry) (old new : Pages) →
    ((e : Entry) → Contains es e → P e → Q e) →
    TakesOf c P es old new → TakesOf c Q es old new
takes_weaker command.StepAll P Q es old new weaker h = each_weaker P Q es old new weaker h
takes_weaker c P Q es old new weaker h = one_weaker P Q es old new weaker h

one_other : (Q : Entry → Type 0) (page : ℕ) (es : List Entry) (old new : Pages) → AllAvoid page es →
    MayTake old (λ e. Contains es e × Q e) new →
    page_at new page ≡ page_at old page
one_other Q page es old new avoid (inl same) = ap (λ pages. page_at pages page) same
one_other Q page es old new avoid (inr (e, kind, took)) =
    ap (λ pages. page_at pages page) took ∙ put_other page e.writes old
    (All-contains (λ (x : Entry). Avoid page x.writes) es e avoid kind.0)

pub takes_other : (c : Command) (Q : Entry → Type 0) (page : ℕ) (es : List Entry) (old new : Pages) → AllAvoid page es →
    TakesOf c Q es old new →
    page_at new page ≡ page_at old page
takes_other command.StepAll Q page es old new avoid h = each_other Q page es old new avoid h
takes_other c Q page es old new avoid h = one_other Q page es old new avoid h

one_long : (Q : Entry → Type 0) (es : List Entry) (old new : Pages) → MayTake old (λ e. Contains es e × Q e) new →
    length new ≡ length old
one_long Q es old new (inl same) = ap length same
one_long Q es old new (inr (e, kind, took)) = ap length took ∙ put_length e.writes old

pub takes_long : (c : Command) (Q : Entry → Type 0) (es : List Entry) (old new : Pages) → TakesOf c Q es old new →
    length new ≡ length old
takes_long command.StepAll Q es old new h = each_long Q es old new h
takes_long c Q es old new h = one_long Q es old new h

one_atomic : (Q : Entry → Type 0) (es : List Entry) (x : Entry) (old new : Pages) → IsBeside old es x →
    MayTake old (λ e. Contains es e × Q e) new →
    WholeOrSame old new x
one_atomic Q es x old new b (inl same) = rw same (inr (λ k d lt. refl))
one_atomic Q es x old new b (inr (e, kind, took)) =
    rw took (beside_taken old es x b e.writes (All-contains (λ (f : Entry). SameOrApart x f.writes) es e b.each kind.0))

pub takes_atomic : (c : Command) (Q : Entry → Type 0) (es : List Entry) (x : Entry) (old new : Pages) →
    IsBeside old es x → TakesOf c Q es old new →
    WholeOrSame old new x
takes_atomic command.StepAll Q es x old new b h = each_atomic Q es x old new b h
takes_atomic c Q es x old new b h = one_atomic Q es x old new b h

one_apart : (Q : Entry → Type 0) (es : List Entry) (x : Entry) (old new : Pages) →
    ((f : Entry) → Contains es f → Q f → EntriesAreApart x f) →
    MayTake old (λ e. Contains es e × Q e) new → HasSame old new x
one_apart Q es x old new apart (inl same) = rw same (λ k d lt. refl)
one_apart Q es x old new apart (inr (e, kind, took)) = rw took (other_same old x e.writes (apart e kind.0 kind.1))

pub takes_apart : (c : Command) (Q : Entry → Type 0) (es : List Entry) (x : Entry) (old new : Pages) →
    ((f : Entry) → Contains es f → Q f → EntriesAreApart x f) → TakesOf c Q es old new → HasSame old new x
takes_apart command.StepAll Q es x old new apart h = each_apart Q es x old new apart h
takes_apart c Q es x old new apart h = one_apart Q es x old new apart h

one_idle : (Q : Entry → Type 0) (es : List Entry) (old new : Pages) → ((e : Entry) → Contains es e → Q e → ⊥) →
    MayTake old (λ e. Contains es e × Q e) new → new ≡ old
one_idle Q es old new none (inl same) = same
one_idle Q es old new none (inr (e, kind, took)) = absurd (none e kind.0 kind.1)

pub takes_idle : (c : Command) (Q : Entry → Type 0) (es : List Entry) (old new : Pages) →
    ((e : Entry) → Contains es e → Q e → ⊥) →
    TakesOf c Q es old new → new ≡ old
takes_idle command.StepAll Q es old new none h = each_idle Q es old new none h
takes_idle c Q es old new none h = one_idle Q es old new none h
