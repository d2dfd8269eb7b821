-- A step: the device settles, and the transaction goes on.
use Rattle.tx_engine.proofs.Common.{◌≡◌, ◌≢◌, ℕ, zero, suc, ◌<◌, Bool, true, List, [], ◌∷◌, map, get_or, All, Option, Some, None, Result, Ok, Err, refl, sym, ap, ◌∙◌, subst, inl, inr, arith, find, zip, is_err, cond-true, cond-false, cond_both, All-nil, PageWrite, Link, FlashState, Broken, ArrayState, Entry, entry_of, has_tag, Progress, StepError, VersionsRise, settled_writes, done_writes, is_plain, OpenTransactionsState, TransactionState, no_transaction, transaction_at, Advances, AdvanceRises, DeviceState, Naming, name_at, settled, settled_entry, StepsAs, StoreState, device_in}
use Rattle.std.specs.Prelude.{MatchOption, IfSome, option_map}
use Rattle.array_machine.specs.declared.answers.Progress.TheVariants as progress
use Rattle.array_machine.specs.declared.answers.StepError.TheVariants as failed
use Rattle.tx_engine.specs.Exits.{StepRises}
use Rattle.tx_engine.specs.LastWrite.{StepSince, StepWorks}
use Rattle.array_machine.specs.Step.{StepGives}
use Rattle.tx_engine.specs.Writing.{next_of, open_of}
use Rattle.tx_engine.proofs.OfCollect.Collecting.{rises_stay}
use Rattle.open_table.proofs.OfTransactions.OpenList.{IsFirstTagged}

-- a step of the transaction that was found, if there is one
abbrev pub StepsFor : Bool → ArrayState → ArrayState → ℕ → Option Entry → Result Progress StepError → Type 0
StepsFor there old new tag o result =
    MatchOption o ((result ≡ Err failed.Unknown) × (new ≡ old))
    (λ e. StepGives old (settled there old) tag (settled_entry there e) result new)

pub step_missing : (there : Bool) (old : ArrayState) (tag : ℕ) → entry_of tag old.entries ≡ None →
    StepsAs there old old tag (Err failed.Unknown)
step_missing there old tag is = subst (λ o. StepsFor there old old tag o (Err failed.Unknown)) (sym is) (refl, refl)

pub step_unsettled : (there : Bool) (old new : ArrayState) (tag : ℕ) (e : Entry) →
    entry_of tag old.entries ≡ Some e → new ≡ old →
    StepsAs there old new tag (Err failed.Fault)
step_unsettled there old new tag e is same = subst (λ o. StepsFor there old new tag o (Err failed.Fault))
    (sym is) (inl same)

-- what the device gives, once it settled
given : (old mid new : ArrayState) (tag : ℕ) (f : Entry) (r : Result Progress Broken) → Advances mid tag f r new →
    (s : Result Progress StepError) →
    ((p : Progress) → r ≡ Ok p → s ≡ Ok p) → (is_err r ≡ true → s ≡ Err failed.Fault) → StepGives old mid tag f s new
given old mid new tag f (Ok p) h s ok err = subst (λ s. StepGives old mid tag f s new) (sym (ok p refl)) h
given old mid new tag f (Err b) h s ok err = subst (λ s. StepGives old mid tag f s new) (sym (err refl)) (inr h)

pub step_settled : (there : Bool) (old mid new : ArrayState) (tag : ℕ) (e f : Entry) (r : Result Progress Broken)
    (s : Result Progress StepError) →
    entry_of tag old.entries ≡ Some e →
    mid ≡ settled there old → f ≡ settled_entry there e → f.tag ≡ tag → Advances mid f.tag f r new →
    ((p : Progress) → r ≡ Ok p → s ≡ Ok p) → (is_err r ≡ true → s ≡ Err failed.Fault) → StepsAs there old new tag s
step_settled there old mid new tag e f r s found settles is tags h ok err =
    subst (λ o. StepsFor there old new tag o s) (sym found)
    (subst (λ (x : Entry). StepGives old (settled there old) tag x s new) is
    (subst (λ (m : ArrayState). StepGives old m tag f s new) settles
    (given old mid new tag f r (subst (λ t. Advances mid t f r new) tags h) s ok err)))

-- Versions
pub done_low : (logical : ℕ) (e : Entry) (p : Progress) → All (λ w. w.page < logical) e.writes →
    All (λ w. w.page < logical) (done_writes (Some e) (Ok p))
done_low logical e (progress.Wrote done all) h = All-nil (λ (w : PageWrite). w.page < logical)
done_low logical e progress.Done h = cond_both (is_plain e.mark) e.writes [] (All (λ w. w.page < logical)) (λ is. h)
    (λ is. All-nil (λ (w : PageWrite). w.page < logical))

pub broken_pages : (mid new : ArrayState) (tag : ℕ) (f : Entry) (b : Broken) → Advances mid tag f (Err b) new →
    new.pages ≡ mid.pages
broken_pages mid new tag f b h = elim h.1 [
  | inl same ↦ ap (λ (m : ArrayState). m.pages) same
  | inr doubt ↦ ap (λ (m : ArrayState). m.pages) doubt.1
]

pub fault_rises : {F : Type 0} (there : Bool) (a b c : DeviceState F) (tag own : ℕ) (f : Entry)
    (r : Result Progress Broken) (s : Result Progress StepError) →
    is_err r ≡ true → s ≡ Err failed.Fault →
    b.config ≡ a.config → All (λ w. w.page < a.config.logical) (settled_writes there a.machine) →
    b.machine ≡ settled there a.machine →
    VersionsRise a b (settled_writes there a.machine) →
    Advances b.machine own f r c.machine → AdvanceRises b c f r → StepRises there a c tag s
fault_rises there a b c tag own f (Ok p) s is fault config low machine first h second = cc
fault_rises there a b c tag own f (Err x) s is fault config low machine first h second =
    subst (StepRises there a c tag) (sym fault)
    (inr (
      broken_pages b.machine c.machine own f x h ∙ ap (λ (m : ArrayState). m.pages) machine,
      rises_stay a b c (settled_writes there a.machine) config low first
          (λ page inside. second.stays page inside (All-nil (λ (w : PageWrite). w.page ≢ page))),
    ))

-- The open transaction with a tag
pub open_found : (tag : ℕ) (all : List TransactionState) (i : ℕ) → IsFirstTagged tag all i →
    find (λ (e, x). has_tag tag e) (zip (map (λ o. o.entry) all) (map (λ o. o.naming) all)) ≡ Some
    ((get_or all i no_transaction).entry, (get_or all i no_transaction).naming)
open_found tag [] i h = absurd (let w = h.within in omega arith)
open_found tag (o ∷ all) zero h =
    cond-true (has_tag tag o.entry) (Some (o.entry, o.naming))
    (find (λ (e, x). has_tag tag e) (zip (map (λ o. o.entry) all) (map (λ o. o.naming) all)))
    h.tagged
open_found tag (o ∷ all) (suc i) h =
    cond-false (has_tag tag o.entry) (Some (o.entry, o.naming))
    (find (λ (e, x). has_tag tag e) (zip (map (λ o. o.entry) all) (map (λ o. o.naming) all)))
    (h.before 0 (omega arith))
    ∙ open_found tag all i (record {
      within = (let w = h.within in omega arith);
      tagged = h.tagged;
      before = λ k less. h.before (suc k) (omega arith);
    })

-- what holds of it, and of the name that it writes next
pub for_open : {F : Type 0} (state : F → FlashState) (S : StoreState F) (O : OpenTransactionsState) (tag i : ℕ)
    (P : Entry → Naming → Type 0) → IsFirstTagged tag O.all i →
    P (transaction_at O i).entry (transaction_at O i).naming →
    IfSome (open_of (device_in state S O) tag) (λ (e, x). P e x)
for_open state S O tag i P first h = subst (λ o. IfSome o (λ (e, x). P e x)) (sym (open_found tag O.all i first)) h

-- what it did last
pub step_since : {F : Type 0} (state : F → FlashState) (S : StoreState F) (O : OpenTransactionsState) (tag i : ℕ)
    (broken : Bool) (known new : DeviceState F) → IsFirstTagged tag O.all i →
    StepWorks state known new (transaction_at O i).entry (transaction_at O i).naming broken →
    StepSince state (device_in state S O) known new tag broken
step_since state S O tag i broken known new first works = record {
  entry = (transaction_at O i).entry;
  naming = (transaction_at O i).naming;
  is_open = open_found tag O.all i first;
  works = works;
}

pub for_next : {F : Type 0} (state : F → FlashState) (S : StoreState F) (O : OpenTransactionsState) (tag i : ℕ)
    (P : Link → Type 0) → IsFirstTagged tag O.all i →
    P (name_at (transaction_at O i).naming (transaction_at O i).entry.done) →
    IfSome (next_of (device_in state S O) tag) P
for_next state S O tag i P first h =
    subst (λ o. IfSome o P) (sym (ap (option_map (λ (e, x). name_at x e.done)) (open_found tag O.all i first))) h

-- what holds of each name holds of it
pub of_each : (o : Option Link) (P : Link → Type 0) → ((name : Link) → P name) → IfSome o P
of_each None P h = tt
of_each (Some name) P h = h name

-- an answer that is handed on
abbrev pub handed_on : Progress → Result Progress StepError
handed_on p = Ok p

pub ok_as : (x p : Progress) (r : Result Progress Broken) → r ≡ Ok x → r ≡ Ok p → handed_on x ≡ handed_on p
ok_as x p r was is = let same : x ≡ p = (let both = sym was ∙ is in cc) in ap handed_on same
