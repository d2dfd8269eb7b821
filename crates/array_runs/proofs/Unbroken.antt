-- Runs in which power is not cut and nothing fails.
use Rattle.array_runs.proofs.Common.{◌≡◌, ◌≢◌, ◌⊎◌, ℕ, ◌+◌, ◌<◌, ◌≤◌, Bool, true, false, cond, List, [], ◌∷◌, length, Option, Some, None, Result, Ok, Err, refl, sym, ap, ◌∙◌, subst, inl, inr, arith, count_by, cases_Bool, All-nil, All-cons, All-push, All-head, All-tail, sum_by-cons, PageWrite, ArrayState, entry_of, page_at, new_entry, Collects, Limits, opened, refusal, finish_answer, SubmitError, Progress, StepError, Aborted, Collected, Fault, Command, Reply, Run, RunState, Serves, DoesCommand, Finishes, NotDone, LosesOpen, seen_after, is_break, writes_in, submit_reply, step_reply, abort_reply}
use Rattle.std.proofs.Common.{◌^◌}
use Rattle.std.specs.Prelude.{All, nat_lt}
use Rattle.std.proofs.lemmas.Bool.Decides.{nat_tests}
use Rattle.array_machine.specs.Read.{ReadsPage}
use Rattle.array_machine.specs.Submit.{is_of}
use Rattle.array_machine.specs.UnbrokenCalls.{AllPlain, finished}
use Rattle.array_machine.proofs.UnbrokenCalls.{IsPlain, settled_same, step_fine, step_all_fine, abort_fine, last_finishes, wrote_finishes}
use Rattle.array_machine.specs.declared.answers.ReadAnswer.{ReadAnswer}
use Rattle.array_machine.specs.declared.answers.ReadAnswer.TheVariants as read
use Rattle.array_machine.specs.declared.answers.ReadError.{ReadError}
use Rattle.array_machine.specs.declared.answers.ReadError.TheVariants as unread
use Rattle.array_machine.specs.declared.answers.Progress.TheVariants as progress
use Rattle.array_machine.specs.declared.answers.StepError.TheVariants as failed
use Rattle.array_machine.specs.declared.answers.Collected.TheVariants as collected
use Rattle.host_protocol.specs.declared.command.Command.TheVariants as command
use Rattle.host_protocol.specs.declared.reply.Reply.TheVariants as reply
use Rattle.array_runs.specs.Run.{MayBeSpent, is_opened, read_reply, collect_reply}
use Rattle.array_runs.specs.Unbroken.{Handed, IsReply, page_reply, state_after, UnbrokenRun, AreMaybeSpent, times_written, VersionsSuffice}

-- a reply that is no break
pub unlike : (r q : Reply) → is_break r ≡ false → r ≡ q → is_break q ≡ true → ⊥
unlike r q h e b = let same = ap is_break e in cc

-- Reading
read_given : (logical page : ℕ) (at : Option (List ℕ)) (q : Reply) → page < logical → page_reply page at ≡ q →
    cond (nat_lt page logical) (page_reply page at) (reply.RefusedRange page) ≡ q
read_given logical page at q lt h = let yes : nat_lt page logical ≡ true = grind (arith, nat_tests) in rw yes h

read_refused : (logical page : ℕ) (q : Reply) → logical ≤ page → cond (nat_lt page logical) q (reply.RefusedRange page)
    ≡ reply.RefusedRange page
read_refused logical page q le = let past : nat_lt page logical ≡ false = grind (arith, nat_tests) in rw past refl

read_fine : (limits : Limits) (s : ArrayState) (page : ℕ) (bytes : List ℕ) (result : Result ReadAnswer ReadError) →
    ReadsPage limits.logical s.pages page bytes result →
    is_break (read_reply page bytes result) ≡ false →
    read_reply page bytes result ≡ cond (nat_lt page limits.logical) (page_reply page (page_at s.pages page))
    (reply.RefusedRange page)
read_fine limits s page bytes (Ok read.Blank) h b =
    sym (read_given limits.logical page (page_at s.pages page) (reply.Blank page) h.0
    (ap (page_reply page) h.1))
read_fine limits s page bytes (Ok read.Page) h b =
    sym (read_given limits.logical page (page_at s.pages page) (reply.Page page bytes) h.0
    (ap (page_reply page) h.1))
read_fine limits s page bytes (Err unread.Range) h b =
    sym (read_refused limits.logical page (page_reply page (page_at s.pages page)) h)
read_fine limits s page bytes (Err unread.Fault) h b = cc

-- Submitting
opened_plain : (o : Option SubmitError) (tag : ℕ) (ws : List PageWrite) (s : ArrayState) → AllPlain s →
    AllPlain (opened o tag ws s)
opened_plain None tag ws s h = All-push IsPlain s.entries (new_entry tag ws) h refl
opened_plain (Some e) tag ws s h = h

-- Steps
step_unbroken : (tag : ℕ) (r : Reply) (result : Result Progress StepError) → r ≡ step_reply tag result →
    is_break r ≡ false → result ≢ Err failed.Fault
step_unbroken tag r result is b e = unlike r reply.Fault b (is ∙ ap (step_reply tag) e) refl

abort_unbroken : (tag : ℕ) (r : Reply) (result : Result Aborted StepError) → r ≡ abort_reply tag result →
    is_break r ≡ false → result ≢ Err failed.Fault
abort_unbroken tag r result is b e = unlike r reply.Fault b (is ∙ ap (abort_reply tag) e) refl

abbrev IsFinished : ArrayState → ℕ → Result Progress StepError → ArrayState → Type 0
IsFinished old tag result new = (result ≡ finish_answer (entry_of tag old.entries))
    × (new ≡ finished (entry_of tag old.entries) tag old) × AllPlain new

finish_fine : (mids : List ArrayState) (old new : ArrayState) (tag : ℕ) (result : Result Progress StepError) →
    AllPlain old → Finishes old mids new tag result →
    result ≢ Err failed.Fault → IsFinished old tag result new
finish_fine [] old new tag (Ok (progress.Wrote done all)) plain h fine = absurd h
finish_fine [] old new tag (Ok progress.Done) plain h fine = last_finishes old new tag (Ok progress.Done) plain h fine
    (λ done all e. cc)
finish_fine [] old new tag (Err e) plain h fine = last_finishes old new tag (Err e) plain h fine (λ done all e. cc)
finish_fine (mid ∷ mids) old new tag result plain h fine =
    let wrote = wrote_finishes old mid tag h.0 h.1 plain h.2 in
    let rest = finish_fine mids mid new tag result wrote.0 h.3 fine in
    (rest.0 ∙ wrote.1, rest.1 ∙ wrote.2, rest.2)

-- Collecting
collect_fine : (old new : ArrayState) (result : Result Collected Fault) → AllPlain old → Collects old new result →
    is_break (collect_reply result) ≡ false →
    ((collect_reply result ≡ reply.Collected) ⊎ (collect_reply result ≡ reply.Nothing)) × (new ≡ old)
collect_fine old new (Ok collected.One) plain h b = (inl refl, h.1 ∙ settled_same h.0 old plain)
collect_fine old new (Ok collected.Nothing) plain h b = (inr refl, h.1 ∙ settled_same h.0 old plain)
collect_fine old new (Err fault) plain h b = cc

-- A command
abbrev FineAs : Limits → Handed → Command → ArrayState → Reply → ArrayState → Type 0
FineAs limits handed c old r new = IsReply limits handed c old r × (new ≡ state_after limits handed c old)
    × AllPlain new

abbrev handing : (ℕ → Bool) → ℕ → Handed
handing its_spent its_moved = record { spent = its_spent; moved = its_moved }

abbrev Fine : Limits → (ℕ → Bool) → Command → ArrayState → Reply → ArrayState → Type 0
Fine limits spent c old r new = (moved : ℕ) × FineAs limits (handing spent moved) c old r new

does_fine : (limits : Limits) (spent : ℕ → Bool) (c : Command) (old : ArrayState) (r : Reply) (new : ArrayState) →
    AllPlain old → DoesCommand limits spent c old r new → is_break r ≡ false → Fine limits spent c old r new
does_fine limits spent (command.Read page) old r new plain h b =
    (0, (h.3 ∙ read_fine limits old page h.0 h.1 h.2 (ap is_break (sym h.3) ∙ b), h.4, subst AllPlain (sym h.4) plain))
does_fine limits spent (command.Write tag batch) old r new plain h b =
    let opens = h.1.opens in (
      0,
      (
        h.2 ∙ ap (submit_reply tag (length batch.entries)) h.1.answers,
        opens,
        subst AllPlain (sym opens) (opened_plain (refusal limits spent old.entries tag batch.entries) tag
            batch.entries old plain),
      ),
    )
does_fine limits spent (command.Step tag) old r new plain h b =
    let is = step_fine old new tag h.0 plain h.1 (step_unbroken tag r h.0 h.2 b) in
    (0, (h.2 ∙ ap (step_reply tag) is.0, is.1, is.2))
does_fine limits spent (command.Finish tag) old r new plain h b =
    let is = finish_fine h.0 old new tag h.1 plain h.2 (step_unbroken tag r h.1 h.3 b) in
    (0, (h.3 ∙ ap (step_reply tag) is.0, is.1, is.2))
does_fine limits spent (command.Abort tag) old r new plain h b =
    let is = abort_fine old new tag h.0 plain h.1 (abort_unbroken tag r h.0 h.2 b) in
    (0, (h.2 ∙ ap (abort_reply tag) is.0, is.1, is.2))
does_fine limits spent command.StepAll old r new plain h b =
    let is = step_all_fine old new h.0 plain h.1 in
    (h.0.moved, ((h.2 ∙ ap (reply.Moved h.0.moved) is.0, h.1.1.within, h.1.1.none), is.1, is.2))
does_fine limits spent command.Collect old r new plain h b =
    let is = collect_fine old new h.0 plain h.1 (ap is_break (sym h.2) ∙ b) in
    (0, (elim is.0 [ inl one ↦ inl (h.2 ∙ one) | inr none ↦ inr (h.2 ∙ none) ], is.1, subst AllPlain (sym is.1) plain))
does_fine limits spent command.Stats old r new plain h b = (0, ((h.0, h.1, h.2), h.3, subst AllPlain (sym h.3) plain))
does_fine limits spent command.Explain old r new plain h b = (0, (h.0, h.1, subst AllPlain (sym h.1) plain))
does_fine limits spent (command.Cut count what) old r new plain h b = absurd h
does_fine limits spent (command.Fault count what) old r new plain h b = absurd h
does_fine limits spent (command.BadRead count) old r new plain h b = absurd h

-- a reply after which nothing is open is a break
pub lost_break : (c : Command) (old : RunState) (r : Reply) (new : RunState) → LosesOpen c old r new →
    is_break r ≡ false → ⊥
lost_break c old r new (inl cut, left) b = unlike r reply.Cut b cut.0 refl
lost_break c old r new (inr drops, left) b = unlike r reply.Dropped b drops.0 refl

served_fine : (limits : Limits) (spent : ℕ → Bool) (c : Command) (old : RunState) (r : Reply) (new : RunState) →
    AllPlain old.machine →
    (NotDone old r new ⊎ ((DoesCommand limits spent c old.machine r new.machine × (new.up ≡ true))
    ⊎ LosesOpen c old r new)) → is_break r ≡ false →
    Fine limits spent c old.machine r new.machine
served_fine limits spent c old r new plain (inl h) b = elim h.1 [
  | inl e ↦ absurd (unlike r reply.Fault b e refl)
  | inr e ↦ absurd (unlike r reply.Cut b e refl)
]
served_fine limits spent c old r new plain (inr (inl h)) b =
    does_fine limits spent c old.machine r new.machine plain h.0 b
served_fine limits spent c old r new plain (inr (inr h)) b = absurd (lost_break c old r new h b)

armed_fine : (old new : RunState) → AllPlain old.machine → new ≡ old → (new.machine ≡ old.machine)
    × AllPlain new.machine
armed_fine old new plain h = (ap (λ s. s.machine) h, subst (λ (s : RunState). AllPlain s.machine) (sym h) plain)

pub command_fine : (limits : Limits) (spent : ℕ → Bool) (c : Command) (old : RunState) (r : Reply) (new : RunState) →
    AllPlain old.machine → Serves limits spent c old r new → is_break r ≡ false →
    (moved : ℕ) × FineAs limits (handing spent moved) c old.machine r new.machine
command_fine limits spent (command.Read page) old r new plain h b = served_fine limits spent (command.Read page) old
    r new plain h b
command_fine limits spent (command.Write tag batch) old r new plain h b =
    served_fine limits spent (command.Write tag batch) old r new plain h b
command_fine limits spent (command.Step tag) old r new plain h b =
    served_fine limits spent (command.Step tag) old r new plain h b
command_fine limits spent (command.Finish tag) old r new plain h b = served_fine limits spent (command.Finish tag) old
    r new plain h b
command_fine limits spent (command.Abort tag) old r new plain h b = served_fine limits spent (command.Abort tag) old
    r new plain h b
command_fine limits spent command.StepAll old r new plain h b =
    served_fine limits spent command.StepAll old r new plain h b
command_fine limits spent command.Collect old r new plain h b =
    served_fine limits spent command.Collect old r new plain h b
command_fine limits spent command.Stats old r new plain h b = served_fine limits spent command.Stats old r new plain h b
command_fine limits spent command.Explain old r new plain h b =
    served_fine limits spent command.Explain old r new plain h b
command_fine limits spent (command.Cut count what) old r new plain h b = let same = armed_fine old new plain h.1 in
    (0, (h.0, same.0, same.1))
command_fine limits spent (command.Fault count what) old r new plain h b = let same = armed_fine old new plain h.1 in
    (0, (h.0, same.0, same.1))
command_fine limits spent (command.BadRead count) old r new plain h b = let same = armed_fine old new plain h.1 in
    (0, (h.0, same.0, same.1))

-- A run
pub run_fine : (limits : Limits) (seen : ℕ → ℕ) (old : RunState) (cs : List Command) (rs : List Reply)
    (new : RunState) →
    AllPlain old.machine → Run limits seen old cs rs new → All (λ r. is_break r ≡ false) rs →
    (hands : List Handed) × AreMaybeSpent seen cs rs hands × UnbrokenRun limits hands old.machine cs rs new.machine
    × AllPlain new.machine
run_fine limits seen old [] [] new plain run whole =
    ([], tt, ap (λ s. s.machine) run, subst (λ (s : RunState). AllPlain s.machine) (sym run) plain)
run_fine limits seen old [] (r ∷ rs) new plain run whole = absurd run
run_fine limits seen old (c ∷ cs) [] new plain run whole = absurd run
run_fine limits seen old (c ∷ cs) (r ∷ rs) new plain run whole =
    let mid = run.0 in
    let spent = run.1 in
    let first = command_fine limits spent c old r mid plain run.3 (All-head (λ r. is_break r ≡ false) r rs whole) in
    let rest = run_fine limits (seen_after seen c r) mid cs rs new first.1.2 run.4
    (All-tail (λ r. is_break r ≡ false) r rs whole) in (
      handing spent first.0 ∷ rest.0,
      (run.2, rest.1),
      (first.1.0, subst (λ (s : ArrayState). UnbrokenRun limits rest.0 s cs rs new.machine) first.1.1 rest.2),
      rest.3,
    )

-- Pages that do not come to their last version are not spent.
seen_step : (b : Bool) (n k : ℕ) → cond b (n + k) n ≤ n + k
seen_step true n k = omega arith
seen_step false n k = omega arith

not_yet : (spent : ℕ → Bool) (seen : ℕ → ℕ) (page rest : ℕ) → MayBeSpent seen spent → seen page + rest < 2 ^ 62 →
    spent page ≡ false
not_yet spent seen page rest may low = elim (cases_Bool (spent page)) [
  | inl is ↦ (let high = may page is in absurd (omega arith))
  | inr not ↦ not
]

pub none_spent : (seen : ℕ → ℕ) (cs : List Command) (rs : List Reply) (hands : List Handed) →
    VersionsSuffice seen cs → AreMaybeSpent seen cs rs hands →
    All (λ handed. (page : ℕ) → handed.spent page ≡ false) hands
none_spent seen [] [] [] low may = All-nil (λ (handed : Handed). (page : ℕ) → handed.spent page ≡ false)
none_spent seen [] [] (handed ∷ hands) low may = absurd may
none_spent seen [] (r ∷ rs) hands low may = absurd may
none_spent seen (c ∷ cs) [] spents low may = absurd may
none_spent seen (c ∷ cs) (r ∷ rs) [] low may = absurd may
none_spent seen (c ∷ cs) (r ∷ rs) (handed ∷ hands) low may =
    let lower : VersionsSuffice (seen_after seen c r) cs = λ page.
    (
    let most : seen_after seen c r page ≤ seen page + count_by (is_of page) (writes_in c) =
    seen_step (is_opened r) (seen page) (count_by (is_of page) (writes_in c)) in
    let split : times_written page (c ∷ cs) ≡ count_by (is_of page) (writes_in c) + times_written page cs =
    sum_by-cons (λ c. count_by (is_of page) (writes_in c)) c cs in
    let all = low page in
    omega arith) in
    All-cons (λ (handed : Handed). (page : ℕ) → handed.spent page ≡ false) handed hands
    (λ page. not_yet handed.spent seen page (times_written page (c ∷ cs)) may.0 (low page))
    (none_spent (seen_after seen c r) cs rs hands lower may.1)
