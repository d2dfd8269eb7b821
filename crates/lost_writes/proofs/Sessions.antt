-- Sessions one after the other are one run, in which each command in hand was answered `cut`.
use Rattle.lost_writes.proofs.Common.{◌≡◌, ℕ, ◌<◌, ◌≤◌, Bool, true, false, List, [], ◌∷◌, ◌++◌, length, refl, sym, ap, ◌∙◌, subst, inl, inr, arith, false≢true, blank, complete, slot_at, records_in, written_in, found_of, Found, Protocol, in_map}
use Rattle.std.proofs.Common.{◌+◌, append_assoc}
use Rattle.std.specs.Prelude.{count_by, if◌then◌else◌}
use Rattle.array_machine.specs.Submit.{Limits, is_of}
use Rattle.host_protocol.specs.declared.command.Command.{Command}
use Rattle.host_protocol.specs.declared.command.Command.TheVariants as command
use Rattle.host_protocol.specs.declared.reply.Reply.{Reply}
use Rattle.host_protocol.specs.declared.reply.Reply.TheVariants as reply
use Rattle.array_runs.specs.Run.{Run, RunState, Serves, LosesOpen, is_opened, writes_in, seen_after}
use Rattle.array_runs.proofs.Atomic.{acknowledged_stays, transaction_atomic, lost_whole_or_same, lost_whole, lost_others}
use Rattle.record_list.specs.Records.{mention_at}
use Rattle.record_list.proofs.OfLosses.LossAmong.{among_of, among_greatest}
use Rattle.judged_records.proofs.OfLaws.ImageScans.{IsRead, is_read}
use Rattle.lost_writes.specs.Sessions.{Session, BreakOff, SessionsAreOneRun, AcknowledgedSurvives, OthersAreWholeOrAbsent, LossLeavesTransactions, MentionsFall, broken_by, commands_of, replies_of, seen_over}
use Rattle.lost_writes.proofs.Spared.{same_slot}

-- ---- mentions

less_seen : (own seen : ℕ → ℕ) (c : Command) (r : Reply) → ((page : ℕ) → own page ≤ seen page) →
    (page : ℕ) → seen_after own c r page ≤ seen_after seen c r page
less_seen own seen c r less page = elim (is_opened r) as
    (λ b. (if b then own page + count_by (is_of page) (writes_in c) else own page)
    ≤ (if b then seen page + count_by (is_of page) (writes_in c) else seen page)) [
      | true ↦ (let le = less page in omega arith)
      | false ↦ less page
    ]

pub less_over : (own seen : ℕ → ℕ) (cs : List Command) (rs : List Reply) → ((page : ℕ) → own page ≤ seen page) →
    (page : ℕ) → seen_over own cs rs page ≤ seen_over seen cs rs page
less_over own seen [] rs less page = less page
less_over own seen (c ∷ cs) [] less page = less page
less_over own seen (c ∷ cs) (r ∷ rs) less page =
    less_over (seen_after own c r) (seen_after seen c r) cs rs (less_seen own seen c r less) page

-- a run is one where more may be spent
run_more : (limits : Limits) (own seen : ℕ → ℕ) (old : RunState) (cs : List Command) (rs : List Reply)
    (new : RunState) → ((page : ℕ) → own page ≤ seen page) → Run limits own old cs rs new →
    Run limits seen old cs rs new
run_more limits own seen old [] [] new less run = run
run_more limits own seen old [] (r ∷ rs) new less run = absurd run
run_more limits own seen old (c ∷ cs) [] new less run = absurd run
run_more limits own seen old (c ∷ cs) (r ∷ rs) new less run = (
  run.0,
  run.1,
  (λ page spent. let le = less page in let most = run.2 page spent in omega arith),
  run.3,
  run_more limits (seen_after own c r) (seen_after seen c r) run.0 cs rs new (less_seen own seen c r less) run.4,
)

-- two runs, the one after the other
run_then : (limits : Limits) (seen : ℕ → ℕ) (old : RunState) (cs : List Command) (rs : List Reply) (mid : RunState)
    (ds : List Command) (ss : List Reply) (new : RunState) → Run limits seen old cs rs mid →
    Run limits (seen_over seen cs rs) mid ds ss new → Run limits seen old (cs ++ ds) (rs ++ ss) new
run_then limits seen old [] [] mid ds ss new first second =
    subst (λ (s : RunState). Run limits seen s ds ss new) first second
run_then limits seen old [] (r ∷ rs) mid ds ss new first second = absurd first
run_then limits seen old (c ∷ cs) [] mid ds ss new first second = absurd first
run_then limits seen old (c ∷ cs) (r ∷ rs) mid ds ss new first second = (
  first.0,
  first.1,
  first.2,
  first.3,
  run_then limits (seen_after seen c r) first.0 cs rs mid ds ss new first.4 second,
)

-- the command in hand was answered `cut`
cut_serves : (limits : Limits) (spent : ℕ → Bool) (c : Command) (old new : RunState) →
    LosesOpen (broken_by c) old reply.Cut new → Serves limits spent (broken_by c) old reply.Cut new
cut_serves limits spent (command.Step tag) old new lost = inr (inr lost)
cut_serves limits spent (command.Finish tag) old new lost = inr (inr lost)
cut_serves limits spent (command.Abort tag) old new lost = inr (inr lost)
cut_serves limits spent command.StepAll old new lost = inr (inr lost)
cut_serves limits spent c old new lost = inr (inr lost)

cut_then : (limits : Limits) (seen : ℕ → ℕ) (c : Command) (old mid : RunState) (cs : List Command) (rs : List Reply)
    (new : RunState) → LosesOpen (broken_by c) old reply.Cut mid → Run limits seen mid cs rs new →
    Run limits seen old (broken_by c ∷ cs) (reply.Cut ∷ rs) new
cut_then limits seen c old mid cs rs new lost run = (
  mid,
  (λ page. false),
  (λ page spent. absurd (false≢true spent)),
  cut_serves limits (λ page. false) c old mid lost,
  run,
)

-- what was seen after a list and one more
seen_then : (seen : ℕ → ℕ) (cs : List Command) (rs : List Reply) (ds : List Command) (ss : List Reply) →
    length cs ≡ length rs → (page : ℕ) →
    seen_over seen (cs ++ ds) (rs ++ ss) page ≡ seen_over (seen_over seen cs rs) ds ss page
seen_then seen [] [] ds ss same page = refl
seen_then seen [] (r ∷ rs) ds ss same page = absurd (omega arith)
seen_then seen (c ∷ cs) [] ds ss same page = absurd (omega arith)
seen_then seen (c ∷ cs) (r ∷ rs) ds ss same page = seen_then (seen_after seen c r) cs rs ds ss (omega arith) page

run_long : (limits : Limits) (seen : ℕ → ℕ) (old : RunState) (cs : List Command) (rs : List Reply) (new : RunState) →
    Run limits seen old cs rs new → length cs ≡ length rs
run_long limits seen old [] [] new run = refl
run_long limits seen old [] (r ∷ rs) new run = absurd run
run_long limits seen old (c ∷ cs) [] new run = absurd run
run_long limits seen old (c ∷ cs) (r ∷ rs) new run =
    let rest = run_long limits (seen_after seen c r) run.0 cs rs new run.4 in omega arith

-- ---- sessions

one_run : (limits : Limits) (seen own : ℕ → ℕ) (old begins : RunState) (ss : List Session) (cs : List Command)
    (rs : List Reply) (new : RunState) → BreakOff limits seen old ss begins →
    ((page : ℕ) → own page ≤ seen_over seen (commands_of ss) (replies_of ss) page) →
    Run limits own begins cs rs new → Run limits seen old (commands_of ss ++ cs) (replies_of ss ++ rs) new
one_run limits seen own old begins [] cs rs new broken less run =
    subst (λ (s : RunState). Run limits seen s cs rs new) broken (run_more limits own seen begins cs rs new less run)
one_run limits seen own old begins (s ∷ ss) cs rs new broken less run =
    let b = broken.1 in
    let first = run_more limits b.own seen old s.commands s.replies b.last b.own_least b.run in
    let long = run_long limits seen old s.commands s.replies b.last first in
    let rest = one_run limits (seen_over seen s.commands s.replies) own broken.0 begins ss cs rs new broken.2
    (λ page. subst (λ n. own page ≤ n) (seen_then seen s.commands s.replies (broken_by s.broken ∷ commands_of ss)
    (reply.Cut ∷ replies_of ss) long page) (less page)) run in
    subst (λ ds. Run limits seen old ds ((s.replies ++ reply.Cut ∷ replies_of ss) ++ rs) new)
    (sym (append_assoc s.commands (broken_by s.broken ∷ commands_of ss) cs))
    (subst (λ qs. Run limits seen old (s.commands ++ ((broken_by s.broken ∷ commands_of ss) ++ cs)) qs new)
    (sym (append_assoc s.replies (reply.Cut ∷ replies_of ss) rs))
    (run_then limits seen old s.commands s.replies b.last (broken_by s.broken ∷ (commands_of ss ++ cs))
    (reply.Cut ∷ (replies_of ss ++ rs)) new first
    (cut_then limits (seen_over seen s.commands s.replies) s.broken b.last broken.0 (commands_of ss ++ cs)
    (replies_of ss ++ rs) new b.lost rest)))

pub sessions_are_one_run : SessionsAreOneRun
sessions_are_one_run limits seen old ss cs rs new h =
    one_run limits seen h.own old h.begins ss cs rs new h.broken h.own_least h.run

pub acknowledged_survives : AcknowledgedSurvives
acknowledged_survives limits spent c old r mid e seen ss cs rs new pages w ok serves told runs stands has none =
    acknowledged_stays limits spent c old r mid e seen (commands_of ss ++ cs) (replies_of ss ++ rs) new pages w ok
    serves told (sessions_are_one_run limits seen mid ss cs rs new runs) stands has none

-- ---- what is left mentions no page at more

pub mentions_fall : (p : Protocol) → MentionsFall p
mentions_fall p image left waits page loss =
    among_greatest (records_in p left) (records_in p image)
    (among_of (records_in p left) (records_in p image) (λ f i.
    let w = in_map found_of (written_in p left) f i in
    let r : IsRead p left w.0 = is_read p left w.0 w.1 in
    let slot : w.0.slot.0 ≡ f.slot.0 = ap (λ (g : Found). g.slot.0) w.2 in
    let within : f.slot.0 < length image = subst (λ k. k < length image) slot
    (subst (λ n. w.0.slot.0 < n) loss.slots r.within) in
    elim (loss.each f.slot.0 within) [
      | inl same ↦ same_slot p left image f (sym loss.slots) i (sym same)
      | inr gone ↦ (let both : blank ≡ complete r.reads.bytes r.reads.spare =
          sym gone.1 ∙ ap (slot_at left) (sym slot) ∙ r.reads.is in absurd cc)
    ])) (mention_at page)

-- ---- what a loss leaves of each transaction

pub others_are_whole_or_absent : OthersAreWholeOrAbsent
others_are_whole_or_absent limits seen old ss cs rs new pages e ok has runs stands none =
    transaction_atomic limits seen old (commands_of ss ++ cs) (replies_of ss ++ rs) new pages e ok has
    (sessions_are_one_run limits seen old ss cs rs new runs) stands none

pub loss_leaves_transactions : LossLeavesTransactions
loss_leaves_transactions limits seen s old new b ok = record {
  none_open = b.lost.1.2;
  atomic = λ e has. lost_whole_or_same (broken_by s.broken) b.last reply.Cut new e ok b.lost has;
  whole = λ e has is. lost_whole (broken_by s.broken) b.last reply.Cut new e ok b.lost has is;
  others = λ e has sure none. lost_others (broken_by s.broken) b.last reply.Cut new e ok b.lost has sure none;
}
