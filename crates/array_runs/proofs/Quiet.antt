-- Runs in which no break was to come.
use Rattle.array_runs.proofs.Common.{◌≡◌, ℕ, ◌≤◌, false, List, [], ◌∷◌, length, take, Option, Some, None, refl, arith, count_by, All-take, none_counted, ArrayState, Entry, entry_of, Limits, finish_answer, Command, Reply, is_break, step_reply}
use Rattle.std.proofs.Common.{get_or}
use Rattle.std.specs.Prelude.{All, IsSome}
use Rattle.std.proofs.lemmas.List.{take_all}
use Rattle.list_lemmas.proofs.Tests.{all_uncounted}
use Rattle.host_protocol.specs.declared.command.Command.TheVariants as command
use Rattle.host_protocol.specs.declared.reply.Reply.TheVariants as reply
use Rattle.array_runs.specs.Run.{is_arm}
use Rattle.array_runs.specs.Breaks.{AreFew, is_cut, is_fault, arms_cut, arms_fault}
use Rattle.array_runs.specs.Unbroken.{Handed, UnbrokenRun, FinishesAreDone, state_after}

no_arm_cut : (c : Command) → is_arm c ≡ false → arms_cut c ≡ false
no_arm_cut (command.Cut count what) h = cc
no_arm_cut _ h = refl

no_arm_fault : (c : Command) → is_arm c ≡ false → arms_fault c ≡ false
no_arm_fault (command.Fault count what) h = cc
no_arm_fault (command.BadRead count) h = cc
no_arm_fault _ h = refl

no_break : (r : Reply) → is_cut r ≡ false → is_fault r ≡ false → is_break r ≡ false
no_break reply.Cut cut fault = cc
no_break reply.Fault cut fault = cc
no_break reply.Dropped cut fault = cc
no_break _ cut fault = refl

no_breaks : (rs : List Reply) → All (λ r. is_cut r ≡ false) rs → All (λ r. is_fault r ≡ false) rs →
    All (λ r. is_break r ≡ false) rs
no_breaks rs cut fault k d lt = no_break (get_or rs k d) (cut k d lt) (fault k d lt)

pub none_broken : (cs : List Command) (rs : List Reply) → All (λ c. is_arm c ≡ false) cs → AreFew 0 0 cs rs →
    All (λ r. is_break r ≡ false) rs
none_broken cs rs none few =
    let n = length rs in
    let whole : take n rs ≡ rs = take_all n rs (omega arith) in
    let front = All-take (λ c. is_arm c ≡ false) n cs none in
    let cuts : count_by arms_cut (take n cs) ≡ 0 = none_counted arms_cut (take n cs)
    (λ k d lt. no_arm_cut (get_or (take n cs) k d) (front k d lt)) in
    let faults : count_by arms_fault (take n cs) ≡ 0 = none_counted arms_fault (take n cs)
    (λ k d lt. no_arm_fault (get_or (take n cs) k d) (front k d lt)) in
    let most = few n in
    let no_cut : count_by is_cut (take n rs) ≤ 0 = omega (arith, most.0, cuts) in
    let no_fault : count_by is_fault (take n rs) ≤ 0 = omega (arith, most.1, faults) in
    no_breaks rs (all_uncounted is_cut rs (rw whole at no_cut)) (all_uncounted is_fault rs (rw whole at no_fault))

-- Each finish is done
finish_done : (tag : ℕ) (o : Option Entry) (r : Reply) → r ≡ step_reply tag (finish_answer o) → IsSome o →
    r ≡ reply.Done tag
finish_done tag None r h some = cc
finish_done tag (Some e) r h some = h

pub finishes_done : (limits : Limits) (hands : List Handed) (old : ArrayState) (cs : List Command) (rs : List Reply)
    (new : ArrayState) →
    UnbrokenRun limits hands old cs rs new → FinishesAreDone limits hands old cs rs
finishes_done limits [] old cs rs new run = tt
finishes_done limits (handed ∷ hands) old [] rs new run = tt
finishes_done limits (handed ∷ hands) old (c ∷ cs) [] new run = tt
finishes_done limits (handed ∷ hands) old (command.Finish tag ∷ cs) (r ∷ rs) new run = (
  finish_done tag (entry_of tag old.entries) r run.0,
  finishes_done limits hands (state_after limits handed (command.Finish tag) old) cs rs new run.1,
)
finishes_done limits (handed ∷ hands) old (c ∷ cs) (r ∷ rs) new run =
    (tt, finishes_done limits hands (state_after limits handed c old) cs rs new run.1)
