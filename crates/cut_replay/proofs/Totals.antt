-- What the commands of a run add up to.
use Rattle.cut_replay.proofs.Common.{◌≡◌, ◌⊎◌, inl, inr, ℕ, ◌≤◌, Bool, true, false, not, ◌||◌, List, [], ◌∷◌, ◌++◌, length, Option, None, Some, refl, sym, ap, ◌∙◌, subst, arith, cases_Bool, MatchBool, IfSome, Config, FlashState, Told, counted_by, BothTell, NoMoreToCome, Rose, Spends, Carries, Moment, moment_of, powered, Command, Reply, is_arm, is_break, is_cut, is_fault, is_lost, seen_after, ArmsFlash, ComesUp, MountsFlash, BeginsFlash, Point, IsPoint, IsArmed, IsNotDone, IsLost, DoesFlash, ServesFlash, FlashRun, first_point, first_state, last_point, last_state, mentions_in, IsSet, IsSpentBy, CountsBreak, CountsBreaks, MountsAfter, Watched}
use Rattle.std.proofs.Common.{append-nil, append_assoc, length-append}
use Rattle.flash_model.proofs.CallLemmas.{no_more_same, no_more_then, steady_unbroken}
use Rattle.flash_model.specs.Arms.{SetsCut, SetsFault, SetsBadRead}
use Rattle.flash_model.specs.Flash.{IsSteady}
use Rattle.host_protocol.specs.declared.command.Command.TheVariants as command
use Rattle.host_protocol.specs.declared.reply.Reply.TheVariants as reply
use Rattle.array_runs.specs.Run.{RunState}
use Rattle.mounted_session.proofs.Telling.{then_told, weaker_told}
use Rattle.cut_replay.specs.Bounds.{BeginsUnbroken, LastIsSet, SpendsTold}
use Rattle.cut_replay.specs.FlashRun.{last_moment}
use Rattle.cut_replay.specs.MountedAgain.{CountsMounts}
use Rattle.cut_replay.specs.Served.{ServesRun, EndsThere}
use Rattle.cut_replay.proofs.Arming.{arming_bad_read, arming_cut, arming_fault}
use Rattle.cut_replay.proofs.Followed.{break_is, by_fault}
use Rattle.cut_replay.proofs.MountingAgain.{last_state_is, mounts_more, mounts_none, mounts_same}
use Rattle.cut_replay.proofs.Runs.{counts_later, counts_more, last_moment_is, last_more, least_none, none_sets, spends_later, spends_more, spends_nothing}
use Rattle.cut_replay.proofs.Spending.{sets_none, spends_after, spends_before, spends_cut, spends_dropped, spends_fault, spends_none, uncut}

-- ---- the flash on which the calls of a command begin

record BeginsAt (old first : FlashState) : Type 0 where
  live : first.live ≡ true
  told : BothTell NoMoreToCome old.told first.told
  faults : first.faults ≡ old.faults

begins_at : (its : Config) (up : Bool) (old first : FlashState) → ComesUp its up old first →
    (up ≡ true → old.live ≡ true) → BeginsAt old first
begins_at its true old first h on = record {
  live = ap (λ (s : FlashState). s.live) h ∙ on refl;
  told = subst (λ (s : FlashState). BothTell NoMoreToCome old.told s.told) (sym h) (no_more_same old.told);
  faults = ap (λ (s : FlashState). s.faults) h;
}
begins_at its false old first h on = record {
  live = h.carries.lives;
  told = h.carries.no_more;
  faults = h.carries.quiet;
}

-- ---- what one command uses up

abbrev IsBreakBy : Bool → Reply → Type 0
IsBreakBy true r = (r ≡ reply.Fault) ⊎ (r ≡ reply.Dropped)
IsBreakBy false r = r ≡ reply.Cut

by_kind : (r : Reply) (live : Bool) → is_cut r ≡ not live → is_break r ≡ true → IsBreakBy live r
by_kind reply.Cut true cut broken = (let no : true ≡ false = cut in absurd cc)
by_kind reply.Cut false cut broken = refl
by_kind reply.Fault true cut broken = inl refl
by_kind reply.Fault false cut broken = (let no : false ≡ true = cut in absurd cc)
by_kind reply.Dropped true cut broken = inr refl
by_kind reply.Dropped false cut broken = (let no : false ≡ true = cut in absurd cc)
by_kind _ live cut broken = (let no : false ≡ true = broken in absurd cc)

break_spends : (c : Command) (r : Reply) (live : Bool) (a b : Option Told) → BothTell NoMoreToCome a b →
    BothTell (Spends live) a b → IsBreakBy live r → BothTell (IsSpentBy c r) a b
break_spends c r true a b less spent (inl is) =
    subst (λ q. BothTell (IsSpentBy c q) a b) (sym is) (spends_fault c a b less spent)
break_spends c r true a b less spent (inr is) =
    subst (λ q. BothTell (IsSpentBy c q) a b) (sym is) (spends_dropped c a b less spent)
break_spends c r false a b less spent is =
    subst (λ q. BothTell (IsSpentBy c q) a b) (sym is) (spends_cut c a b less spent)

call_spends : (c : Command) (r : Reply) (a b : FlashState) → Carries a b true → a.live ≡ true →
    is_cut r ≡ not b.live → is_break r ≡ true → BothTell (IsSpentBy c r) a.told b.told
call_spends c r a b carries on cut broken =
    break_spends c r b.live a.told b.told carries.no_more (carries.spends on) (by_kind r b.live cut broken)

not_done_breaks : (its : Config) (old : Point) (r : Reply) (new : Point) → IsNotDone its old r new →
    is_break r ≡ true
not_done_breaks its old r new h = elim h.stays.1 [ inl is ↦ ap is_break is | inr is ↦ ap is_break is ]

lost_is : (its : Config) (c : Command) (old : Point) (r : Reply) (met : FlashState) (new : Point) →
    IsLost its c old r met new → (is_break r ≡ true) × (is_lost r ≡ true)
lost_is its c old r met new h = elim h.loses.0 [
  | inl is ↦ (ap is_break is.0, ap is_lost is.0)
  | inr is ↦ (ap is_break is.0, ap is_lost is.0)
]

arm_spends : (c : Command) (a b : FlashState) → ArmsFlash c a b → BothTell (IsSpentBy c reply.Armed) a.told b.told
arm_spends (command.Cut count what) a b h =
    weaker_told (SetsCut (record { count = count; outcome = what })) (IsSpentBy (command.Cut count what) reply.Armed)
    (arming_cut count what).spent a.told b.told h.told
arm_spends (command.Fault count what) a b h =
    weaker_told (SetsFault (record { count = count; outcome = what }))
    (IsSpentBy (command.Fault count what) reply.Armed) (arming_fault count what).spent a.told b.told h.told
arm_spends (command.BadRead count) a b h =
    weaker_told (SetsBadRead count) (IsSpentBy (command.BadRead count) reply.Armed) (arming_bad_read count).spent
    a.told b.told h.told
arm_spends _ a b h = absurd h

arm_faults : (c : Command) (a b : FlashState) → ArmsFlash c a b → b.faults ≡ a.faults
arm_faults (command.Cut count what) a b h = ap (λ (s : FlashState). s.faults) h.stays
arm_faults (command.Fault count what) a b h = ap (λ (s : FlashState). s.faults) h.stays
arm_faults (command.BadRead count) a b h = ap (λ (s : FlashState). s.faults) h.stays
arm_faults _ a b h = absurd h

arm_sets : (c : Command) (a b : FlashState) → ArmsFlash c a b → IfSome b.told (IsSet c)
arm_sets (command.Cut count what) a b h =
    then_told (SetsCut (record { count = count; outcome = what })) (IsSet (command.Cut count what))
    (arming_cut count what).set a.told b.told h.told
arm_sets (command.Fault count what) a b h =
    then_told (SetsFault (record { count = count; outcome = what })) (IsSet (command.Fault count what))
    (arming_fault count what).set a.told b.told h.told
arm_sets (command.BadRead count) a b h =
    then_told (SetsBadRead count) (IsSet (command.BadRead count)) (arming_bad_read count).set a.told b.told h.told
arm_sets _ a b h = absurd h

rose_between : (a b d e : ℕ) → b ≡ a → Rose b d → d ≤ e → Rose a e
rose_between a b d e same rose later = omega (arith, same, rose, later)

rose_twice : (a b d e : ℕ) → b ≡ a → Rose b d → Rose d e → counted_by 2 a ≤ e
rose_twice a b d e same first second = omega (arith, same, first, second)

-- what is so of an arm and of another command is so of each
by_command : (its : Config) (spent : ℕ → Bool) (faulted : Bool) (c : Command) (old : Point) (r : Reply) (new : Point)
    (P : Type 0) → (IsArmed c old r new → P) → (DoesFlash its spent faulted c old r new → P) →
    ServesFlash its spent faulted c old r new → P
by_command its spent faulted c old r new P arm does h = elim (cases_Bool (is_arm c)) [
  | inl is ↦ arm (subst (λ b. MatchBool b (IsArmed c old r new) (DoesFlash its spent faulted c old r new)) is h)
  | inr other ↦ does (subst (λ b. MatchBool b (IsArmed c old r new) (DoesFlash its spent faulted c old r new)) other h)
]

module _ (its : Config) (spent : ℕ → Bool) (faulted : Bool) (c : Command) (old : Point) (r : Reply) (new : Point)
    (point : IsPoint its old) where
  does_spend : DoesFlash its spent faulted c old r new → BothTell (IsSpentBy c r) old.flash.told new.flash.told
  does_spend (inl h) = call_spends c r (powered old.flash) new.flash h.mounts.carries refl h.cut
      (not_done_breaks its old r new h)
  does_spend (inr (inl h)) =
      let first = begins_at its old.state.up old.flash h.first h.mounts point.live in
      elim (cases_Bool (is_break r)) [
        | inl broken ↦ spends_after c r old.flash.told (h.first).told new.flash.told first.told
            (call_spends c r h.first new.flash (subst (λ b. Carries h.first new.flash b) broken h.calls) first.live
            (uncut r h.kept ∙ ap not (sym h.live)) broken)
        | inr whole ↦ spends_none c r old.flash.told new.flash.told (uncut r h.kept)
            (sym (break_is r h.kept) ∙ whole)
            (no_more_then old.flash.told (h.first).told new.flash.told first.told h.calls.no_more)
      ]
  does_spend (inr (inr h)) =
      let lost = h.1 in
      let first = begins_at its old.state.up old.flash lost.first lost.mounts point.live in
      spends_before c r old.flash.told (h.0).told new.flash.told
      (spends_after c r old.flash.told (lost.first).told (h.0).told first.told
      (call_spends c r lost.first h.0 lost.calls first.live lost.cut (lost_is its c old r h.0 new lost).0))
      h.2.carries.no_more

  command_spends : ServesFlash its spent faulted c old r new → BothTell (IsSpentBy c r) old.flash.told new.flash.told
  command_spends = by_command its spent faulted c old r new (BothTell (IsSpentBy c r) old.flash.told new.flash.told)
      (λ h. subst (λ q. BothTell (IsSpentBy c q) old.flash.told new.flash.told) (sym h.told)
      (arm_spends c old.flash new.flash h.arms)) does_spend

  -- ---- what it counts

  rose_counts : is_break r ≡ true → Rose old.flash.faults new.flash.faults →
      CountsBreak r old.flash.faults new.flash.faults
  rose_counts broken rose = subst (λ b. MatchBool b (Rose old.flash.faults new.flash.faults)
      (new.flash.faults ≡ old.flash.faults)) (sym broken) rose

  does_count : DoesFlash its spent faulted c old r new → CountsBreak r old.flash.faults new.flash.faults
  does_count (inl h) = rose_counts (not_done_breaks its old r new h) h.mounts.carries.cause
  does_count (inr (inl h)) =
      let first = begins_at its old.state.up old.flash h.first h.mounts point.live in
      subst (λ n. MatchBool (is_break r) (Rose n new.flash.faults) (new.flash.faults ≡ n)) first.faults
      (by_fault (is_break r) h.first new.flash h.calls)
  does_count (inr (inr h)) =
      let lost = h.1 in
      let first = begins_at its old.state.up old.flash lost.first lost.mounts point.live in
      rose_counts (lost_is its c old r h.0 new lost).0
      (rose_between old.flash.faults (lost.first).faults (h.0).faults new.flash.faults first.faults lost.calls.cause
      h.2.carries.later)

  command_counts : ServesFlash its spent faulted c old r new → CountsBreak r old.flash.faults new.flash.faults
  command_counts = by_command its spent faulted c old r new (CountsBreak r old.flash.faults new.flash.faults)
      (λ h. subst (λ q. CountsBreak q old.flash.faults new.flash.faults) (sym h.told)
      (arm_faults c old.flash new.flash h.arms)) does_count

  -- ---- and whether the device is mounted again

  twice : (met : FlashState) → IsLost its c old r met new → Carries (powered met) new.flash true →
      counted_by 2 old.flash.faults ≤ new.flash.faults
  twice met lost carries =
      let first = begins_at its old.state.up old.flash lost.first lost.mounts point.live in
      rose_twice old.flash.faults (lost.first).faults met.faults new.flash.faults first.faults lost.calls.cause
      carries.cause

  does_mount : DoesFlash its spent faulted c old r new →
      MountsAfter its old r new old.flash.faults new.flash.faults
  does_mount (inl h) = inl (λ lost. inl h)
  does_mount (inr (inl h)) = inl (λ lost. inr h.up)
  does_mount (inr (inr h)) = elim (cases_Bool new.state.up) [
    | inl up ↦ inl (λ lost. inr up)
    | inr down ↦ inr (
      (lost_is its c old r h.0 new h.1).1,
      twice h.0 h.1 (subst (λ b. Carries (powered h.0) new.flash (not b)) down h.2.carries),
    )
  ]

  command_mounts : ServesFlash its spent faulted c old r new →
      MountsAfter its old r new old.flash.faults new.flash.faults
  command_mounts = by_command its spent faulted c old r new
      (MountsAfter its old r new old.flash.faults new.flash.faults)
      (λ h. inl (λ lost. let no : false ≡ true = sym (ap is_lost h.told) ∙ lost in absurd cc)) does_mount

  command_sets : ServesFlash its spent faulted c old r new → IfSome new.flash.told (IsSet c)
  command_sets h = elim (cases_Bool (is_arm c)) [
    | inl arm ↦ (
        let set : IsArmed c old r new =
        subst (λ b. MatchBool b (IsArmed c old r new) (DoesFlash its spent faulted c old r new)) arm h in
        arm_sets c old.flash new.flash set.arms)
    | inr none ↦ sets_none c none new.flash.told
  ]

-- ---- a run

-- the lists of a run up to some command, and those from there on
rejoin : {X : Type 0} (xs : List X) (x : X) (ys : List X) → (xs ++ x ∷ []) ++ ys ≡ xs ++ x ∷ ys
rejoin xs x ys = append_assoc xs (x ∷ []) ys

module _ (its : Config) (from : FlashState) (first : Point) where
  -- what is so up to a point of a run
  record AddsUp (cs : List Command) (rs : List Reply) (ps : List Point) : Type 0 where
    same : length rs ≡ length cs
    spends : SpendsTold cs rs from.told (last_point first ps).flash.told
    faults : CountsBreaks rs from (last_point first ps).flash
    mounts : CountsMounts its first rs ps from (last_point first ps).flash

  one_more : (spent : ℕ → Bool) (faulted : Bool) (c : Command) (r : Reply) (p : Point) (cs : List Command)
      (rs : List Reply) (ps : List Point) → IsPoint its (last_point first ps) →
      ServesFlash its spent faulted c (last_point first ps) r p → AddsUp cs rs ps →
      AddsUp (cs ++ c ∷ []) (rs ++ r ∷ []) (ps ++ p ∷ [])
  one_more spent faulted c r p cs rs ps point serves h =
      let old = last_point first ps in
      let counts = command_counts its spent faulted c old r p point serves in
      let last : last_point first (ps ++ p ∷ []) ≡ p = last_more first ps p in
      record {
        same = omega (arith, h.same, length-append rs (r ∷ []), length-append cs (c ∷ []));
        spends = subst (λ (x : Point). SpendsTold (cs ++ c ∷ []) (rs ++ r ∷ []) from.told x.flash.told) (sym last)
            (spends_more cs rs c r from.told old.flash.told p.flash.told h.same h.spends
            (command_spends its spent faulted c old r p point serves));
        faults = subst (λ (x : Point). CountsBreaks (rs ++ r ∷ []) from x.flash) (sym last)
            (counts_more rs r from old.flash p.flash h.faults counts);
        mounts = subst (λ (x : Point). CountsMounts its first (rs ++ r ∷ []) (ps ++ p ∷ []) from x.flash) (sym last)
            (mounts_more its first rs ps r p from old.flash p.flash h.mounts counts
            (command_mounts its spent faulted c old r p point serves));
      }

  adds_up : (seen : ℕ → ℕ) (faulted : Bool) (cs : List Command) (rs : List Reply) (ps : List Point)
      (cs0 : List Command) (rs0 : List Reply) (ps0 : List Point) → IsPoint its (last_point first ps0) →
      FlashRun its seen faulted (last_point first ps0) cs rs ps → AddsUp cs0 rs0 ps0 →
      AddsUp (cs0 ++ cs) (rs0 ++ rs) (ps0 ++ ps)
  adds_up seen faulted [] [] [] cs0 rs0 ps0 point run h = rw (append-nil cs0, append-nil rs0, append-nil ps0) h
  adds_up seen faulted [] [] (q ∷ ps) cs0 rs0 ps0 point run h = absurd run
  adds_up seen faulted [] (s ∷ rs) ps cs0 rs0 ps0 point run h = absurd run
  adds_up seen faulted (d ∷ cs) [] ps cs0 rs0 ps0 point run h = absurd run
  adds_up seen faulted (d ∷ cs) (s ∷ rs) [] cs0 rs0 ps0 point run h = absurd run
  adds_up seen faulted (d ∷ cs) (s ∷ rs) (q ∷ ps) cs0 rs0 ps0 point run h =
      let last : last_point first (ps0 ++ q ∷ []) ≡ q = last_more first ps0 q in
      let rest = adds_up (seen_after seen d s) (faulted || is_fault s) cs rs ps (cs0 ++ d ∷ []) (rs0 ++ s ∷ [])
      (ps0 ++ q ∷ []) (subst (λ (x : Point). IsPoint its x) (sym last) run.1.0)
      (subst (λ (x : Point). FlashRun its (seen_after seen d s) (faulted || is_fault s) x cs rs ps) (sym last) run.2)
      (one_more run.0.0 faulted d s q cs0 rs0 ps0 point run.0.2 h) in
      subst (λ (x : List Command). AddsUp x (rs0 ++ s ∷ rs) (ps0 ++ q ∷ ps)) (rejoin cs0 d cs)
      (subst (λ (x : List Reply). AddsUp ((cs0 ++ d ∷ []) ++ cs) x (ps0 ++ q ∷ ps)) (rejoin rs0 s rs)
      (subst (λ (x : List Point). AddsUp ((cs0 ++ d ∷ []) ++ cs) ((rs0 ++ s ∷ []) ++ rs) x) (rejoin ps0 q ps) rest))

-- where it ends
pub last_stands : (its : Config) (seen : ℕ → ℕ) (faulted : Bool) (old : Point) (cs : List Command) (rs : List Reply)
    (ps : List Point) → IsPoint its old → FlashRun its seen faulted old cs rs ps → IsPoint its (last_point old ps)
last_stands its seen faulted old [] [] [] point run = point
last_stands its seen faulted old [] [] (p ∷ ps) point run = absurd run
last_stands its seen faulted old [] (r ∷ rs) ps point run = absurd run
last_stands its seen faulted old (c ∷ cs) [] ps point run = absurd run
last_stands its seen faulted old (c ∷ cs) (r ∷ rs) [] point run = absurd run
last_stands its seen faulted old (c ∷ cs) (r ∷ rs) (p ∷ ps) point run =
    last_stands its (seen_after seen c r) (faulted || is_fault r) p cs rs ps run.1.0 run.2

-- the last command of it, where that is an arm
set_as : (P Q : Told → Type 0) → ((t : Told) → P t → Q t) → (o : Option Told) → IfSome o P → IfSome o Q
set_as P Q weaker None h = tt
set_as P Q weaker (Some t) h = weaker t h

pub run_sets : (its : Config) (seen : ℕ → ℕ) (faulted : Bool) (old : Point) (cs : List Command) (rs : List Reply)
    (ps : List Point) → IsPoint its old → FlashRun its seen faulted old cs rs ps →
    IfSome (last_point old ps).flash.told (LastIsSet cs)
run_sets its seen faulted old [] [] [] point run = none_sets old.flash.told
run_sets its seen faulted old [] [] (q ∷ ps) point run = absurd run
run_sets its seen faulted old [] (s ∷ rs) ps point run = absurd run
run_sets its seen faulted old (d ∷ cs) [] ps point run = absurd run
run_sets its seen faulted old (d ∷ cs) (s ∷ rs) [] point run = absurd run
run_sets its seen faulted old (d ∷ []) (s ∷ []) (q ∷ []) point run =
    set_as (IsSet d) (LastIsSet (d ∷ [])) (λ t h. h) q.flash.told
    (command_sets its run.0.0 faulted d old s q point run.0.2)
run_sets its seen faulted old (d ∷ []) (s ∷ []) (q ∷ p ∷ ps) point run = absurd run.2
run_sets its seen faulted old (d ∷ []) (s ∷ r ∷ rs) (q ∷ ps) point run = absurd run.2
run_sets its seen faulted old (d ∷ e ∷ cs) (s ∷ rs) (q ∷ ps) point run =
    set_as (LastIsSet (e ∷ cs)) (LastIsSet (d ∷ e ∷ cs)) (λ t h. h) (last_point q ps).flash.told
    (run_sets its (seen_after seen d s) (faulted || is_fault s) q (e ∷ cs) rs ps run.1.0 run.2)

-- ---- from the flash that was handed in

first_quiet : (its : Config) (up : Bool) (old first : FlashState) → old.live ≡ true → MountsFlash its up old first →
    BeginsUnbroken old → (up ≡ true) × (first.faults ≡ old.faults)
first_quiet its true old first on h unbroken = (refl, h.carries.quiet)
first_quiet its false old first on h (inl off) = (let both = sym on ∙ off in absurd cc)
first_quiet its false old first on h (inr steady) =
    absurd (steady_unbroken (powered old) first (record { live = refl; none = steady.none }) h.carries)

-- what the first flash of a run has of the one that was handed in
record IsStart (old first : FlashState) : Type 0 where
  told : BothTell NoMoreToCome old.told first.told
  later : old.faults ≤ first.faults
  quiet : BeginsUnbroken old → first.faults ≡ old.faults

same_start : (old first : FlashState) → first ≡ old → IsStart old first
same_start old first same = record {
  told = subst (λ (s : FlashState). BothTell NoMoreToCome old.told s.told) (sym same) (no_more_same old.told);
  later = let e : first.faults ≡ old.faults = ap (λ (s : FlashState). s.faults) same in omega (arith, e);
  quiet = λ unbroken. ap (λ (s : FlashState). s.faults) same;
}

start_of : (its : Config) (up : Bool) (old first : FlashState) → BeginsFlash its old up first → IsStart old first
start_of its up old first h = elim (cases_Bool old.live) [
  | inl on ↦ (
      let mount : MountsFlash its up old first =
      subst (λ b. MatchBool b (MountsFlash its up old first) ((up ≡ false) × (first ≡ old))) on h in
      record {
        told = mount.carries.no_more;
        later = mount.carries.later;
        quiet = λ unbroken. (first_quiet its up old first on mount unbroken).1;
      })
  | inr off ↦ same_start old first
      (subst (λ b. MatchBool b (MountsFlash its up old first) ((up ≡ false) × (first ≡ old))) off h).1
]

steady_up : (its : Config) (up : Bool) (old first : FlashState) → BeginsFlash its old up first → IsSteady old →
    up ≡ true
steady_up its up old first h steady =
    (first_quiet its up old first steady.live
    (subst (λ b. MatchBool b (MountsFlash its up old first) ((up ≡ false) × (first ≡ old))) steady.live h)
    (inr steady)).0

module _ (its : Config) (cs : List Command) (told : ℕ) (old new : FlashState) (before after : Watched)
    (serves : ServesRun its cs told old new before after) where
  starts_with : IsStart old serves.run.flash
  starts_with = start_of its serves.run.up old serves.run.flash serves.begins

  all_add_up : AddsUp its old (first_point its serves.run.up serves.run.flash) cs serves.replies serves.points
  all_add_up =
      let first = first_point its serves.run.up serves.run.flash in
      adds_up its old first (mentions_in its (moment_of old)) false cs serves.replies serves.points [] [] []
      serves.run.first serves.run.runs (record {
        same = refl;
        spends = spends_nothing old.told first.flash.told starts_with.told;
        faults = record {
          least = least_none old.faults first.flash.faults starts_with.later;
          quiet = λ unbroken all. starts_with.quiet unbroken;
        };
        mounts = mounts_none its first old first.flash starts_with.later;
      })

  pub run_last : moment_of new ≡ last_moment (moment_of old) serves.points
  run_last = serves.left.still.moment
      ∙ last_moment_is (first_point its serves.run.up serves.run.flash) serves.points
      ∙ ap (λ (m : Moment). last_moment m serves.points) serves.run.begins

  pub run_spends : SpendsTold cs serves.replies old.told new.told
  run_spends = spends_later cs serves.replies old.told
      (last_point (first_point its serves.run.up serves.run.flash) serves.points).flash.told new.told all_add_up.spends
      serves.left.still.told

  pub run_counts : CountsBreaks serves.replies old new
  run_counts = counts_later serves.replies old
      (last_point (first_point its serves.run.up serves.run.flash) serves.points).flash new all_add_up.faults
      serves.left.quiet

  pub run_mounts : CountsMounts its (first_point its serves.run.up serves.run.flash) serves.replies serves.points old new
  run_mounts = mounts_same its (first_point its serves.run.up serves.run.flash) serves.replies serves.points old
      (last_point (first_point its serves.run.up serves.run.flash) serves.points).flash new all_add_up.mounts
      serves.left.quiet

  pub run_up : IsSteady old → serves.run.up ≡ true
  run_up steady = steady_up its serves.run.up old serves.run.flash serves.begins steady

  pub last_set_in : EndsThere its cs told old new before after serves → IfSome new.told (LastIsSet cs)
  last_set_in there = subst (λ (s : FlashState). IfSome s.told (LastIsSet cs)) (sym there)
      (run_sets its (mentions_in its (moment_of old)) false (first_point its serves.run.up serves.run.flash) cs
      serves.replies serves.points serves.run.first serves.run.runs)

  pub last_is_live : EndsThere its cs told old new before after serves →
      (last_state (first_state its serves.run.up (moment_of old)) serves.points).up ≡ true → new.live ≡ true
  last_is_live there up =
      let first = first_point its serves.run.up serves.run.flash in
      let point = last_stands its (mentions_in its (moment_of old)) false first cs serves.replies serves.points
      serves.run.first serves.run.runs in
      let same : (last_point first serves.points).state
      ≡ last_state (first_state its serves.run.up (moment_of old)) serves.points =
      last_state_is first serves.points
      ∙ ap (λ (m : Moment). last_state (first_state its serves.run.up m) serves.points) serves.run.begins in
      subst (λ (s : FlashState). s.live ≡ true) (sym there) (point.live (ap (λ (s : RunState). s.up) same ∙ up))
