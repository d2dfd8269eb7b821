-- When a cut that was armed comes in a run.
use Rattle.cut_replay.proofs.Common.{◌≡◌, NoMoreToCome, MountsFlash, Moment, moment_of, inl, inr, ℕ, ◌+◌, ◌<◌, ◌≤◌, Bool, true, false, not, ◌||◌, List, [], ◌∷◌, Option, None, Some, refl, sym, ap, ◌∙◌, subst, arith, cases_Bool, MatchBool, Config, FlashState, Told, BothTell, Carries, Command, Reply, is_arm, is_break, is_cut, is_fault, seen_after, powered, ArmsFlash, ComesUp, Point, IsPoint, IsArmed, IsNotDone, IsLost, DoesFlash, ServesFlash, FlashRun, last_point}
use Rattle.std.proofs.Common.{zero, suc, ◌-◌, ◌^◌}
use Rattle.std.specs.Prelude.{All, IsSome, IsSomeAnd}
use Rattle.std.proofs.lemmas.List.Elements.{All-head, All-tail}
use Rattle.flash_model.specs.declared.outcome.Arm.{Arm}
use Rattle.flash_model.specs.declared.outcome.Outcome.{Outcome}
use Rattle.flash_model.specs.Arms.{ChangesTold, SetsCut, SetsFault, SetsBadRead}
use Rattle.flash_model.specs.Coming.{number, Waits, Comes, ComesTo}
use Rattle.flash_model.specs.Flash.{counted_times}
use Rattle.array_runs.specs.Breaks.{arms_cut}
use Rattle.host_protocol.specs.declared.command.Command.TheVariants as command
use Rattle.host_protocol.specs.declared.reply.Reply.TheVariants as reply
use Rattle.cut_replay.specs.CutsDue.{CutIsDue}
use Rattle.cut_replay.specs.FlashRun.{is_still}

times_within : (n count : ℕ) → count + n < 2 ^ 64 → counted_times n count ≡ count + n
times_within zero count within = omega arith
times_within (suc n) count within = omega arith

abbrev arm_of : ℕ → Outcome → Arm
arm_of its_count what = record { count = its_count; outcome = what }

-- ---- it is set

sets_told : (arm : Arm) (a b : Option Told) (told : Told) → BothTell (SetsCut arm) a b → b ≡ Some told →
    IsSomeAnd b (λ t. t.cut ≡ Some arm)
sets_told arm None None told both some = cc
sets_told arm None (Some y) told both some = absurd both
sets_told arm (Some x) None told both some = absurd both
sets_told arm (Some x) (Some y) told both some = both.cut

pub sets_due : (count : ℕ) (what : Outcome) (old : Point) (r : Reply) (new : Point) (told : Told) → 1 ≤ count →
    IsArmed (command.Cut count what) old r new → new.flash.told ≡ Some told →
    CutIsDue (new.flash.started + count) what new.flash
sets_due count what old r new told some h is =
    let left : count ≡ new.flash.started + count - new.flash.started = omega arith in
    record {
      later = omega (arith, some);
      left = subst (λ (k : ℕ). IsSomeAnd new.flash.told (λ t. t.cut ≡ Some (arm_of k what))) left
          (sets_told (arm_of count what) old.flash.told new.flash.told told h.arms.told is);
    }

-- an arm of another kind leaves it
told_other : (sets : Told → Told → Type 0) → ((x y : Told) → sets x y → y.cut ≡ x.cut) → (arm : Arm)
    (a b : Option Told) → BothTell sets a b → IsSomeAnd a (λ t. t.cut ≡ Some arm) →
    IsSomeAnd b (λ t. t.cut ≡ Some arm)
told_other sets keeps arm None b both is = absurd is
told_other sets keeps arm (Some x) None both is = absurd both
told_other sets keeps arm (Some x) (Some y) both is = keeps x y both ∙ is

is_off : (r : Reply) (live : Bool) → is_cut r ≡ not live → r ≡ reply.Cut → live ≡ false
is_off r true cut is = (let no : true ≡ false = ap is_cut (sym is) ∙ cut in absurd cc)
is_off r false cut is = refl

module _ (due : ℕ) (what : Outcome) (small : due < 2 ^ 64) where
  set_other : (sets : Told → Told → Type 0) → ((x y : Told) → sets x y → y.cut ≡ x.cut) → (old new : FlashState) →
      ChangesTold sets old new → CutIsDue due what old → CutIsDue due what new
  set_other sets keeps old new h is =
      let started : new.started ≡ old.started = ap (λ (s : FlashState). s.started) h.stays in
      record {
        later = subst (λ n. n < due) (sym started) is.later;
        left = subst (λ (n : ℕ). IsSomeAnd new.told (λ t. t.cut ≡ Some (arm_of (due - n) what))) (sym started)
            (told_other sets keeps (arm_of (due - old.started) what) old.told new.told h.told is.left);
      }

  other_arms : (c : Command) (old new : FlashState) → ArmsFlash c old new → arms_cut c ≡ false →
      CutIsDue due what old → CutIsDue due what new
  other_arms (command.Cut count how) old new h other is = (let no : true ≡ false = other in absurd cc)
  other_arms (command.Fault count how) old new h other is =
      set_other (SetsFault (record { count = count; outcome = how })) (λ x y sets. sets.cut) old new h is
  other_arms (command.BadRead count) old new h other is =
      set_other (SetsBadRead count) (λ x y sets. sets.cut) old new h is
  other_arms _ old new h other is = absurd h

  -- ---- one call

  waits_on : (n : ℕ) (old new : FlashState) (now : Option Arm) → old.started < due →
      new.started ≡ counted_times n old.started → Waits n (Some (arm_of (due - old.started) what)) now →
      (new.started < due) × (now ≡ Some (arm_of (due - new.started) what))
  waits_on n old new now later is waits =
      let fewer : n < number (due - old.started) = waits.0 in
      let most : old.started + n < 2 ^ 64 = omega (arith, fewer, later, small) in
      let started : new.started ≡ old.started + n = is ∙ times_within n old.started most in
      let left : due - old.started - n ≡ due - new.started = omega (arith, started) in (
        omega (arith, started, fewer, later),
        waits.1 ∙ ap (λ (k : ℕ). Some (arm_of k what)) left,
      )

  comes_at : (n : ℕ) (old new : FlashState) (now : Option Arm) → old.started < due →
      new.started ≡ counted_times n old.started → Comes n (Some (arm_of (due - old.started) what)) now →
      new.started ≡ due
  comes_at n old new now later is comes =
      let exact : n ≡ number (due - old.started) = comes.0 in
      let sum : old.started + n ≡ due = omega (arith, exact, later) in
      is ∙ times_within n old.started (omega (arith, sum, small)) ∙ sum

  told_waits : (broken : Bool) (n m : ℕ) (old new : FlashState) (a b : Option Told) → old.started < due →
      new.started ≡ counted_times n old.started →
      IsSomeAnd a (λ t. t.cut ≡ Some (arm_of (due - old.started) what)) →
      BothTell (ComesTo broken true n m) a b →
      (new.started < due) × IsSomeAnd b (λ t. t.cut ≡ Some (arm_of (due - new.started) what))
  told_waits broken n m old new None b later is left both = absurd left
  told_waits broken n m old new (Some x) None later is left both = absurd both
  told_waits true n m old new (Some x) (Some y) later is left both =
      waits_on n old new y.cut later is (subst (λ o. Waits n o y.cut) left both.0)
  told_waits false n m old new (Some x) (Some y) later is left both =
      waits_on n old new y.cut later is (subst (λ o. Waits n o y.cut) left both.0)

  told_comes : (n m : ℕ) (old new : FlashState) (a b : Option Told) → old.started < due →
      new.started ≡ counted_times n old.started →
      IsSomeAnd a (λ t. t.cut ≡ Some (arm_of (due - old.started) what)) →
      BothTell (ComesTo true false n m) a b → new.started ≡ due
  told_comes n m old new None b later is left both = absurd left
  told_comes n m old new (Some x) None later is left both = absurd both
  told_comes n m old new (Some x) (Some y) later is left both =
      comes_at n old new y.cut later is (subst (λ o. Comes n o y.cut) left both.0)

  -- power stays on
  stays_due : (broken : Bool) (old new : FlashState) → Carries old new broken → old.live ≡ true → new.live ≡ true →
      CutIsDue due what old → CutIsDue due what new
  stays_due broken old new carries on still h =
      let starts = carries.starts on in
      let both = told_waits broken starts.0 starts.1 old new old.told new.told h.later starts.2 h.left
      (subst (λ l. BothTell (ComesTo broken l starts.0 starts.1) old.told new.told) still starts.4) in
      record { later = both.0; left = both.1 }

  -- or goes off
  goes_off : (old new : FlashState) → Carries old new true → old.live ≡ true → new.live ≡ false →
      CutIsDue due what old → new.started ≡ due
  goes_off old new carries on off h =
      let starts = carries.starts on in
      told_comes starts.0 starts.1 old new old.told new.told h.later starts.2 h.left
      (subst (λ l. BothTell (ComesTo true l starts.0 starts.1) old.told new.told) off starts.4)

  powered_due : (s : FlashState) → CutIsDue due what s → CutIsDue due what (powered s)
  powered_due s h = record { later = h.later; left = h.left }

  -- ---- one command

  comes_up : (its : Config) (up : Bool) (old first : FlashState) → ComesUp its up old first →
      (up ≡ true → old.live ≡ true) → CutIsDue due what old → (first.live ≡ true) × CutIsDue due what first
  comes_up its true old first h on is = (
    subst (λ (s : FlashState). s.live ≡ true) (sym h) (on refl),
    subst (λ (s : FlashState). CutIsDue due what s) (sym h) is,
  )
  comes_up its false old first h on is =
      let live : first.live ≡ true = h.carries.lives in
      (live, stays_due false (powered old) first h.carries refl live (powered_due old is))

  by_reply : (r : Reply) (live : Bool) → is_cut r ≡ not live → is_cut r ≡ false → live ≡ true
  by_reply r true cut uncut = refl
  by_reply r false cut uncut = (let no : false ≡ true = sym uncut ∙ cut in absurd cc)

  -- a mount starts nothing, so power stays on in it
  mount_live : (up : Bool) (met new : FlashState) → Carries (powered met) new (not up) →
      new.started ≡ met.started → CutIsDue due what met → new.live ≡ true
  mount_live true met new carries same is = carries.lives
  mount_live false met new carries same is = elim (cases_Bool new.live) [
    | inl on ↦ on
    | inr off ↦ (
        let at = goes_off (powered met) new carries refl off (powered_due met is) in
        let later = is.later in
        absurd (omega (arith, at, same, later)))
  ]

  does_due : (its : Config) (spent : ℕ → Bool) (faulted : Bool) (c : Command) (old : Point) (r : Reply) (new : Point) →
      IsPoint its old → DoesFlash its spent faulted c old r new → is_cut r ≡ false →
      CutIsDue due what old.flash → CutIsDue due what new.flash
  does_due its spent faulted c old r new point (inl h) uncut is =
      stays_due true (powered old.flash) new.flash h.mounts.carries refl (by_reply r new.flash.live h.cut uncut)
      (powered_due old.flash is)
  does_due its spent faulted c old r new point (inr (inl h)) uncut is =
      let first = comes_up its old.state.up old.flash h.first h.mounts point.live is in
      stays_due (is_break r) h.first new.flash h.calls first.0 h.live first.1
  does_due its spent faulted c old r new point (inr (inr h)) uncut is =
      let lost = h.1 in
      let first = comes_up its old.state.up old.flash lost.first lost.mounts point.live is in
      let met = stays_due true lost.first h.0 lost.calls first.0 (by_reply r (h.0).live lost.cut uncut) first.1 in
      stays_due (not new.state.up) (powered h.0) new.flash h.2.carries refl
      (mount_live new.state.up h.0 new.flash h.2.carries h.2.started met) (powered_due h.0 met)

  serves_due : (its : Config) (spent : ℕ → Bool) (faulted : Bool) (c : Command) (old : Point) (r : Reply)
      (new : Point) → IsPoint its old → ServesFlash its spent faulted c old r new → arms_cut c ≡ false →
      is_cut r ≡ false → CutIsDue due what old.flash → CutIsDue due what new.flash
  serves_due its spent faulted c old r new point h other uncut is = elim (cases_Bool (is_arm c)) [
    | inl arm ↦ (
        let set : IsArmed c old r new =
        subst (λ b. MatchBool b (IsArmed c old r new) (DoesFlash its spent faulted c old r new)) arm h in
        other_arms c old.flash new.flash set.arms other is)
    | inr none ↦ does_due its spent faulted c old r new point
        (subst (λ b. MatchBool b (IsArmed c old r new) (DoesFlash its spent faulted c old r new)) none h)
        uncut is
  ]

  -- ---- a run

  pub waits_in_run : (its : Config) (seen : ℕ → ℕ) (faulted : Bool) (old : Point) (cs : List Command)
      (rs : List Reply) (ps : List Point) → IsPoint its old → FlashRun its seen faulted old cs rs ps →
      All (λ c. arms_cut c ≡ false) cs → All (λ r. is_cut r ≡ false) rs →
      CutIsDue due what old.flash → CutIsDue due what (last_point old ps).flash
  waits_in_run its seen faulted old [] [] [] point run others uncut is = is
  waits_in_run its seen faulted old [] [] (q ∷ ps) point run others uncut is = absurd run
  waits_in_run its seen faulted old [] (s ∷ rs) ps point run others uncut is = absurd run
  waits_in_run its seen faulted old (d ∷ cs) [] ps point run others uncut is = absurd run
  waits_in_run its seen faulted old (d ∷ cs) (s ∷ rs) [] point run others uncut is = absurd run
  waits_in_run its seen faulted old (d ∷ cs) (s ∷ rs) (q ∷ ps) point run others uncut is =
      let next = serves_due its run.0.0 faulted d old s q point run.0.2
      (All-head (λ c. arms_cut c ≡ false) d cs others) (All-head (λ r. is_cut r ≡ false) s rs uncut) is in
      waits_in_run its (seen_after seen d s) (faulted || is_fault s) q cs rs ps run.1.0 run.2
      (All-tail (λ c. arms_cut c ≡ false) d cs others) (All-tail (λ r. is_cut r ≡ false) s rs uncut) next

  -- ---- the command in which it comes

  pub comes_in_calls : (its : Config) (c : Command) (old : Point) (r : Reply) (met : FlashState) (new : Point) →
      IsPoint its old → IsLost its c old r met new → r ≡ reply.Cut → CutIsDue due what old.flash → met.started ≡ due
  comes_in_calls its c old r met new point lost cut is =
      let first = comes_up its old.state.up old.flash lost.first lost.mounts point.live is in
      goes_off lost.first met lost.calls first.0 (is_off r met.live lost.cut cut) first.1

-- ---- where nothing is started no cut comes, whatever is armed

no_start : (n a b : ℕ) → b ≡ counted_times n a → b ≡ a → a + 1 < 2 ^ 64 → n ≡ 0
no_start zero a b is same small = refl
no_start (suc n) a b is same small = absurd (omega (arith, is, same, small))

none_comes : (n : ℕ) (old new : Option Arm) → n ≡ 0 → Comes n old new → ⊥
none_comes n None new none comes = comes
none_comes n (Some arm) new none comes =
    let at : n ≡ number arm.count = comes.0 in
    absurd (omega (arith, at, none))

no_cut : (n m : ℕ) (a b : Option Told) → IsSome a → n ≡ 0 → BothTell (ComesTo true false n m) a b → ⊥
no_cut n m None b tells none both = (let no : false ≡ true = tells in cc)
no_cut n m (Some x) None tells none both = both
no_cut n m (Some x) (Some y) tells none both = none_comes n x.cut y.cut none both.0

stays_on : (old new : FlashState) → Carries old new true → old.live ≡ true → new.live ≡ false → IsSome old.told →
    new.started ≡ old.started → old.started + 1 < 2 ^ 64 → ⊥
stays_on old new carries on off tells same small =
    let starts = carries.starts on in
    no_cut starts.0 starts.1 old.told new.told tells (no_start starts.0 old.started new.started starts.2 same small)
    (subst (λ l. BothTell (ComesTo true l starts.0 starts.1) old.told new.told) off starts.4)

-- so a mount does not end in a cut
pub mounts_uncut : (its : Config) (old : Point) (r : Reply) (new : Point) → IsNotDone its old r new →
    IsSome old.flash.told → old.flash.started + 1 < 2 ^ 64 → r ≡ reply.Cut → ⊥
mounts_uncut its old r new h tells small cut =
    stays_on (powered old.flash) new.flash h.mounts.carries refl (is_off r new.flash.live h.cut cut) tells
    h.mounts.started small

-- the flash on which the calls of a command begin
record IsBegun (old first : FlashState) : Type 0 where
  live : first.live ≡ true
  tells : IsSome old.told → IsSome first.told
  started : first.started ≡ old.started

still_tells : (P : Told → Told → Type 0) (a b : Option Told) → BothTell P a b → IsSome a → IsSome b
still_tells P None b both tells = (let no : false ≡ true = tells in absurd cc)
still_tells P (Some x) None both tells = absurd both
still_tells P (Some x) (Some y) both tells = refl

begun_on : (its : Config) (up : Bool) (old first : FlashState) → ComesUp its up old first →
    (up ≡ true → old.live ≡ true) → IsBegun old first
begun_on its true old first h on = record {
  live = ap (λ (s : FlashState). s.live) h ∙ on refl;
  tells = λ tells. subst (λ (s : FlashState). IsSome s.told) (sym h) tells;
  started = ap (λ (s : FlashState). s.started) h;
}
begun_on its false old first h on = record {
  live = h.carries.lives;
  tells = still_tells NoMoreToCome old.told first.told h.carries.no_more;
  started = h.started;
}

-- nor does a command that asks for no program and no erase
pub still_uncut : (its : Config) (c : Command) (old : Point) (r : Reply) (met : FlashState) (new : Point) →
    IsPoint its old → IsLost its c old r met new → MountsFlash its new.state.up met new.flash → is_still c ≡ true →
    IsSome old.flash.told → old.flash.started + 1 < 2 ^ 64 → r ≡ reply.Cut → ⊥
still_uncut its c old r met new point lost mounts still tells small cut =
    let first = begun_on its old.state.up old.flash lost.first lost.mounts point.live in
    let moment : moment_of met ≡ moment_of old.flash = sym mounts.moment ∙ lost.moves.still still in
    let none : met.started ≡ (lost.first).started = ap (λ (m : Moment). m.started) moment ∙ sym first.started in
    stays_on lost.first met lost.calls first.live (is_off r met.live lost.cut cut) (first.tells tells) none
    (subst (λ n. n + 1 < 2 ^ 64) (sym first.started) small)
