-- Steps of a device, one after another, up to the end of a transaction.
use Rattle.cut_replay.proofs.Common.{◌≡◌, ℕ, ◌<◌, Bool, [], ◌∷◌, Result, Ok, Err, refl, sym, ◌∙◌, subst, inl, inr, arith, Config, shape_of, FlashState, moment_of, array_in, DeviceState, Reply, Point, Tells, is_fault, point_at, ServesHere}
use Rattle.std.proofs.Common.{◌≢◌}
use Rattle.flash_model.specs.Moves.{Moves}
use Rattle.flash_model.proofs.CallLemmas.{Carries-then}
use Rattle.flash_model.proofs.MoveLemmas.{Moves-then}
use Rattle.array_machine.specs.ArrayState.{idle}
use Rattle.tx_engine.specs.Exits.{VersionsTell}
use Rattle.array_machine.specs.Step.{Steps}
use Rattle.array_machine.specs.declared.answers.Progress.{Progress}
use Rattle.array_machine.specs.declared.answers.Progress.TheVariants as progress
use Rattle.array_machine.specs.declared.answers.StepError.{StepError}
use Rattle.array_machine.proofs.UnbrokenCalls.{again}
use Rattle.host_protocol.specs.declared.command.Command.TheVariants as command
use Rattle.host_protocol.specs.declared.reply.Reply.TheVariants as reply
use Rattle.std.specs.Prelude.{min}
use Rattle.array_runs.specs.Run.{pages_left, step_reply, is_break}
use Rattle.cut_replay.specs.Costs.{CostsPages}
use Rattle.cut_replay.specs.Mounted.{FinishesDevice}
use Rattle.tx_engine.specs.DeviceCalls.{StepsDevice}
use Rattle.cut_replay.proofs.CommandCosts.{pages_more, pages_then}
use Rattle.cut_replay.proofs.Single.{step_tells}
use Rattle.array_runs.proofs.Finishes.{told_wrote, step_writes, fewer_left, cut_before, at_last, ends}

-- the last step
device_ends : {F : Type 0} (state : F → FlashState) (old new : DeviceState F) (tag : ℕ) (r : Reply)
    (result : Result Progress StepError) → ((own done all : ℕ) → r ≢ reply.Wrote own done all) →
    r ≡ step_reply tag result → StepsDevice state old new tag result → FinishesDevice state old [] new tag result
device_ends state old new tag r (Ok (progress.Wrote done all)) last told steps = absurd (last tag done all told)
device_ends state old new tag r (Ok progress.Done) last told steps = steps
device_ends state old new tag r (Err e) last told steps = steps

pub last_serves : {F : Type 0} (state : F → FlashState) (old new : DeviceState F) (tag : ℕ) (r : Reply) →
    ((own done all : ℕ) → r ≢ reply.Wrote own done all) →
    ServesHere state (command.Step tag) old new r → ServesHere state (command.Finish tag) old new r
last_serves state old new tag r last h = record {
  config = h.config;
  does = ([], h.does.0, ends old.machine new.machine tag r h.does.0 last h.does.2 h.does.1, h.does.2);
  moves = record { moves = h.moves.moves; still = λ still. cc };
  costs = pages_more old.config (min 1 (pages_left tag old.machine)) (pages_left tag old.machine)
      (moment_of (state old.flash)) (moment_of (state new.flash)) (omega arith) h.costs;
  direct = λ sure. tt;
  knows = tt;
  carries = h.carries;
  tells = h.tells;
  sure = h.sure;
  seen = h.seen;
  versions = h.versions;
  cut = λ fault. record {
    may = tt;
    leaves = at_last tag old.machine (idle (array_in new.config.protocol new.config.logical (state new.flash).image))
        (h.cut fault).leaves;
  };
  device = (
    [],
    h.device.0,
    device_ends state old new tag r h.device.0 last h.device.2 h.device.1,
    h.device.2,
  );
  whole = h.whole;
}

-- One step more before
versions_then : {F : Type 0} (old mid new : DeviceState F) → mid.config ≡ old.config → VersionsTell old mid →
    VersionsTell mid new → VersionsTell old new
versions_then old mid new same first second page lt = elim (first page lt) [
  | inl rose ↦ elim (second page (subst (λ (c : Config). page < c.logical) (sym same) lt)) [
    | inl more ↦ inl (omega arith)
    | inr stays ↦ (let still = stays.0 in inl (omega arith))
  ]
  | inr stays ↦ elim (second page (subst (λ (c : Config). page < c.logical) (sym same) lt)) [
    | inl more ↦ (let still = stays.0 in inl (omega arith))
    | inr again ↦ inr (again.0 ∙ stays.0, again.1 ∙ stays.1)
  ]
]

-- a step has a page less to write
pub step_fewer : {F : Type 0} (state : F → FlashState) (old new : DeviceState F) (own tag done all : ℕ) →
    ServesHere state (command.Step tag) old new (reply.Wrote own done all) →
    pages_left tag new.machine < pages_left tag old.machine
step_fewer state old new own tag done all h =
    let w = step_writes old.machine new.machine own tag done all h.does.0 h.does.1 h.does.2 in
    (fewer_left old.machine new.machine w.0 tag w.1 w.2).0

finish_tells : (its : Config) (faulted : Bool) (old new : Point) (tag : ℕ) (r : Reply)
    (result : Result Progress StepError) → r ≡ step_reply tag result →
    Tells its faulted old r new
finish_tells its faulted old new tag r result told = subst (λ (q : Reply). Tells its faulted old q new) (sym told)
    (step_tells its faulted old new tag result)

pub wrote_serves : {F : Type 0} (state : F → FlashState) (old mid new : DeviceState F)
    (own tag done all : ℕ) (r : Reply) →
    ServesHere state (command.Step tag) old mid (reply.Wrote own done all) →
    ServesHere state (command.Finish tag) mid new r →
    ServesHere state (command.Finish tag) old new r
wrote_serves state old mid new own tag done all r first rest =
    let told = told_wrote own tag done all first.does.0 first.does.2 in
    let w = step_writes old.machine mid.machine own tag done all first.does.0 first.does.1 first.does.2 in
    record {
      config = rest.config ∙ first.config;
      does = (
        mid.machine ∷ rest.does.0,
        rest.does.1,
        (
          done,
          all,
          subst (λ (x : Result Progress StepError). Steps old.machine mid.machine tag x) told
              first.does.1,
          rest.does.2,
        ),
        rest.does.3,
      );
      moves = record {
        moves = Moves-then (shape_of old.config) (moment_of (state old.flash)) (moment_of (state mid.flash))
            (moment_of (state new.flash))
            (is_break r) first.moves.moves
            (subst (λ (c : Config). Moves (shape_of c) (moment_of (state mid.flash)) (is_break r)
            (moment_of (state new.flash))) first.config rest.moves.moves);
        still = λ still. cc;
      };
      costs = (
          let fewer = step_fewer state old mid own tag done all first in
          pages_then old.config (min 1 (pages_left tag old.machine)) (pages_left tag mid.machine)
          (pages_left tag old.machine) (moment_of (state old.flash)) (moment_of (state mid.flash))
          (moment_of (state new.flash)) (omega (arith, fewer)) first.costs
          (subst (λ (c : Config). CostsPages c (pages_left tag mid.machine) (moment_of (state mid.flash))
          (moment_of (state new.flash))) first.config rest.costs));
      direct = λ sure. tt;
      knows = tt;
      carries = Carries-then (state old.flash) (state mid.flash) (state new.flash) (is_fault r)
          first.carries rest.carries;
      tells = λ faulted h. finish_tells old.config faulted (point_at state old) (point_at state new) tag r
          rest.does.1 rest.does.3;
      sure = λ sure whole. rest.sure (first.sure sure refl) whole;
      seen = λ seen h. rest.seen seen (first.seen seen h);
      versions = versions_then old mid new first.config first.versions rest.versions;
      cut = λ fault. record {
        may = tt;
        leaves = cut_before w.0 old.machine mid.machine
            (idle (array_in new.config.protocol new.config.logical (state new.flash).image)) tag w.1 w.2
            (rest.cut fault).leaves;
      };
      device = (
        mid ∷ rest.device.0,
        rest.device.1,
        (
          done,
          all,
          subst (λ (x : Result Progress StepError). StepsDevice state old mid tag x)
              (told_wrote own tag done all first.device.0 first.device.2) first.device.1,
          rest.device.2,
        ),
        rest.device.3,
      );
      whole = rest.whole;
    }
