-- Runs in which nothing is armed, and the images with which runs end.
use Rattle.std.proofs.Common.{◌≡◌, inl, inr, ℕ, Bool, ◌||◌, List, [], ◌∷◌, false, refl, sym, ap, ◌∙◌, subst}
use Rattle.std.specs.Prelude.{All}
use Rattle.std.proofs.lemmas.List.Elements.{All-nil, All-contains}
use Rattle.tx_types.specs.declared.config.Config.{Config}
use Rattle.tx_types.specs.Config.{shape_of}
use Rattle.flash_model.specs.Flash.{Contents}
use Rattle.flash_model.specs.Operations.{Moment}
use Rattle.judged_records.specs.Images.{IsSoundImage, array_in}
use Rattle.array_machine.specs.ArrayState.{ArrayState, Entry, Pages, idle, Represents}
use Rattle.array_machine.specs.declared.mark.Mark.TheVariants.{Plain}
use Rattle.tx_engine.specs.DeviceState.{limits_of}
use Rattle.array_machine.specs.UnbrokenCalls.{AllPlain}
use Rattle.host_protocol.specs.declared.command.Command.{Command}
use Rattle.host_protocol.specs.declared.reply.Reply.{Reply}
use Rattle.array_runs.specs.Breaks.{AreFew, is_fault}
use Rattle.cut_replay.specs.FlashRun.{Point, FlashRun, IsFlashRun, IsPoint, mentions_in, last_moment, last_point, last_state, first_point, first_state}
use Rattle.array_runs.specs.Run.{RunState, is_arm, seen_after}
use Rattle.array_runs.specs.Unbroken.{Handed, UnbrokenRun, AreMaybeSpent, FinishesAreDone}
use Rattle.cut_replay.proofs.MountingAgain.{last_state_is}
use Rattle.cut_replay.proofs.Quiet.{run_from}
use Rattle.cut_replay.proofs.Runs.{last_moment_is}
use Rattle.cut_replay.proofs.Totals.{last_stands}
use Rattle.array_runs.proofs.Quiet.{none_broken, finishes_done}
use Rattle.array_runs.proofs.Unbroken.{run_fine}
use Rattle.desk_tasks.specs.Runs.{IsRun, first_moment, machine_left}

-- ---- runs in which nothing is armed

abbrev opening_in : Config → Moment → ArrayState
opening_in its from = idle (array_in its.protocol its.logical from.image)

-- a run of the array machine in which nothing fails, at whose end nothing is in doubt
unbroken : (its : Config) (from : Moment) (cs : List Command) (rs : List Reply) (ps : List Point)
    (run : IsFlashRun its from cs rs ps) →
    AreFew 0 0 cs rs → All (λ c. is_arm c ≡ false) cs →
    (hands : List Handed) × AreMaybeSpent (mentions_in its from) cs rs hands
    × UnbrokenRun (limits_of its) hands (opening_in its from) cs rs
    (last_state (first_state its run.up from) ps).machine
    × AllPlain (last_state (first_state its run.up from) ps).machine
unbroken its from cs rs ps run few none =
    run_fine (limits_of its) (mentions_in its from) (first_state its run.up from) cs rs
    (last_state (first_state its run.up from) ps)
    (All-nil (λ (e : Entry). e.mark ≡ Plain))
    (run_from its from cs rs ps run)
    (none_broken cs rs none few)

pub unarmed : (its : Config) (from : Moment) (cs : List Command) (rs : List Reply) (ps : List Point)
    (run : IsFlashRun its from cs rs ps) →
    AreFew 0 0 cs rs → All (λ c. is_arm c ≡ false) cs →
    (hands : List Handed) × AreMaybeSpent (mentions_in its from) cs rs hands
    × UnbrokenRun (limits_of its) hands (opening_in its from) cs rs
    (last_state (first_state its run.up from) ps).machine
    × FinishesAreDone (limits_of its) hands (opening_in its from) cs rs
unarmed its from cs rs ps run few none =
    let last = (last_state (first_state its run.up from) ps).machine in
    let is = unbroken its from cs rs ps run few none in
    (is.0, is.1, is.2, finishes_done (limits_of its) is.0 (opening_in its from) cs rs last is.2)

-- ---- where a run ends

abbrev end_of : {its : Config} {image left : List Contents} {cs : List Command} {text : List ℕ} →
    IsRun its image cs left text → Point
end_of {its = its} run = last_point (first_point its run.run.up run.run.flash) run.points

run_stands : (its : Config) (image left : List Contents) (cs : List Command) (text : List ℕ)
    (run : IsRun its image cs left text) → IsPoint its (end_of run)
run_stands its image left cs text run =
    last_stands its (mentions_in its (first_moment image)) false (first_point its run.run.up run.run.flash) cs
    run.replies run.points run.run.first run.run.runs

ends_with : (its : Config) (image left : List Contents) (cs : List Command) (text : List ℕ)
    (run : IsRun its image cs left text) → left ≡ (end_of run).flash.image
ends_with its image left cs text run =
    run.last ∙ ap (λ (m : Moment). m.image) (sym (last_moment_is (first_point its run.run.up run.run.flash) run.points
    ∙ ap (λ (m : Moment). last_moment m run.points) run.run.begins))

ends_in : (its : Config) (image left : List Contents) (cs : List Command) (text : List ℕ)
    (run : IsRun its image cs left text) → (end_of run).state.machine ≡ machine_left run
ends_in its image left cs text run =
    ap (λ (s : RunState). s.machine) (last_state_is (first_point its run.run.up run.run.flash) run.points
    ∙ ap (λ (m : Moment). last_state (first_state its run.run.up m) run.points) run.run.begins)

pub left_sound : (its : Config) (image left : List Contents) (cs : List Command) (text : List ℕ) →
    IsRun its image cs left text →
    IsSoundImage its.protocol its.logical (shape_of its) left
left_sound its image left cs text run =
    subst (λ i. IsSoundImage its.protocol its.logical (shape_of its) i) (sym (ends_with its image left cs text run))
    (run_stands its image left cs text run).sound

pub left_stands : (its : Config) (image left : List Contents) (cs : List Command) (text : List ℕ)
    (run : IsRun its image cs left text) →
    Represents (machine_left run) (array_in its.protocol its.logical left)
left_stands its image left cs text run =
    subst (λ i. Represents (machine_left run) (array_in its.protocol its.logical i))
    (sym (ends_with its image left cs text run))
    (subst (λ (m : ArrayState). Represents m (array_in its.protocol its.logical (end_of run).flash.image))
    (ends_in its image left cs text run) (run_stands its image left cs text run).array)

-- where nothing is in doubt
sure_array : (s : ArrayState) (pages : Pages) → AllPlain s → Represents s pages → pages ≡ s.pages
sure_array s pages plain (inl same) = same
sure_array s pages plain (inr (e, has, doubt, took)) = let is = All-contains (λ (e : Entry). e.mark ≡ Plain) s.entries e
    plain has in cc

pub left_array : (its : Config) (image left : List Contents) (cs : List Command) (text : List ℕ)
    (run : IsRun its image cs left text) →
    All (λ c. is_arm c ≡ false) cs → array_in its.protocol its.logical left ≡ (machine_left run).pages
left_array its image left cs text run none =
    sure_array (machine_left run) (array_in its.protocol its.logical left)
    (unbroken its (first_moment image) cs run.replies run.points run.run run.few none).3
    (left_stands its image left cs text run)

pub begins_again : (its : Config) (image left last : List Contents) (cs ds : List Command) (text more : List ℕ)
    (run : IsRun its image cs left text) →
    All (λ c. is_arm c ≡ false) cs → (next : IsRun its left ds last more) →
    (first_state its next.run.up (first_moment left)).machine ≡ idle (machine_left run).pages
begins_again its image left last cs ds text more run none next = ap idle (left_array its image left cs text run none)
