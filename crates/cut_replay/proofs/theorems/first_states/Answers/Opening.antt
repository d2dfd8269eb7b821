-- The state at which a run on a flash begins.
use Rattle.cut_replay.proofs.Common.{◌≡◌, Bool, length, refl, Config, Moment, array_in, limits_of}
use Rattle.std.proofs.lemmas.List.FromFn.{length-map-range_with_len}
use Rattle.record_list.specs.Written.{page_at as page_of}
use Rattle.judged_records.specs.Images.{written_in}
use Rattle.array_runs.specs.Run.{IsClosedUnmounted}
use Rattle.cut_replay.specs.FlashRun.{first_state}

pub opening_length : (its : Config) (up : Bool) (from : Moment) → length (first_state its up from).machine.pages
    ≡ (limits_of its).logical
unfolding array_in
opening_length its up from = length-map-range_with_len (page_of its.protocol (written_in its.protocol from.image)
    its.logical) 0 its.logical

pub opening_closed : (its : Config) (up : Bool) (from : Moment) → IsClosedUnmounted (first_state its up from)
opening_closed its up from down = refl
