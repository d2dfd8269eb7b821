-- What going on with several transactions at once comes to on a mounted device.
use Rattle.cut_replay.proofs.Common.{◌≡◌, ℕ, ◌<◌, ◌≤◌, Bool, true, false, not, List, Result, Ok, refl, sym, ap, ◌∙◌, subst, inl, inr, arith, Config, Protocol, Shape, shape_of, FlashState, moment_of, mention, IsSoundImage, records_in, PageCacheState, CachedPage, IsSeen, HoldsAlways, DeviceState, Reply, MayLose, is_break, is_cut, is_lost, IsCached, ServesHere, Fits, Serves, ServesSession, CachesSession, EndsServing, ServeError, DeviceSession}
use Rattle.flash_model.specs.Moves.{MovesTogether}
use Rattle.array_machine.specs.declared.answers.Moved.{Moved}
use Rattle.tx_engine.specs.Batches.{MovesDevice, DropsDevice}
use Rattle.tx_engine.specs.Exits.{is_there}
use Rattle.host_protocol.specs.declared.command.Command.TheVariants as command
use Rattle.array_runs.specs.Run.{moved_reply}
use Rattle.cut_replay.specs.Sessions.{lost_reply, left, FitsMounted, FollowsLoss, Follows}
use Rattle.mounted_session.specs.declared.session.Session.TheVariants as session
use Rattle.tx_engine.specs.DeviceState.{Stands}
use Rattle.cut_replay.specs.Costs.{CostsCommand}
use Rattle.cut_replay.proofs.CommandCosts.{moves_cost}
use Rattle.cut_replay.proofs.Devices.{cached_stays, call_serves}
use Rattle.cut_replay.proofs.Followed.{mounted_serves, was_done, left_ok, left_on, left_err}
use Rattle.cut_replay.proofs.Losing.{FitsAfter, WasLost, again_serves, again_ends, again_fits, again_caches}

-- ---- they went on

moved_serve : {F : Type 0} (state : F → FlashState) (protocol : Protocol) (old new : DeviceState F) (answer : Moved) →
    HoldsAlways state protocol old → Stands state old → HoldsAlways state protocol new →
    MovesDevice state old new answer → ServesHere state command.StepAll old new (moved_reply answer)
moved_serve state protocol old new answer was stands is moves =
    call_serves state protocol command.StepAll old new (moved_reply answer) false was is moves.exits.tables
    moves.exits.moves moves.exits.carries refl refl refl
    (answer, (is_there state old, moves.steps), refl) (λ still. cc) (λ faulted h. tt)
    (λ sure whole. moves.sure) (λ fault. cc) (moves_cost state protocol old new was answer stands moves)
    (λ sure. tt) (answer, moves, refl) tt

-- a device on which a call met no fault is live still
pub moved_session : {F : Type 0} (state : F → FlashState) (its : Config) (protocol : Protocol) (s t : DeviceState F)
    (answer : Moved) (cache : PageCacheState) →
    its.protocol ≡ protocol → FitsMounted state its cache.entries s → Stands state s → HoldsAlways state protocol t →
    MovesDevice state s t answer →
    Serves state its command.StepAll (session.Mounted s) (Ok (moved_reply answer))
    (session.Mounted t) cache cache
moved_session {F = F} state its protocol s t answer cache rule fits stands is moves =
    let was : HoldsAlways state protocol s = subst (λ (p : Protocol). HoldsAlways state p s) rule fits.always in
    let here = moved_serve state protocol s t answer was stands is moves in
    let cached : IsCached t cache.entries = cached_stays s t cache.entries here.config here.versions fits.cached in
    let live : (state t.flash).live ≡ true = here.carries.lives ∙ fits.live in
    let new : DeviceSession F = session.Mounted t in
    let follows : Follows state its new (moved_reply answer) (Ok (new, moved_reply answer)) cache cache = record {
      went_on = λ on. (refl, refl);
      was_cut = λ off. (let both = sym live ∙ off in cc);
    } in
    mounted_serves state its command.StepAll s t (moved_reply answer) (Ok (moved_reply answer)) new
    cache cache cache
    (was_done state its protocol command.StepAll s t (moved_reply answer) cache.entries cache.entries rule fits refl
    here cached is) refl refl follows

-- ---- a fault was met

-- each page is mentioned in the image as often as it was seen at most
dropped_seen : {F : Type 0} (state : F → FlashState) (protocol : Protocol) (s t : DeviceState F) →
    HoldsAlways state protocol s → DropsDevice state s t →
    (seen : ℕ → ℕ) → IsSeen seen s → (page : ℕ) → page < s.config.logical →
    mention (records_in s.config.protocol (state t.flash).image) page ≤ seen page
dropped_seen state protocol s t always drops seen is page lt =
    let its = always.its in
    subst (λ (x : Config). mention (records_in x.protocol (state t.flash).image) page ≤ seen page) its
    (elim (drops.mentions page (subst (λ (x : Config). page < x.logical) (sym its) lt)) [
      | inl noted ↦ (let least = is.mentions page in omega (arith, noted, least))
      | inr named ↦ (let least = is.names page named.0 named.1 in let of = named.2 in omega (arith, of, least))
    ])

-- by whether power is on
dropped_lost : {F : Type 0} (state : F → FlashState) (s t : DeviceState F) (entries : List CachedPage) (b : Bool) →
    (state t.flash).live ≡ b →
    FitsMounted state s.config entries s → DropsDevice state s t →
    WasLost state s.config command.StepAll s t.flash (lost_reply b)
dropped_lost state s t entries b is fits drops =
    let its = s.config in
    let always = fits.always in
    let shape : (state t.flash).shape ≡ shape_of its = drops.carries.shape ∙ always.shape in
    record {
      lost = by_lost b;
      no_arm = refl;
      before = always.sound;
      after = subst (λ (x : Shape). IsSoundImage its.protocol its.logical x (state t.flash).image) shape drops.sound;
      check = fits.check ∙ ap (λ (x : Shape). Ok x) (sym drops.carries.shape);
      may = by_may b;
      leaves = drops.array;
      most = dropped_seen state its.protocol s t always drops;
      moves = record {
        moves = subst (λ (x : Shape). MovesTogether true x (moment_of (state s.flash)) (is_break (lost_reply b))
            (moment_of (state t.flash))) always.shape (by_moves b);
        still = λ still. cc;
      };
      costs = by_costs b;
      carries = drops.carries;
      cut = by_cut b ∙ ap not (sym is);
    }
  where
    by_lost : (b : Bool) → is_lost (lost_reply b) ≡ true
    by_lost true = refl
    by_lost false = refl

    by_cut : (b : Bool) → is_cut (lost_reply b) ≡ not b
    by_cut true = refl
    by_cut false = refl

    by_may : (b : Bool) → MayLose command.StepAll s.machine.pages (lost_reply b)
    by_may true = inr (refl, refl)
    by_may false = inl (refl, tt)

    by_costs : (b : Bool) → CostsCommand s.config command.StepAll s.machine (lost_reply b) (moment_of (state s.flash))
        (moment_of (state t.flash))
    by_costs true = tt
    by_costs false = tt

    by_moves : (b : Bool) → MovesTogether true (state s.flash).shape (moment_of (state s.flash))
        (is_break (lost_reply b)) (moment_of (state t.flash))
    by_moves true = drops.moves
    by_moves false = drops.moves

dropped_at : {F : Type 0} (state : F → FlashState) (s t : DeviceState F) (result : Result Reply ServeError)
    (new : DeviceSession F) (before after : PageCacheState) →
    FitsMounted state s.config before.entries s → DropsDevice state s t →
    FollowsLoss state s.config (session.Mounted t) (left new result) before after →
    Serves state s.config command.StepAll (session.Mounted s) result new before after
dropped_at {F = F} state s t result new before after fits drops follows =
    let its = s.config in
    let old : DeviceSession F = session.Mounted s in
    let r = lost_reply (state t.flash).live in
    let w = dropped_lost state s t before.entries (state t.flash).live refl fits drops in
    record {
      fits = left_on (Fits state its after.entries) new result
          (subst (λ (x : PageCacheState). FitsAfter F state its x.entries (left new result)) (sym follows.emptied)
          (again_fits state its t.flash r (left new result) w.check follows.mounts));
      serves = left_ok (λ (x : DeviceSession F) q. ServesSession state its command.StepAll old q x) new result
          (again_serves state its command.StepAll s t.flash r (left new result) w follows.mounts);
      caches = left_ok (λ (x : DeviceSession F) q. CachesSession state its command.StepAll old q x before after) new result
          (again_caches state its command.StepAll s t.flash r before after (left new result) refl w.lost follows.emptied
          follows.mounts);
      ends = left_err (λ flash why. EndsServing state its command.StepAll old flash why) new result
          (again_ends state its command.StepAll s t.flash r (left new result) w follows.mounts);
      size = ap (λ (x : PageCacheState). x.page_bytes) follows.emptied;
    }

pub dropped_session : {F : Type 0} (state : F → FlashState) (its : Config) (s t : DeviceState F)
    (result : Result Reply ServeError) (new : DeviceSession F)
    (before after : PageCacheState) → FitsMounted state its before.entries s → DropsDevice state s t →
    FollowsLoss state its (session.Mounted t) (left new result) before after →
    Serves state its command.StepAll (session.Mounted s) result new before after
dropped_session {F = F} state its s t result new before after fits drops follows =
    let old : DeviceSession F = session.Mounted s in
    let mid : DeviceSession F = session.Mounted t in
    let is = fits.config in
    subst (λ (x : Config). Serves state x command.StepAll old result new before after) is
    (dropped_at state s t result new before after (subst (λ (x : Config). FitsMounted state x before.entries s)
    (sym is) fits) drops
    (subst (λ (x : Config). FollowsLoss state x mid (left new result) before after) (sym is) follows))
