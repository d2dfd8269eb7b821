-- A command that mounts the device first.
use Rattle.cut_replay.proofs.Common.{◌≡◌, ◌⊎◌, ℕ, ◌≤◌, Bool, true, false, not, [], Result, Ok, Err, refl, sym, ap, ◌∙◌, subst, inl, inr, MatchBool, Config, Shape, checked, shape_of, FlashState, Rose, Moment, moment_of, mention, IsSoundImage, records_in, ArrayState, DeviceState, limits_of, Command, Reply, DoesCommand, MayLose, CutLeavesOf, is_arm, seen_after, Point, IsArmed, IsDone, IsLost, DoesFlash, ArmsFlash, ComesUp, MountsFlash, MovesBy, ServesFlash, Tells, first_point, first_state, is_cut, CountsBreak, point_at, MomentStays, PageCacheState, flash_in, point_of, StandsMounted, ServesIn, ServesSession, IsSoundOrSame, EndsServing, MountsIn, Mounted, Unmounted, CachesSession, Fits, Serves, ServeError, DeviceSession}
use Rattle.host_protocol.specs.declared.reply.Reply.TheVariants as reply
use Rattle.cut_replay.specs.Costs.{CostsCommand, CostsStep}
use Rattle.cut_replay.specs.FlashRun.{HasErased, KnowsSpent}
use Rattle.cut_replay.specs.Rising.{RaisesCommand}
use Rattle.mounted_session.specs.Sessions.{is_mounted}
use Rattle.cut_replay.specs.Sessions.{MeetsOne, StandsUnmounted}
use Rattle.cut_replay.specs.UnmountedRun.{FailsUnmounted}
use Rattle.cut_replay.specs.Sessions.{EndsFor, CallsSession, CachesServed, CachesFrom}
use Rattle.cut_replay.specs.declared.serving.ServeError.TheVariants as failed
use Rattle.mounted_session.specs.declared.session.Session.TheVariants as session
use Rattle.cut_replay.proofs.Mountings.{mounted_stands, mounted_point, mounted_flash}
use Rattle.mounted_session.specs.Devices.{mounts_quiet}
use Rattle.mounted_session.proofs.Mounting.{quiet_twice}
use Rattle.cut_replay.proofs.Losing.{served_no_arm}

-- From another point with the same machine and the same moment
tells_from : (its : Config) (faulted : Bool) (a b : Point) (r : Reply) (new : Point) →
    moment_of b.flash ≡ moment_of a.flash → Tells its faulted a r new → Tells its faulted b r new
tells_from its faulted a b reply.Collected new same h =
    subst (λ (m : Moment). HasErased its m (moment_of new.flash)) (sym same) h
tells_from its faulted a b _ new same h = h

moves_from : (its : Config) (c : Command) (r : Reply) (a b new : Moment) → b ≡ a → MovesBy its c r a new →
    MovesBy its c r b new
moves_from its c r a b new same h = subst (λ (m : Moment). MovesBy its c r m new) (sym same) h

costs_from : (its : Config) (c : Command) (r : Reply) (s t : ArrayState) (a b new : Moment) → t ≡ s → b ≡ a →
    CostsCommand its c s r a new → CostsCommand its c t r b new
costs_from its c r s t a b new machine moment h =
    subst (λ (x : ArrayState). CostsCommand its c x r b new) (sym machine)
    (subst (λ (m : Moment). CostsCommand its c s r m new) (sym moment) h)

step_from : (its : Config) (c : Command) (s t : ArrayState) (a b new : Moment) → t ≡ s → b ≡ a →
    CostsStep its c s a new → CostsStep its c t b new
step_from its c s t a b new machine moment h =
    subst (λ (x : ArrayState). CostsStep its c x b new) (sym machine)
    (subst (λ (m : Moment). CostsStep its c s m new) (sym moment) h)

raises_from : (its : Config) (c : Command) (r : Reply) (s t : ArrayState) (a b new : Moment) → t ≡ s → b ≡ a →
    RaisesCommand its c s r a new → RaisesCommand its c t r b new
raises_from its c r s t a b new machine moment h =
    subst (λ (x : ArrayState). RaisesCommand its c x r b new) (sym machine)
    (subst (λ (m : Moment). RaisesCommand its c s r m new) (sym moment) h)

-- the device of the first point was mounted on the flash of the other one
record IsMountedFrom (its : Config) (a b : Point) : Type 0 where
  up : a.state.up ≡ true
  down : b.state.up ≡ false
  machine : b.state.machine ≡ a.state.machine
  mounts : MountsFlash its true b.flash a.flash

comes_from : (its : Config) (a b : Point) (first : FlashState) → IsMountedFrom its a b →
    ComesUp its a.state.up a.flash first → ComesUp its b.state.up b.flash first
comes_from its a b first from h =
    let same : first ≡ a.flash = subst (λ x. ComesUp its x a.flash first) from.up h in
    subst (λ x. ComesUp its x b.flash first) (sym from.down)
    (subst (λ (s : FlashState). MountsFlash its true b.flash s) (sym same) from.mounts)

done_from : (its : Config) (spent : ℕ → Bool) (faulted : Bool) (c : Command) (a b : Point) (r : Reply) (new : Point) →
    IsMountedFrom its a b → IsDone its spent faulted c a r new → IsDone its spent faulted c b r new
done_from its spent faulted c a b r new from h = record {
  does = subst (λ (m : ArrayState). DoesCommand (limits_of its) spent c m r new.state.machine) (sym from.machine)
      h.does;
  up = h.up;
  moves = moves_from its c r (moment_of a.flash) (moment_of b.flash) (moment_of new.flash) (sym from.mounts.moment)
      h.moves;
  costs = costs_from its c r a.state.machine b.state.machine (moment_of a.flash) (moment_of b.flash)
      (moment_of new.flash) from.machine (sym from.mounts.moment) h.costs;
  direct = λ whole. step_from its c a.state.machine b.state.machine (moment_of a.flash) (moment_of b.flash)
      (moment_of new.flash) from.machine (sym from.mounts.moment) (h.direct whole);
  raises = λ whole. raises_from its c r a.state.machine b.state.machine (moment_of a.flash) (moment_of b.flash)
      (moment_of new.flash) from.machine (sym from.mounts.moment) (h.raises whole);
  tells = tells_from its faulted a b r new (sym from.mounts.moment) h.tells;
  knows = subst (λ (x : ArrayState). KnowsSpent its spent c x (moment_of b.flash)) (sym from.machine)
      (subst (λ (m : Moment). KnowsSpent its spent c a.state.machine m) (sym (sym from.mounts.moment)) h.knows);
  first = h.first;
  mounts = comes_from its a b h.first from h.mounts;
  calls = h.calls;
  live = h.live;
  kept = h.kept;
}

lost_from : (its : Config) (c : Command) (a b : Point) (r : Reply) (met : FlashState) (new : Point) →
    IsMountedFrom its a b → IsLost its c a r met new → IsLost its c b r met new
lost_from its c a b r met new from h = record {
  loses = (
    subst (λ (m : ArrayState). MayLose c m.pages r) (sym from.machine) h.loses.0,
    subst (λ (m : ArrayState). CutLeavesOf c m new.state.machine) (sym from.machine) h.loses.1,
  );
  moves = moves_from its c r (moment_of a.flash) (moment_of b.flash) (moment_of new.flash) (sym from.mounts.moment)
      h.moves;
  costs = costs_from its c r a.state.machine b.state.machine (moment_of a.flash) (moment_of b.flash)
      (moment_of new.flash) from.machine (sym from.mounts.moment) h.costs;
  first = h.first;
  mounts = comes_from its a b h.first from h.mounts;
  calls = h.calls;
  cut = h.cut;
}

cases_of : (its : Config) (spent : ℕ → Bool) (faulted : Bool) (c : Command) (old : Point) (r : Reply) (new : Point) →
    is_arm c ≡ false →
    ServesFlash its spent faulted c old r new → DoesFlash its spent faulted c old r new
cases_of its spent faulted c old r new no_arm h =
    subst (λ b. MatchBool b (IsArmed c old r new) (DoesFlash its spent faulted c old r new)) no_arm h

-- where the first one is up the command was done
cases_from : (its : Config) (spent : ℕ → Bool) (faulted : Bool) (c : Command) (a b : Point) (r : Reply) (new : Point) →
    IsMountedFrom its a b → DoesFlash its spent faulted c a r new → DoesFlash its spent faulted c b r new
cases_from its spent faulted c a b r new from (inl h) = (let down = h.stays.0 in let up = from.up in absurd cc)
cases_from its spent faulted c a b r new from (inr (inl done)) =
    inr (inl (done_from its spent faulted c a b r new from done))
cases_from its spent faulted c a b r new from (inr (inr h)) =
    inr (inr (h.0, lost_from its c a b r h.0 new from h.1, h.2))

from_mount : {F : Type 0} (state : F → FlashState) (its : Config) (flash : F) (t : DeviceState F) →
    MountsIn state its flash t → IsMountedFrom its (point_at state t) (first_point its false (state flash))
from_mount {F = F} state its flash t mounts =
    let up : DeviceSession F = session.Mounted t in
    record {
      up = refl;
      down = refl;
      machine = sym mounts.machine;
      mounts = mounted_flash state its flash up mounts;
    }

lifted_run : {F : Type 0} (state : F → FlashState) (its : Config) (flash : F) (t : DeviceState F) (c : Command)
    (r : Reply) (new : DeviceSession F) →
    is_arm c ≡ false → MountsIn state its flash t →
    ((seen : ℕ → ℕ) → (faulted : Bool) → StandsMounted seen faulted t →
    ServesIn state its seen faulted c (session.Mounted t) r new) →
    (seen : ℕ → ℕ) → (faulted : Bool) → StandsUnmounted its seen (state flash) →
    ServesIn state its seen faulted c (session.Unmounted flash) r new
lifted_run {F = F} state its flash t c r new no_arm mounts h seen faulted stands =
    let up : DeviceSession F = session.Mounted t in
    let served = h seen faulted (mounted_stands state its flash seen faulted up mounts stands.sound
    stands.mentions) in
    let b : Point = first_point its false (state flash) in
    record {
      spent = served.spent;
      may = served.may;
      serves = served_no_arm its served.spent faulted c b r (point_of state its new) no_arm
          (cases_from its served.spent faulted c (point_at state t) b r (point_of state its new)
          (from_mount state its flash t mounts)
          (cases_of its served.spent faulted c (point_at state t) r (point_of state its new) no_arm served.serves));
      point = served.point;
      stands = served.stands;
    }

-- from another flash with the same moment
sound_or_same_from : (its : Config) (a b new : FlashState) → moment_of b ≡ moment_of a → IsSoundOrSame its b new →
    IsSoundOrSame its a new
sound_or_same_from its a b new same (inl sound) = inl (
  subst (λ (m : Moment). IsSoundImage its.protocol its.logical (shape_of its) m.image) same sound.0,
  sound.1,
)
sound_or_same_from its a b new same (inr is) = inr (is ∙ same)

-- the call was one of the device that was mounted
lifted_calls : {F : Type 0} (state : F → FlashState) (its : Config) (flash : F) (t : DeviceState F) (c : Command)
    (r : Reply) (new : DeviceSession F) → MountsIn state its flash t →
    CallsSession state its c (session.Mounted t) r new → CallsSession state its c (session.Unmounted flash) r new
lifted_calls state its flash t c r (session.Mounted u) mounts h = (t, mounts, h)
lifted_calls state its flash t c r (session.Unmounted new) mounts h = tt

lifted_serves : {F : Type 0} (state : F → FlashState) (its : Config) (flash : F) (t : DeviceState F) (c : Command)
    (r : Reply) (new : DeviceSession F) →
    is_arm c ≡ false → MountsIn state its flash t →
    ServesSession state its c (session.Mounted t) r new →
    ServesSession state its c (session.Unmounted flash) r new
lifted_serves state its flash t c r new no_arm mounts h = record {
  in_run = lifted_run state its flash t c r new no_arm mounts h.in_run;
  device = lifted_calls state its flash t c r new mounts h.device;
  kept = sound_or_same_from its (state flash) (state t.flash) (state (flash_in new)) mounts.still.moment h.kept;
  unsound = λ unsound. absurd (unsound (subst
      (λ (m : Moment). IsSoundImage its.protocol its.logical (shape_of its) m.image) mounts.still.moment
      (subst (λ (x : Config). IsSoundImage x.protocol x.logical (shape_of x) (state t.flash).image) mounts.config
      mounts.always.sound)));
  faults = subst (λ n. CountsBreak r n (state (flash_in new)).faults) mounts.quiet h.faults;
  extras = h.extras ∙ mounts.still.extras;
}

lifted_cause : {F : Type 0} (state : F → FlashState) (its : Config) (flash : F) (t : DeviceState F)
    (c : Command) (new : F) (why : ServeError) →
    is_arm c ≡ false → MountsIn state its flash t →
    EndsFor state its c (session.Mounted t) new why →
    EndsFor state its c (session.Unmounted flash) new why
lifted_cause state its flash t c new (failed.Unsound law slot) no_arm mounts h = absurd h
lifted_cause state its flash t c new failed.Memory no_arm mounts (inl still) =
    inl (quiet_twice (state flash) (state t.flash) (state new) (mounts_quiet state its flash t mounts) still)
lifted_cause {F = F} state its flash t c new failed.Memory no_arm mounts (inr h) =
    inr (record {
      reply = h.reply;
      met = h.met;
      lost = lost_from its c (point_at state t) (first_point its false (state flash)) h.reply h.met
          (first_point its false (state new)) (from_mount state its flash t mounts) h.lost;
      point = h.point;
      still = h.still;
    })

lifted_ends : {F : Type 0} (state : F → FlashState) (its : Config) (flash : F) (t : DeviceState F)
    (c : Command) (new : F) (why : ServeError) →
    is_arm c ≡ false → MountsIn state its flash t →
    EndsServing state its c (session.Mounted t) new why →
    EndsServing state its c (session.Unmounted flash) new why
lifted_ends state its flash t c new why no_arm mounts h = record {
  cause = lifted_cause state its flash t c new why no_arm mounts h.cause;
  shape = h.shape ∙ mounts.still.shape;
  extras = h.extras ∙ mounts.still.extras;
  kept = sound_or_same_from its (state flash) (state t.flash) (state new) mounts.still.moment h.kept;
}

-- The device was not mounted
unmounted_ends : {F : Type 0} (state : F → FlashState) (its : Config) (c : Command) (flash new : F)
    (why : ServeError) →
    Unmounted state its flash new why →
    EndsServing state its c (session.Unmounted flash) new why
unmounted_ends state its c flash new (failed.Unsound law slot) h = record {
  cause = h;
  shape = h.0.still.shape;
  extras = h.0.still.extras;
  kept =
      inr h.0.still.moment;
}
unmounted_ends state its c flash new failed.Memory h = record {
  cause = inl h;
  shape = h.still.shape;
  extras = h.still.extras;
  kept = inr h.still.moment;
}

abbrev pub IsFaultOrCut : FlashState → Reply → Type 0
IsFaultOrCut s r = ((r ≡ reply.Fault) × (s.live ≡ true)) ⊎ ((r ≡ reply.Cut) × (s.live ≡ false))

not_done_reply : (s : FlashState) (r : Reply) → IsFaultOrCut s r → (r ≡ reply.Fault) ⊎ (r ≡ reply.Cut)
not_done_reply s r (inl h) = inl h.0
not_done_reply s r (inr h) = inr h.0

not_done_cut : (s : FlashState) (r : Reply) → IsFaultOrCut s r → is_cut r ≡ not s.live
not_done_cut s r (inl is) = ap is_cut is.0 ∙ ap not (sym is.1)
not_done_cut s r (inr is) = ap is_cut is.0 ∙ ap not (sym is.1)

not_done_counts : (s : FlashState) (r : Reply) (before now : ℕ) → IsFaultOrCut s r → Rose before now →
    CountsBreak r before now
not_done_counts s r before now (inl is) h = subst (λ q. CountsBreak q before now) (sym is.0) h
not_done_counts s r before now (inr is) h = subst (λ q. CountsBreak q before now) (sym is.0) h

not_opened : (s : FlashState) (c : Command) (seen : ℕ → ℕ) (r : Reply) (page : ℕ) → IsFaultOrCut s r →
    seen_after seen c r page ≡ seen page
not_opened s c seen r page (inl is) = ap (λ q. seen_after seen c q page) is.0
not_opened s c seen r page (inr is) = ap (λ q. seen_after seen c q page) is.0

not_done_serves : {F : Type 0} (state : F → FlashState) (its : Config) (c : Command) (flash new : F)
    (r : Reply) → is_arm c ≡ false →
    MeetsOne its (state flash) (state new) → IsFaultOrCut (state new) r →
    ServesSession state its c (session.Unmounted flash) r (session.Unmounted new)
not_done_serves {F = F} state its c flash new r no_arm h is =
    let after : DeviceSession F = session.Unmounted new in
    let same : first_state its false (moment_of (state new)) ≡ first_state its false (moment_of (state flash)) =
    ap (λ (m : Moment). first_state its false m) h.still.moment in
    record {
      in_run = λ seen faulted stands. record {
        spent = λ page. false;
        may = λ page spent. (let not : false ≡ true = spent in absurd cc);
        serves = served_no_arm its (λ page. false) faulted c (first_point its false (state flash)) r
            (first_point its false (state new)) no_arm
            (inl (record {
              stays = (refl, not_done_reply (state new) r is, same);
              mounts = mounted_flash state its flash after h;
              cut = not_done_cut (state new) r is;
            }));
        point = mounted_point state its flash after h.still stands.sound;
        stands = record {
          sound = subst (λ (m : Moment). IsSoundImage its.protocol its.logical (shape_of its) m.image)
              (sym h.still.moment) stands.sound;
          mentions = λ page lt. subst (λ n. mention (records_in its.protocol (state new).image) page ≤ n)
              (sym (not_opened (state new) c seen r page is))
              (subst (λ (m : Moment). mention (records_in its.protocol m.image) page ≤ seen page) (sym h.still.moment)
              (stands.mentions page lt));
        };
      };
      device = tt;
      kept = inr h.still.moment;
      unsound = λ unsound. subst (λ b. MatchBool b ((r ≡ reply.Armed) × ArmsFlash c (state flash) (state new))
          (FailsUnmounted its (state flash) r (state new))) (sym no_arm) (record {
            told = not_done_reply (state new) r is;
            cut = not_done_cut (state new) r is;
            mounts = mounted_flash state its flash after h;
          });
      faults = not_done_counts (state new) r (state flash).faults (state new).faults is h.rose;
      extras = h.still.extras;
    }

unmounted_check : (its : Config) (old new : FlashState) → checked its ≡ Ok old.shape → MomentStays old new →
    checked its ≡ Ok new.shape
unmounted_check its old new check still = check ∙ ap (λ (x : Shape). Ok x) (sym still.shape)

-- and what is in the cache
lifted_from : {F : Type 0} (state : F → FlashState) (its : Config) (flash : F) (t : DeviceState F) (c : Command)
    (r : Reply) (new : DeviceSession F)
    (before mid after : PageCacheState) → MountsIn state its flash t →
    mid ≡ record before { entries = [] } → CachesServed state c t r new mid after →
    CachesFrom state its c (session.Unmounted flash) r new before after
lifted_from state its flash t c r (session.Mounted u) before mid after mounts empty h =
    let up : DeviceSession _ = session.Mounted u in
    (t, mounts, subst (λ (x : PageCacheState). CachesServed state c t r up x after) empty h)
lifted_from state its flash t c r (session.Unmounted new) before mid after mounts empty h = h
    ∙ ap (λ (x : PageCacheState). record x { entries = [] }) empty

lifted_caches : {F : Type 0} (state : F → FlashState) (its : Config) (flash : F) (t : DeviceState F) (c : Command)
    (r : Reply) (new : DeviceSession F)
    (before mid after : PageCacheState) → is_arm c ≡ false → MountsIn state its flash t →
    mid ≡ record before { entries = [] } → CachesSession state its c (session.Mounted t) r new mid after →
    CachesSession state its c (session.Unmounted flash) r new before after
lifted_caches state its flash t c r new before mid after no_arm mounts empty h =
    let old : DeviceSession _ = session.Unmounted flash in
    let here : CachesServed state c t r new mid after =
    subst (λ b. MatchBool b (after ≡ mid) (CachesServed state c t r new mid after)) no_arm h in
    subst (λ b. MatchBool b (after ≡ before) (CachesFrom state its c old r new before after)) (sym no_arm)
    (lifted_from state its flash t c r new before mid after mounts empty here)

unmounted_caches : {F : Type 0} (state : F → FlashState) (its : Config) (flash new : F) (c : Command)
    (r : Reply) (before after : PageCacheState) →
    is_arm c ≡ false → after ≡ record before { entries = [] } →
    CachesSession state its c (session.Unmounted flash) r (session.Unmounted new) before after
unmounted_caches state its flash new c r before after no_arm empty =
    subst (λ b. MatchBool b (after ≡ before) (after ≡ record before { entries = [] })) (sym no_arm) empty

-- A session without its device
pub lifted : {F : Type 0} (state : F → FlashState) (its : Config) (c : Command) (old between : DeviceSession F)
    (result : Result Reply ServeError)
    (new : DeviceSession F) (before mid after : PageCacheState) →
    is_mounted old ≡ false → is_mounted between ≡ true → is_arm c ≡ false → Mounted state its (flash_in old) between →
    mid ≡ record before { entries = [] } →
    Serves state its c between result new mid after → Serves state its c old result new before after
lifted state its c (session.Mounted s) between result new before mid after off on no_arm mounts empty h = absurd (cc)
lifted state its c (session.Unmounted flash) (session.Unmounted other) result new before mid after off on no_arm mounts
    empty h = absurd (cc)
lifted {F = F} state its c (session.Unmounted flash) (session.Mounted t) (Ok r) new before mid after off on
    no_arm mounts empty h = record {
      fits = h.fits;
      serves = lifted_serves state its flash t c r new no_arm mounts h.serves;
      caches = lifted_caches state its flash t c r new before mid after no_arm mounts empty h.caches;
      ends = tt;
      size = h.size ∙ ap (λ (x : PageCacheState). x.page_bytes) empty;
    }
lifted {F = F} state its c (session.Unmounted flash) (session.Mounted t) (Err why) new before mid after off on
    no_arm mounts empty h = record {
      fits = tt;
      serves = tt;
      caches = tt;
      ends = lifted_ends state its flash t c (flash_in new) why no_arm mounts h.ends;
      size = h.size ∙ ap (λ (x : PageCacheState). x.page_bytes) empty;
    }

pub not_done : {F : Type 0} (state : F → FlashState) (its : Config) (c : Command) (old new : DeviceSession F) (r : Reply)
    (before after : PageCacheState) →
    is_mounted old ≡ false → is_mounted new ≡ false → is_arm c ≡ false → Fits state its before.entries old →
    Mounted state its (flash_in old) new →
    IsFaultOrCut (state (flash_in new)) r → after ≡ record before { entries = [] } →
    Serves state its c old (Ok r) new before after
not_done state its c (session.Mounted s) new r before after off still no_arm fits mounts is empty = absurd (cc)
not_done state its c (session.Unmounted flash) (session.Mounted t) r before after off still no_arm fits mounts is
    empty = absurd (cc)
not_done state its c (session.Unmounted flash) (session.Unmounted new) r before after off still no_arm fits
    mounts is empty = record {
      fits = unmounted_check its (state flash) (state new) fits mounts.still;
      serves = not_done_serves state its c flash new r no_arm mounts is;
      caches = unmounted_caches state its flash new c r before after no_arm empty;
      ends = tt;
      size = ap (λ (x : PageCacheState). x.page_bytes) empty;
    }
