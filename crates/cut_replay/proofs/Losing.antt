-- What a call comes to after which no transaction is open, and its flash is mounted again.
use Rattle.cut_replay.proofs.Common.{◌≡◌, ℕ, ◌<◌, ◌≤◌, Bool, true, false, not, ◌||◌, List, [], Result, Ok, Err, refl, sym, ap, ◌∙◌, subst, inl, inr, arith, MatchBool, IfOk, Config, Shape, checked, shape_of, FlashState, Rose, Carries, Moment, moment_of, mention, IsSoundImage, array_in, records_in, PageCacheState, CachedPage, ArrayState, idle, DeviceState, Command, Reply, CutLeavesOf, MayLose, is_arm, is_break, seen_after, Point, IsArmed, IsLost, DoesFlash, MovesBy, ServesFlash, is_cut, is_fault, is_lost, CountsBreak, IsSeen, point_at, flash_in, point_of, IsSoundFlash, Fits, StandsMounted, IsSoundOrSame, ServesIn, ServesSession, EndsServing, Mounted, Unmounted, CachesSession, ServeError, DeviceSession, sound_unbroken}
use Rattle.std.specs.Prelude.{IfErr}
use Rattle.host_protocol.specs.declared.reply.Reply.TheVariants as reply
use Rattle.cut_replay.specs.Costs.{CostsCommand}
use Rattle.cut_replay.specs.Sessions.{MountsAgain, CachesServed, CallsSession}
use Rattle.cut_replay.specs.Mounted.{CallsDevice}
use Rattle.cut_replay.specs.declared.serving.ServeError.TheVariants as failed
use Rattle.mounted_session.specs.declared.session.Session.TheVariants as session
use Rattle.cut_replay.proofs.Devices.{seen_at}
use Rattle.cut_replay.proofs.Mountings.{Leaves, mounted_leaves, mounted_machine, mounted_moment, mounted_still, mounted_point, mounted_flash, mounted_stands}

-- a command that is no arm
pub served_no_arm : (its : Config) (spent : ℕ → Bool) (faulted : Bool) (c : Command) (old : Point) (r : Reply)
    (new : Point) → is_arm c ≡ false → DoesFlash its spent faulted c old r new →
    ServesFlash its spent faulted c old r new
served_no_arm its spent faulted c old r new no_arm h =
    subst (λ b. MatchBool b (IsArmed c old r new) (DoesFlash its spent faulted c old r new)) (sym no_arm) h

rose_later : (a b d : ℕ) → Rose a b → b ≤ d → Rose a d
rose_later a b d h le = omega (arith, h, le)

-- The whole of it
abbrev pub Sessions : (F : Type 0) → Type 0
Sessions F = Result (DeviceSession F × Reply) (F × ServeError)

abbrev pub FitsAfter : (F : Type 0) → (F → FlashState) → Config → List CachedPage → Sessions F → Type 0
FitsAfter F state its entries result = IfOk result (λ done. Fits state its entries done.0)

abbrev pub ServesAfter : (F : Type 0) → (F → FlashState) → Config → Command → DeviceState F → Sessions F → Type 0
ServesAfter F state its c s result = IfOk result (λ done. ServesSession state its c (session.Mounted s) done.1 done.0)

abbrev pub EndsAfter : (F : Type 0) → (F → FlashState) → Config → Command → DeviceState F → Sessions F → Type 0
EndsAfter F state its c s result = IfErr result (λ e. EndsServing state its c (session.Mounted s)
    e.0 e.1)

abbrev pub CachesAfter : (F : Type 0) → (F → FlashState) → Config → Command → DeviceState F → PageCacheState →
    PageCacheState → Sessions F → Type 0
CachesAfter F state its c s before after result =
    IfOk result (λ done. CachesSession state its c (session.Mounted s) done.1 done.0 before after)

-- What is known of a call on a mounted device, with its reply, after which nothing is open, and of its flash then
pub record WasLost {F : Type 0} (state : F → FlashState) (its : Config) (c : Command) (s : DeviceState F) (flash : F)
    (r : Reply) : Type 0 where
  pub lost : is_lost r ≡ true
  pub no_arm : is_arm c ≡ false
  pub before : IsSoundFlash its (state s.flash)
  pub after : IsSoundFlash its (state flash)
  pub check : checked its ≡ Ok (state flash).shape
  pub may : MayLose c s.machine.pages r
  pub leaves : CutLeavesOf c s.machine (idle (array_in its.protocol its.logical (state flash).image))
  pub most : (seen : ℕ → ℕ) → IsSeen seen s → (page : ℕ) → page < its.logical →
      mention (records_in its.protocol (state flash).image) page ≤ seen page
  pub moves : MovesBy its c r (moment_of (state s.flash)) (moment_of (state flash))
  pub costs : CostsCommand its c s.machine r (moment_of (state s.flash)) (moment_of (state flash))
  pub carries : Carries (state s.flash) (state flash) true
  pub cut : is_cut r ≡ not (state flash).live

pub lost_breaks : (r : Reply) → is_lost r ≡ true → is_break r ≡ true
lost_breaks reply.Cut h = refl
lost_breaks reply.Dropped h = refl
lost_breaks _ h = cc

pub lost_counts : (r : Reply) (before now : ℕ) → is_lost r ≡ true → Rose before now → CountsBreak r before now
lost_counts r before now lost rose = subst (λ b. MatchBool b (Rose before now) (now ≡ before))
    (sym (lost_breaks r lost)) rose

-- what is lost by it, whatever comes of the mount
lost_at : {F : Type 0} (state : F → FlashState) (its : Config) (c : Command) (s : DeviceState F) (flash : F)
    (r : Reply) (after : DeviceSession F) → WasLost state its c s flash r → Leaves state its flash after →
    IsLost its c (point_at state s) r (state flash) (point_of state its after)
lost_at state its c s flash r after w leaves = record {
  loses = (
    w.may,
    subst (λ (m : ArrayState). CutLeavesOf c s.machine m)
        (sym (mounted_machine state its flash after leaves)) w.leaves,
  );
  moves = subst (λ (m : Moment). MovesBy its c r (moment_of (state s.flash)) m)
      (sym (mounted_moment state its flash after leaves)) w.moves;
  costs = subst (λ (m : Moment). CostsCommand its c s.machine r (moment_of (state s.flash)) m)
      (sym (mounted_moment state its flash after leaves)) w.costs;
  first = state s.flash;
  mounts = refl;
  calls = w.carries;
  cut = w.cut;
}

lost_in : {F : Type 0} (state : F → FlashState) (its : Config) (c : Command) (s : DeviceState F) (flash : F)
    (r : Reply) (after : DeviceSession F) (seen : ℕ → ℕ)
    (faulted : Bool) → WasLost state its c s flash r → StandsMounted seen faulted s → Mounted state its flash after →
    ServesIn state its seen faulted c (session.Mounted s) r after
lost_in state its c s flash r after seen faulted w stands mounted =
    let leaves = mounted_leaves state its flash after mounted in
    record {
      spent = λ page. false;
      may = λ page spent. (let not : false ≡ true = spent in absurd cc);
      serves = served_no_arm its (λ page. false) faulted c (point_at state s) r (point_of state its after) w.no_arm
          (inr (inr (
            state flash,
            lost_at state its c s flash r after w leaves,
            mounted_flash state its flash after mounted,
          )));
      point = mounted_point state its flash after leaves w.after;
      stands = mounted_stands state its flash (seen_after seen c r) (faulted || is_fault r) after leaves w.after
          (λ page lt. (let most = w.most seen stands.mentions page lt in let least = seen_at seen c r page in
          omega (arith, most, least)));
    }

-- it is sound after it was mounted again, or was not
sound_again : {F : Type 0} (state : F → FlashState) (its : Config) (flash : F) (after : DeviceSession F) →
    IsSoundFlash its (state flash) →
    Leaves state its flash after →
    IsSoundFlash its (state (flash_in after))
sound_again state its flash after sound leaves =
    subst (λ (m : Moment). IsSoundImage its.protocol its.logical (shape_of its) m.image)
    (sym (mounted_still state its flash after leaves).moment) sound

-- what the call comes to, but for the mount
record LostBy {F : Type 0} (state : F → FlashState) (its : Config) (c : Command) (s : DeviceState F) (r : Reply)
    (after : DeviceSession F) : Type 0 where
  kept : IsSoundOrSame its (state s.flash) (state (flash_in after))
  faults : Rose (state s.flash).faults (state (flash_in after)).faults
  extras : (state (flash_in after)).extras ≡ (state s.flash).extras

lost_by : {F : Type 0} (state : F → FlashState) (its : Config) (c : Command) (s : DeviceState F) (flash : F)
    (r : Reply) (after : DeviceSession F) →
    WasLost state its c s flash r → Leaves state its flash after → LostBy state its c s r after
lost_by state its c s flash r after w leaves =
    let still = mounted_still state its flash after leaves in
    record {
      kept = inl (w.before, sound_again state its flash after w.after leaves);
      faults = rose_later (state s.flash).faults (state flash).faults (state (flash_in after)).faults
          w.carries.cause still.later;
      extras = still.extras ∙ w.carries.extras;
    }

-- nothing is said of its call then
lost_calls : {F : Type 0} (state : F → FlashState) (its : Config) (c : Command) (s : DeviceState F) (r : Reply)
    (after : DeviceSession F) → is_lost r ≡ true → CallsSession state its c (session.Mounted s) r after
lost_calls state its c s r (session.Mounted t) lost =
    subst (λ b. MatchBool b (Unit {0}) (CallsDevice state c s t r)) (sym lost) tt
lost_calls state its c s r (session.Unmounted flash) lost = tt

lost_serves : {F : Type 0} (state : F → FlashState) (its : Config) (c : Command) (s : DeviceState F) (flash : F)
    (r : Reply) (after : DeviceSession F) →
    WasLost state its c s flash r → Mounted state its flash after →
    ServesSession state its c (session.Mounted s) r after
lost_serves state its c s flash r after w mounted =
    let by = lost_by state its c s flash r after w (mounted_leaves state its flash after mounted) in
    record {
      in_run = λ seen faulted stands. lost_in state its c s flash r after seen faulted w stands mounted;
      device = lost_calls state its c s r after w.lost;
      kept = by.kept;
      unsound = λ unsound. absurd (unsound w.before);
      faults = lost_counts r (state s.flash).faults (state (flash_in after)).faults w.lost by.faults;
      extras = by.extras;
    }

pub again_serves : {F : Type 0} (state : F → FlashState) (its : Config) (c : Command) (s : DeviceState F) (flash : F)
    (r : Reply) (result : Sessions F) →
    WasLost state its c s flash r → MountsAgain state its flash r result → ServesAfter F state its c s result
again_serves {F = F} state its c s flash r (Ok done) w h =
    subst (λ (q : Reply). ServesSession state its c (session.Mounted s) q done.0) (sym h.1)
    (lost_serves state its c s flash r done.0 w h.0)
again_serves state its c s flash r (Err e) w h = tt

-- or there was no memory for the mount
ended_again : {F : Type 0} (state : F → FlashState) (its : Config) (c : Command) (s : DeviceState F)
    (flash : F) (r : Reply) (new : F)
    (why : ServeError) → WasLost state its c s flash r → Unmounted state its flash new why →
    EndsServing state its c (session.Mounted s) new why
ended_again state its c s flash r new (failed.Unsound law slot) w h =
    absurd (sound_unbroken its.protocol its.logical (shape_of its) (state flash).image
    (record { law = law; slot = slot }) w.after h.1)
ended_again {F = F} state its c s flash r new failed.Memory w h =
    let after : DeviceSession F = session.Unmounted new in
    let by = lost_by state its c s flash r after w h.still in
    record {
      cause = inr (record {
        reply = r;
        met = state flash;
        lost = lost_at state its c s flash r after w h.still;
        point = mounted_point state its flash after h.still w.after;
        still = h;
      });
      shape = h.still.shape ∙ w.carries.shape;
      extras = h.still.extras ∙ w.carries.extras;
      kept = by.kept;
    }

pub again_ends : {F : Type 0} (state : F → FlashState) (its : Config) (c : Command) (s : DeviceState F) (flash : F)
    (r : Reply) (result : Sessions F) →
    WasLost state its c s flash r → MountsAgain state its flash r result → EndsAfter F state its c s result
again_ends state its c s flash r (Ok done) w h = tt
again_ends state its c s flash r (Err e) w h = ended_again state its c s flash r e.0 e.1 w h

pub mounted_fits : {F : Type 0} (state : F → FlashState) (its : Config) (flash : F) (after : DeviceSession F) →
    checked its ≡ Ok (state flash).shape →
    Mounted state its flash after → Fits state its [] after
mounted_fits state its flash (session.Mounted t) check h = record {
  config = h.config;
  check = check ∙ ap (λ (x : Shape). Ok x) (sym h.still.shape);
  live = h.live;
  cached = λ k d lt. (let none : k < 0 = lt in absurd (omega arith));
  always = h.always;
}
mounted_fits state its flash (session.Unmounted new) check h = check ∙ ap (λ (x : Shape). Ok x) (sym h.still.shape)

pub again_fits : {F : Type 0} (state : F → FlashState) (its : Config) (flash : F) (r : Reply)
    (result : Sessions F) →
    checked its ≡ Ok (state flash).shape → MountsAgain state its flash r result → FitsAfter F state its [] result
again_fits state its flash r (Ok done) check h = mounted_fits state its flash done.0 check h.0
again_fits state its flash r (Err e) check h = tt

-- the cache is empty then
pub no_arm_caches : {F : Type 0} (state : F → FlashState) (its : Config) (c : Command) (s : DeviceState F) (r : Reply)
    (new : DeviceSession F)
    (before after : PageCacheState) → is_arm c ≡ false → CachesServed state c s r new before after →
    CachesSession state its c (session.Mounted s) r new before after
no_arm_caches state its c s r new before after no_arm h =
    subst (λ b. MatchBool b (after ≡ before) (CachesServed state c s r new before after)) (sym no_arm) h

lost_caches : {F : Type 0} (state : F → FlashState) (c : Command) (s : DeviceState F) (r : Reply) (new : DeviceSession F)
    (before after : PageCacheState) →
    is_lost r ≡ true → after ≡ record before { entries = [] } → CachesServed state c s r new before after
lost_caches state c s r (session.Mounted t) before after lost h = rw lost h
lost_caches state c s r (session.Unmounted flash) before after lost h = h

pub again_caches : {F : Type 0} (state : F → FlashState) (its : Config) (c : Command) (s : DeviceState F) (flash : F)
    (r : Reply) (before after : PageCacheState)
    (result : Sessions F) → is_arm c ≡ false → is_lost r ≡ true → after ≡ record before { entries = [] } →
    MountsAgain state its flash r result →
    CachesAfter F state its c s before after result
again_caches state its c s flash r before after (Ok done) no_arm lost empty h =
    no_arm_caches state its c s done.1 done.0 before after no_arm
    (subst (λ (q : Reply). CachesServed state c s q done.0 before after) (sym h.1)
    (lost_caches state c s r done.0 before after lost empty))
again_caches state its c s flash r before after (Err e) no_arm lost empty h = tt
