-- Commands that set an arm.
use Rattle.cut_replay.proofs.Common.{◌≡◌, ℕ, ◌≤◌, Bool, true, false, ◌||◌, List, Ok, refl, sym, ap, ◌∙◌, subst, inr, arith, inl, MatchBool, Config, Protocol, shape_of, FlashState, Told, Moment, moment_of, mention, IsSoundImage, records_in, CachedPage, PageCacheState, DeviceState, Command, Reply, is_arm, seen_after, Point, IsPoint, IsArmed, ArmsFlash, DoesFlash, ServesFlash, RunState, first_state, IsSet, HoldsAlways, point_at, IsCachedAs, IsCached, flash_in, point_of, Fits, StandsAt, StandsMounted, IsSpentBy, ServesSession, CachesSession, Serves, DeviceSession}
use Rattle.std.proofs.lemmas.List.Elements.{All-weaker}
use Rattle.std.proofs.lemmas.Bool.{or_parts}
use Rattle.flash_model.specs.declared.outcome.Outcome.{Outcome}
use Rattle.flash_model.specs.Arms.{ChangesTold, SetsCut, SetsFault, SetsBadRead}
use Rattle.host_protocol.specs.declared.command.Command.TheVariants as command
use Rattle.host_protocol.specs.declared.reply.Reply.TheVariants as reply
use Rattle.tx_engine.proofs.OfDevice.Seen.{seen_flash}
use Rattle.mounted_session.proofs.Beginning.{sets_flash}
use Rattle.cut_replay.specs.UnmountedRun.{FailsUnmounted, ServesUnmounted}
use Rattle.cut_replay.specs.Sessions.{IsNotDropped, SetsArm, SetsArmHere, CachesFrom, CallsSession}
use Rattle.cut_replay.specs.Mounted.{CallsDevice, ChangesFlash}
use Rattle.mounted_session.specs.declared.session.Session.TheVariants as session
use Rattle.cut_replay.proofs.Mountings.{point_flash}
use Rattle.cut_replay.proofs.Followed.{always_point}

-- what an arm of a kind sets and brings
pub record IsArming (c : Command) (sets : Told → Told → Type 0) : Type 0 where
  pub arm : is_arm c ≡ true
  pub spent : (x y : Told) → sets x y → IsSpentBy c reply.Armed x y
  pub set : (x y : Told) → sets x y → IsSet c y
  pub arms : (old new : FlashState) → ChangesTold sets old new → ArmsFlash c old new

pub arming_cut : (count : ℕ) (what : Outcome) →
    IsArming (command.Cut count what) (SetsCut (record { count = count; outcome = what }))
arming_cut count what = record {
  arm = refl;
  spent = λ x y h. record {
    cuts = omega (arith, h.cuts);
    breaks = omega (arith, h.breaks);
  };
  set = λ x y h. h.cut;
  arms = λ old new h. h;
}

pub arming_fault : (count : ℕ) (what : Outcome) →
    IsArming (command.Fault count what) (SetsFault (record { count = count; outcome = what }))
arming_fault count what = record {
  arm = refl;
  spent = λ x y h. record { cuts = omega (arith, h.cuts); breaks = omega (arith, h.breaks) };
  set = λ x y h. h.fault;
  arms = λ old new h. h;
}

pub arming_bad_read : (count : ℕ) → IsArming (command.BadRead count) (SetsBadRead count)
arming_bad_read count = record {
  arm = refl;
  spent = λ x y h. record { cuts = omega (arith, h.cuts); breaks = omega (arith, h.breaks) };
  set = λ x y h. h.bad_read;
  arms = λ old new h. h;
}

still_armed : (sets : Told → Told → Type 0) (old new : FlashState) → ChangesTold sets old new →
    moment_of new ≡ moment_of old
still_armed sets old new h = ap moment_of h.stays

armed_live : (sets : Told → Told → Type 0) (old new : FlashState) → ChangesTold sets old new → old.live ≡ true →
    new.live ≡ true
armed_live sets old new h on = ap (λ (x : FlashState). x.live) h.stays ∙ on

-- the state of the run stays
same_state : {F : Type 0} (state : F → FlashState) (its : Config) (protocol : Protocol) (sets : Told → Told → Type 0)
    (old new : DeviceSession F) →
    SetsArm state protocol sets old new → (point_of state its new).state ≡ (point_of state its old).state
same_state {F = F} state its protocol sets (session.Mounted s) (session.Mounted t) h =
    ap (λ (x : DeviceState F). let at : RunState = record { machine = x.machine; up = true } in at) h.stays
same_state state its protocol sets (session.Mounted s) (session.Unmounted f) h = absurd h
same_state state its protocol sets (session.Unmounted e) (session.Mounted t) h = absurd h
same_state state its protocol sets (session.Unmounted e) (session.Unmounted f) h =
    ap (λ (m : Moment). first_state its false m) (still_armed sets (state e) (state f) h)

-- the arm was set on its flash
armed_flash : {F : Type 0} (state : F → FlashState) (protocol : Protocol) (sets : Told → Told → Type 0)
    (old new : DeviceSession F) →
    SetsArm state protocol sets old new → ChangesTold sets (state (flash_in old)) (state (flash_in new))
armed_flash {F = F} state protocol sets = sets_flash state (λ (d : DeviceState F). d.flash) sets
    (SetsArmHere state protocol sets) (λ s t h. h.changes)

-- what stands still stands
armed_stands : {F : Type 0} (state : F → FlashState) (its : Config) (protocol : Protocol)
    (sets : Told → Told → Type 0) (c : Command) (seen : ℕ →
    ℕ) (faulted : Bool) (old new : DeviceSession F) →
    SetsArm state protocol sets old new → StandsAt state its seen faulted old →
    StandsAt state its (seen_after seen c reply.Armed) (faulted || false) new
armed_stands {F = F} state its protocol sets c seen faulted (session.Mounted s) (session.Mounted t) h stands =
    subst (λ (x : DeviceState F). StandsMounted (seen_after seen c reply.Armed) (faulted || false) x)
    (sym h.stays) (record {
      sure = λ whole. stands.sure (or_parts faulted false whole).0;
      mentions = seen_flash seen s t.flash stands.mentions;
    })
armed_stands state its protocol sets c seen faulted (session.Mounted s) (session.Unmounted f) h stands = absurd h
armed_stands state its protocol sets c seen faulted (session.Unmounted e) (session.Mounted t) h stands = absurd h
armed_stands state its protocol sets c seen faulted (session.Unmounted e) (session.Unmounted f) h stands =
    let moment = still_armed sets (state e) (state f) h in
    record {
      sound = subst (λ (m : Moment). IsSoundImage its.protocol its.logical (shape_of its) m.image)
          (sym moment) stands.sound;
      mentions = λ page lt. subst (λ (m : Moment). mention (records_in its.protocol m.image) page ≤ seen page)
          (sym moment) (stands.mentions page lt);
    }

-- and the point is one still
armed_point : {F : Type 0} (state : F → FlashState) (its : Config) (protocol : Protocol) (sets : Told → Told → Type 0)
    (entries : List CachedPage) (seen : ℕ →
    ℕ) (faulted : Bool) (old new : DeviceSession F) →
    SetsArm state protocol sets old new → Fits state its entries old → StandsAt state its seen faulted old →
    IsPoint its (point_of state its new)
armed_point state its protocol sets entries seen faulted (session.Mounted s) (session.Mounted t) h fits stands =
    subst (λ (x : Config). IsPoint x (point_at state t)) (ap (λ (x : DeviceState _). x.config) h.stays ∙ fits.config)
    (always_point state protocol t h.always (armed_live sets (state s.flash) (state t.flash) h.changes fits.live))
armed_point state its protocol sets entries seen faulted (session.Mounted s) (session.Unmounted f) h fits stands =
    absurd h
armed_point state its protocol sets entries seen faulted (session.Unmounted e) (session.Mounted t) h fits stands =
    absurd h
armed_point state its protocol sets entries seen faulted (session.Unmounted e) (session.Unmounted f)
    h fits stands = record {
      sound = subst (λ (m : Moment). IsSoundImage its.protocol its.logical (shape_of its) m.image)
          (sym (still_armed sets (state e) (state f) h)) stands.sound;
      array = inl refl;
      live = λ up. (let no : false ≡ true = up in absurd cc);
    }

-- and so the arm is set in the run
armed_flash_of : {F : Type 0} (state : F → FlashState) (its : Config) (sets : Told → Told → Type 0) (c : Command)
    (old new : DeviceSession F) → IsArming c sets → ChangesTold sets (state (flash_in old)) (state (flash_in new)) →
    ArmsFlash c (point_of state its old).flash (point_of state its new).flash
armed_flash_of state its sets c old new arming h =
    subst (λ (x : FlashState). ArmsFlash c x (point_of state its new).flash) (sym (point_flash state its old))
    (subst (λ (x : FlashState). ArmsFlash c (state (flash_in old)) x) (sym (point_flash state its new))
    (arming.arms (state (flash_in old)) (state (flash_in new)) h))

armed_serves_flash : (its : Config) (spent : ℕ → Bool) (faulted : Bool) (c : Command) (old new : Point) →
    is_arm c ≡ true → IsArmed c old reply.Armed new →
    ServesFlash its spent faulted c old reply.Armed new
armed_serves_flash its spent faulted c old new arm h =
    subst (λ b. MatchBool b (IsArmed c old reply.Armed new) (DoesFlash its spent faulted c old reply.Armed new))
    (sym arm) h

armed_unmounted : (its : Config) (c : Command) (old new : FlashState) → is_arm c ≡ true → ArmsFlash c old new →
    ServesUnmounted its c old reply.Armed new
armed_unmounted its c old new arm h =
    subst (λ b. MatchBool b ((reply.Armed ≡ reply.Armed) × ArmsFlash c old new)
    (FailsUnmounted its old reply.Armed new)) (sym arm) (refl, h)

-- it changes the flash alone
arms_alone : {F : Type 0} (state : F → FlashState) (c : Command) (s t : DeviceState F) (r : Reply) → is_arm c ≡ true →
    ChangesFlash s t → CallsDevice state c s t r
arms_alone state (command.Cut count what) s t r arm h = h
arms_alone state (command.Fault count what) s t r arm h = h
arms_alone state (command.BadRead count) s t r arm h = h
arms_alone state _ s t r arm h = (let no : false ≡ true = arm in absurd cc)

armed_calls : {F : Type 0} (state : F → FlashState) (its : Config) (protocol : Protocol) (sets : Told → Told →
    Type 0) (c : Command) (old new : DeviceSession F) → is_arm c ≡ true →
    SetsArm state protocol sets old new → CallsSession state its c old reply.Armed new
armed_calls state its protocol sets c (session.Mounted s) (session.Mounted t) arm h =
    arms_alone state c s t reply.Armed arm h.stays
armed_calls state its protocol sets c (session.Mounted s) (session.Unmounted flash) arm h = tt
armed_calls state its protocol sets c (session.Unmounted flash) (session.Mounted t) arm h = absurd h
armed_calls state its protocol sets c (session.Unmounted flash) (session.Unmounted new) arm h = tt

armed_serves : {F : Type 0} (state : F → FlashState) (its : Config) (protocol : Protocol) (sets : Told → Told →
    Type 0) (entries : List CachedPage) (c : Command) (old new : DeviceSession F) →
    IsArming c sets → Fits state its entries old → SetsArm state protocol sets old new →
    ServesSession state its c old reply.Armed new
armed_serves state its protocol sets entries c old new arming fits h =
    let flash = armed_flash state protocol sets old new h in
    record {
      in_run = λ seen faulted stands. record {
        spent = λ page. false;
        may = λ page spent. (let not : false ≡ true = spent in absurd cc);
        serves = armed_serves_flash its (λ page. false) faulted c (point_of state its old)
            (point_of state its new) arming.arm
            (record {
              told = refl;
              stays = same_state state its protocol sets old new h;
              arms = armed_flash_of state its sets c old new arming flash;
            });
        point = armed_point state its protocol sets entries seen faulted old new h fits stands;
        stands = armed_stands state its protocol sets c seen faulted old new h stands;
      };
      device = armed_calls state its protocol sets c old new arming.arm h;
      kept = inr (still_armed sets (state (flash_in old)) (state (flash_in new)) flash);
      unsound = λ unsound. armed_unmounted its c (state (flash_in old)) (state (flash_in new)) arming.arm
          (arming.arms (state (flash_in old)) (state (flash_in new)) flash);
      faults = ap (λ (x : FlashState). x.faults) flash.stays;
      extras = ap (λ (x : FlashState). x.extras) flash.stays;
    }

-- a session that fits is kept
pub fits_kept : {F : Type 0} (state : F → FlashState) (its : Config) (entries : List CachedPage) (s : DeviceSession F) →
    Fits state its entries s → IsNotDropped s
fits_kept state its entries (session.Mounted s) fits = fits.always.kept
fits_kept state its entries (session.Unmounted e) fits = tt

-- and the session fits still
pub fits_flash : {F : Type 0} (s : DeviceState F) (flash : F) (e : CachedPage) → IsCachedAs s e →
    IsCachedAs (record s { flash = flash }) e
fits_flash s flash e h = record { exists = h.exists; least = h.least; current = h.current }

armed_fits : {F : Type 0} (state : F → FlashState) (its : Config) (protocol : Protocol) (sets : Told → Told →
    Type 0) (entries : List CachedPage) (old new : DeviceSession F) → its.protocol ≡ protocol →
    Fits state its entries old → SetsArm state protocol sets old new → Fits state its entries new
armed_fits {F = F} state its protocol sets entries (session.Mounted s) (session.Mounted t) rule fits h = record {
  config = ap (λ (x : DeviceState F). x.config) h.stays ∙ fits.config;
  check = fits.check ∙ ap (λ (x : FlashState). Ok x.shape) (sym h.changes.stays);
  live = ap (λ (x : FlashState). x.live) h.changes.stays ∙ fits.live;
  cached = subst (λ (x : DeviceState F). IsCached x entries) (sym h.stays)
      (All-weaker (IsCachedAs s) (IsCachedAs (record s { flash = t.flash }))
      (fits_flash s t.flash) entries fits.cached);
  always = subst (λ (p : Protocol). HoldsAlways state p t) (sym rule) h.always;
}
armed_fits state its protocol sets entries (session.Mounted s) (session.Unmounted f) rule fits h = absurd h
armed_fits state its protocol sets entries (session.Unmounted e) (session.Mounted t) rule fits h = absurd h
armed_fits state its protocol sets entries (session.Unmounted e) (session.Unmounted f) rule fits h = fits
    ∙ ap (λ (x : FlashState). Ok x.shape) (sym h.stays)

-- at the command that was read
armed_as : {F : Type 0} (state : F → FlashState) (its : Config) (protocol : Protocol) (sets : Told → Told →
    Type 0) (entries : List CachedPage) (c d : Command) (old new : DeviceSession F) →
    c ≡ d → IsArming d sets → Fits state its entries old → SetsArm state protocol sets old new →
    ServesSession state its c old reply.Armed new
armed_as state its protocol sets entries c d old new is arming fits h =
    subst (λ x. ServesSession state its x old reply.Armed new) (sym is)
    (armed_serves state its protocol sets entries d old new arming fits h)

armed_caches : {F : Type 0} (state : F → FlashState) (its : Config) (c : Command) (old new : DeviceSession F)
    (cache : PageCacheState) → is_arm c ≡ true →
    CachesSession state its c old reply.Armed new cache cache
armed_caches state its c old new cache arm =
    subst (λ b. MatchBool b (cache ≡ cache) (CachesFrom state its c old reply.Armed new cache cache)) (sym arm) refl

-- the whole of it
pub armed : {F : Type 0} (state : F → FlashState) (its : Config) (protocol : Protocol) (sets : Told → Told →
    Type 0) (cache : PageCacheState) (c d : Command) (old new : DeviceSession F) →
    c ≡ d → IsArming d sets → its.protocol ≡ protocol → Fits state its cache.entries old →
    SetsArm state protocol sets old new →
    Serves state its c old (Ok reply.Armed) new cache cache
armed state its protocol sets cache c d old new is arming rule fits h = record {
  fits = armed_fits state its protocol sets cache.entries old new rule fits h;
  serves = armed_as state its protocol sets cache.entries c d old new is arming fits h;
  caches = armed_caches state its c old new cache (ap is_arm is ∙ arming.arm);
  ends = tt;
  size = refl;
}
