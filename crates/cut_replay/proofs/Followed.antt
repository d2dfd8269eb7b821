-- What a command comes to that was done on a mounted device.
use Rattle.cut_replay.proofs.Common.{◌≡◌, ℕ, ◌<◌, ◌≤◌, Bool, true, false, not, List, [], Result, Ok, Err, refl, sym, ap, ◌∙◌, subst, inl, inr, arith, MatchBool, IfOk, OnOk, cases_Bool, Config, Protocol, checked, shape_of, FlashState, Rose, Carries, Moment, moment_of, mention, IsSoundImage, array_in, records_in, PageCacheState, CachedPage, idle, is_spent, DeviceState, Command, Reply, CutLeavesOf, is_arm, is_break, IsPoint, MovesBy, is_fault, is_lost, CountsBreak, IsSeen, HoldsAlways, point_at, IsCached, ServesHere, flash_in, IsSoundFlash, Fits, StandsMounted, ServesIn, ServesSession, EndsServing, Serves, CachesSession, ServeError, DeviceSession}
use Rattle.std.specs.Prelude.{nat_le, ◌^◌, IfErr}
use Rattle.std.proofs.lemmas.Bool.{or_parts}
use Rattle.std.proofs.lemmas.Bool.Decides.{nat_tests}
use Rattle.judged_records.specs.IndexState.{mention_of}
use Rattle.tx_engine.proofs.OfDevice.Seen.{image_seen}
use Rattle.host_protocol.specs.declared.reply.Reply.TheVariants as reply
use Rattle.array_runs.specs.Run.{MayBeSpent}
use Rattle.cut_replay.specs.Mounted.{CachesCommand, CallsDevice}
use Rattle.cut_replay.specs.Sessions.{FitsMounted}
use Rattle.cut_replay.specs.Sessions.{Follows, left}
use Rattle.mounted_session.specs.declared.session.Session.TheVariants as session
use Rattle.cut_replay.proofs.CommandCosts.{cut_costs}
use Rattle.cut_replay.proofs.Losing.{Sessions, FitsAfter, ServesAfter, EndsAfter, CachesAfter, WasLost, served_no_arm, again_serves, again_ends, again_fits}
use Rattle.cut_replay.proofs.Losing.{again_caches, no_arm_caches}
use Rattle.cut_replay.proofs.Raising.{raised}
use Rattle.cut_replay.proofs.Spending.{is_its_fault}

-- a page is spent only where it may have been mentioned at the last version
last_version : (n m : ℕ) → nat_le (2 ^ 62) n ≡ true → n ≤ m → 2 ^ 62 ≤ m
last_version n m is le = grind (arith, nat_tests)

pub may_be_spent : {F : Type 0} (seen : ℕ → ℕ) (s : DeviceState F) → IsSeen seen s →
    MayBeSpent seen (is_spent s.noted.mentions)
may_be_spent seen s h page is = last_version (mention_of s.noted page) (seen page) is (h.mentions page)

-- the point of a device
pub always_point : {F : Type 0} (state : F → FlashState) (protocol : Protocol) (s : DeviceState F) →
    HoldsAlways state protocol s → (state s.flash).live ≡ true →
    IsPoint s.config (point_at state s)
always_point state protocol s h on = record { sound = h.sound; array = h.array; live = λ up. on }

-- where nothing was lost each break is a fault
pub break_is : (r : Reply) → is_lost r ≡ false → is_break r ≡ is_fault r
break_is reply.Cut h = cc
break_is reply.Fault h = refl
break_is reply.Dropped h = cc
break_is _ h = refl

-- Power was not cut
pub done_in : {F : Type 0} (state : F → FlashState) (protocol : Protocol) (c : Command) (s t : DeviceState F)
    (r : Reply) (seen : ℕ → ℕ) (faulted : Bool) →
    is_arm c ≡ false → (state t.flash).live ≡ true →
    ServesHere state c s t r → HoldsAlways state protocol s → HoldsAlways state protocol t →
    StandsMounted seen faulted s →
    ServesIn state s.config seen faulted c (session.Mounted s) r (session.Mounted t)
done_in state protocol c s t r seen faulted no_arm on h was always stands = record {
  spent = is_spent s.noted.mentions;
  may = may_be_spent seen s stands.mentions;
  serves = served_no_arm s.config (is_spent s.noted.mentions) faulted c (point_at state s) r (point_at state t) no_arm
      (inr (inl (record {
        does = h.does;
        up = refl;
        moves = h.moves;
        costs = h.costs;
        direct = λ whole. h.direct (stands.sure whole);
        raises = λ whole. raised state protocol s t was always h.config (stands.sure whole) c r
            (h.sure (stands.sure whole)) h.device;
        tells = h.tells faulted stands.sure;
        knows = h.knows;
        first = state s.flash;
        mounts = refl;
        calls = subst (λ (b : Bool). Carries (state s.flash) (state t.flash) b) (sym (break_is r h.whole)) h.carries;
        live = on;
        kept = h.whole;
      })));
  point = subst (λ (x : Config). IsPoint x (point_at state t)) h.config (always_point state protocol t always on);
  stands = record {
    sure = λ whole. let parts = or_parts faulted (is_fault r) whole in h.sure (stands.sure parts.0) parts.1;
    mentions = h.seen seen stands.mentions;
  };
}

-- whether power is on after a call that was on a live flash
not_broken : (old new : FlashState) (r : Reply) → old.live ≡ true → new.live ≡ false → Carries old new (is_fault r) →
    is_fault r ≡ true
not_broken old new r on off carries = elim (cases_Bool (is_fault r)) [
  | inl broken ↦ broken
  | inr whole ↦ (let lives : new.live ≡ old.live = (subst (λ (b : Bool). Carries old new b) whole carries).lives in cc)
]

-- what the flash counts
pub by_fault : (broken : Bool) (old new : FlashState) → Carries old new broken →
    MatchBool broken (Rose old.faults new.faults) (new.faults ≡ old.faults)
by_fault true old new h = h.cause
by_fault false old new h = h.quiet

live_counts : (r : Reply) (old new : FlashState) → is_lost r ≡ false → Carries old new (is_fault r) →
    CountsBreak r old.faults new.faults
live_counts r old new whole carries =
    subst (λ b. MatchBool b (Rose old.faults new.faults) (new.faults ≡ old.faults)) (sym (break_is r whole))
    (by_fault (is_fault r) old new carries)

-- what is known of a command that was done
pub record WasDone {F : Type 0} (state : F → FlashState) (its : Config) (c : Command) (s t : DeviceState F) (r : Reply)
    (entries : List CachedPage) : Type 0 where
  pub config : s.config ≡ its
  pub sound : IsSoundFlash its (state s.flash)
  pub no_arm : is_arm c ≡ false
  pub on : (state s.flash).live ≡ true
  pub here : ServesHere state c s t r
  pub cached : IsCached t entries
  pub was : HoldsAlways state its.protocol s
  pub always : HoldsAlways state its.protocol t

pub after_check : {F : Type 0} (state : F → FlashState) (its : Config) (c : Command) (s t : DeviceState F) (r : Reply)
    (entries : List CachedPage) →
    WasDone state its c s t r entries → checked its ≡ Ok (state t.flash).shape
after_check state its c s t r entries w = ap checked (sym (w.here.config ∙ w.config)) ∙ w.always.check

pub fits_after : {F : Type 0} (state : F → FlashState) (its : Config) (c : Command) (s t : DeviceState F) (r : Reply)
    (result : Sessions F)
    (before after : PageCacheState) →
    WasDone state its c s t r before.entries → Follows state its (session.Mounted t) r result before after →
    FitsAfter F state its after.entries result
fits_after {F = F} state its c s t r result before after w follows = elim (cases_Bool (state t.flash).live) [
  | inl on ↦ (
      let went = follows.went_on on in
      subst (λ (x : Sessions F). FitsAfter F state its after.entries x) (sym went.0) (record {
        config = w.here.config ∙ w.config;
        check = after_check state its c s t r before.entries w;
        live = on;
        cached = subst (λ (x : PageCacheState). IsCached t x.entries) (sym went.1) w.cached;
        always = w.always;
      }))
  | inr off ↦ (
      let cut = follows.was_cut off in
      subst (λ (x : PageCacheState). FitsAfter F state its x.entries result) (sym cut.1)
      (again_fits state its t.flash reply.Cut result (after_check state its c s t r before.entries w) cut.0))
]

-- the image is sound
sound_here : {F : Type 0} (state : F → FlashState) (c : Command) (s t : DeviceState F) (r : Reply)
    (entries : List CachedPage) →
    WasDone state s.config c s t r entries → IsSoundFlash s.config (state t.flash)
sound_here state c s t r entries w =
    subst (λ (x : Config). IsSoundImage x.protocol x.logical (shape_of x) (state t.flash).image) w.here.config
    w.always.sound

-- the whole of what a command comes to that was done
went_serves : {F : Type 0} (state : F → FlashState) (c : Command) (s t : DeviceState F) (r : Reply)
    (entries : List CachedPage) →
    WasDone state s.config c s t r entries → (state t.flash).live ≡ true →
    ServesSession state s.config c (session.Mounted s) r (session.Mounted t)
went_serves state c s t r entries w on = record {
  in_run = λ seen faulted stands. done_in state s.config.protocol c s t r seen faulted w.no_arm on w.here
      w.was w.always stands;
  device = subst (λ b. MatchBool b (Unit {0}) (CallsDevice state c s t r)) (sym w.here.whole) w.here.device;
  kept = inl (w.sound, sound_here state c s t r entries w);
  unsound = λ unsound. absurd (unsound w.sound);
  faults = live_counts r (state s.flash) (state t.flash) w.here.whole w.here.carries;
  extras = w.here.carries.extras;
}

-- the command met a fault, where power is off
faulted_here : {F : Type 0} (state : F → FlashState) (its : Config) (c : Command) (s t : DeviceState F) (r : Reply)
    (entries : List CachedPage) →
    WasDone state its c s t r entries → (state t.flash).live ≡ false →
    ServesHere state c s t reply.Fault
faulted_here state its c s t r entries w off =
    subst (λ (q : Reply). ServesHere state c s t q)
    (is_its_fault r (not_broken (state s.flash) (state t.flash) r w.on off w.here.carries) w.here.whole)
    w.here

-- what comes after it, as far as its moves go
cut_moves : (its : Config) (c : Command) (old new : Moment) → MovesBy its c reply.Fault old new →
    MovesBy its c reply.Cut old new
cut_moves its c old new h = record { moves = h.moves; still = h.still }

-- so nothing is open then
cut_lost : {F : Type 0} (state : F → FlashState) (c : Command) (s t : DeviceState F) (r : Reply)
    (entries : List CachedPage) →
    WasDone state s.config c s t r entries → (state t.flash).live ≡ false → WasLost state s.config c s t.flash reply.Cut
cut_lost state c s t r entries w off =
    let its = s.config in
    let here = faulted_here state its c s t r entries w off in
    let cut = here.cut refl in
    record {
      lost = refl;
      no_arm = w.no_arm;
      before = w.sound;
      after = sound_here state c s t r entries w;
      check = after_check state its c s t r entries w;
      may = inl (refl, cut.may);
      leaves = subst (λ (x : Config). CutLeavesOf c s.machine
          (idle (array_in x.protocol x.logical (state t.flash).image))) here.config cut.leaves;
      most = λ seen is page lt.
          subst (λ (x : Config). mention (records_in x.protocol (state t.flash).image) page ≤ seen page) here.config
          (image_seen state its.protocol seen t page w.always (here.seen seen is)
          (subst (λ (x : Config). page < x.logical) (sym here.config) lt));
      moves = cut_moves its c (moment_of (state s.flash)) (moment_of (state t.flash)) here.moves;
      costs = cut_costs its c s.machine (moment_of (state s.flash)) (moment_of (state t.flash)) here.costs;
      carries = here.carries;
      cut = ap not (sym off);
    }

-- at the configuration of the device, and so at that of the session
serves_at : {F : Type 0} (state : F → FlashState) (c : Command) (s t : DeviceState F) (r : Reply)
    (result : Sessions F) (before after : PageCacheState) →
    WasDone state s.config c s t r before.entries → Follows state s.config (session.Mounted t) r result before after →
    ServesAfter F state s.config c s result × EndsAfter F state s.config c s result
serves_at {F = F} state c s t r result before after w follows = elim (cases_Bool (state t.flash).live) [
  | inl on ↦ (let went = follows.went_on on in
      let done : Sessions F = Ok (session.Mounted t, r) in (
        subst (λ (x : Sessions F). ServesAfter F state s.config c s x) (sym went.0)
            (went_serves state c s t r before.entries w on),
        subst (λ (x : Sessions F). EndsAfter F state s.config c s x) (sym went.0) tt,
      ))
  | inr off ↦ (let cut = follows.was_cut off in
      let lost = cut_lost state c s t r before.entries w off in (
        again_serves state s.config c s t.flash reply.Cut result lost cut.0,
        again_ends state s.config c s t.flash reply.Cut result lost cut.0,
      ))
]

pub serves_after : {F : Type 0} (state : F → FlashState) (its : Config) (c : Command) (s t : DeviceState F)
    (r : Reply) (result : Sessions F)
    (before after : PageCacheState) →
    WasDone state its c s t r before.entries → Follows state its (session.Mounted t) r result before after →
    ServesAfter F state its c s result ×
    EndsAfter F state its c s result
serves_after {F = F} state its c s t r result before after w follows =
    subst (λ (x : Config). ServesAfter F state x c s result × EndsAfter F state x c s result) w.config
    (serves_at state c s t r result before after (subst (λ (x : Config). WasDone state x c s t r before.entries)
    (sym w.config) w)
    (subst (λ (x : Config). Follows state x (session.Mounted t) r result before after) (sym w.config) follows))

-- the cache keeps the size of its pages
pub follows_size : {F : Type 0} (state : F → FlashState) (its : Config) (t : DeviceState F) (r : Reply)
    (result : Sessions F) (before after : PageCacheState) →
    Follows state its (session.Mounted t) r result before after →
    after.page_bytes ≡ before.page_bytes
follows_size state its t r result before after follows = elim (cases_Bool (state t.flash).live) [
  | inl on ↦ ap (λ (x : PageCacheState). x.page_bytes) (follows.went_on on).1
  | inr off ↦ ap (λ (x : PageCacheState). x.page_bytes) (follows.was_cut off).1
]

-- what is in the cache
emptied : (before mid after : PageCacheState) → mid.page_bytes ≡ before.page_bytes →
    after ≡ record mid { entries = [] } → after ≡ record before { entries = [] }
emptied before mid after same is = is ∙ ap (λ n. let c : PageCacheState = record { page_bytes = n; entries = [] } in
    c) same

pub caches_after : {F : Type 0} (state : F → FlashState) (its : Config) (c : Command) (s t : DeviceState F)
    (r : Reply) (result : Sessions F)
    (before mid after : PageCacheState) → is_arm c ≡ false → is_lost r ≡ false →
    CachesCommand state c s t before mid → mid.page_bytes ≡ before.page_bytes →
    Follows state its (session.Mounted t) r result mid after →
    CachesAfter F state its c s before after result
caches_after {F = F} state its c s t r result before mid after no_arm whole caches size
    follows = elim (cases_Bool (state t.flash).live) [
      | inl on ↦ (
          let went = follows.went_on on in
          let up : DeviceSession F = session.Mounted t in
          let here : CachesCommand state c s t before after =
          subst (λ (x : PageCacheState). CachesCommand state c s t before x) (sym went.1) caches in
          subst (λ (x : Sessions F). CachesAfter F state its c s before after x) (sym went.0)
          (no_arm_caches state its c s r up before after no_arm
          (subst (λ b. MatchBool b (after ≡ record before { entries = [] }) (CachesCommand state c s t before after))
          (sym whole) here)))
      | inr off ↦ (
          let cut = follows.was_cut off in
          again_caches state its c s t.flash reply.Cut before after result no_arm refl
          (emptied before mid after size cut.1) cut.0)
    ]

-- What holds of each reply of a session that changed
pub left_ok : {F : Type 0} (P : DeviceSession F → Reply → Type 0) (new : DeviceSession F) (result : Result Reply ServeError) →
    IfOk (left new result) (λ done. P done.0 done.1) → IfOk result (λ r. P new r)
left_ok P new (Ok r) h = h
left_ok P new (Err why) h = tt

pub left_on : {F : Type 0} (P : DeviceSession F → Type 0) (new : DeviceSession F) (result : Result Reply ServeError) →
    IfOk (left new result) (λ done. P done.0) →
    OnOk result (P new)
left_on P new (Ok r) h = h
left_on P new (Err why) h = tt

pub left_err : {F : Type 0} (P : F → ServeError → Type 0) (new : DeviceSession F) (result : Result Reply ServeError) →
    IfErr (left new result) (λ e. P e.0 e.1) → IfErr result (λ why. P (flash_in new) why)
left_err P new (Ok r) h = tt
left_err P new (Err why) h = h

pub mounted_serves : {F : Type 0} (state : F → FlashState) (its : Config) (c : Command) (s t : DeviceState F)
    (r : Reply) (result : Result Reply ServeError)
    (new : DeviceSession F) (before mid after : PageCacheState) →
    WasDone state its c s t r mid.entries → CachesCommand state c s t before mid → mid.page_bytes ≡ before.page_bytes →
    Follows state its (session.Mounted t) r (left new result) mid after →
    Serves state its c (session.Mounted s) result new before after
mounted_serves {F = F} state its c s t r result new before mid after w caches size follows =
    let old : DeviceSession F = session.Mounted s in
    let both = serves_after state its c s t r (left new result) mid after w follows in
    record {
      fits = left_on (Fits state its after.entries) new result
          (fits_after state its c s t r (left new result) mid after w follows);
      serves = left_ok (λ (x : DeviceSession F) q. ServesSession state its c old q x) new result both.0;
      caches = left_ok (λ (x : DeviceSession F) q. CachesSession state its c old q x before after) new result
          (caches_after state its c s t r (left new result) before mid after w.no_arm w.here.whole caches size follows);
      ends = left_err (λ flash why. EndsServing state its c old flash why) new result both.1;
      size = follows_size state its t r (left new result) mid after follows ∙ size;
    }

pub was_done : {F : Type 0} (state : F → FlashState) (its : Config) (protocol : Protocol) (c : Command)
    (s t : DeviceState F) (r : Reply)
    (before entries : List CachedPage) → its.protocol ≡ protocol →
    FitsMounted state its before s → is_arm c ≡ false → ServesHere state c s t r → IsCached t entries →
    HoldsAlways state protocol t →
    WasDone state its c s t r entries
was_done state its protocol c s t r before entries rule fits no_arm here cached always = record {
  config = fits.config;
  sound = subst (λ (x : Config). IsSoundImage x.protocol x.logical (shape_of x) (state s.flash).image) fits.config
      fits.always.sound;
  no_arm = no_arm;
  on = fits.live;
  here = here;
  cached = cached;
  was = fits.always;
  always = subst (λ (p : Protocol). HoldsAlways state p t) (sym rule) always;
}
