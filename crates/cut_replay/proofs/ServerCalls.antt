-- What the calls of a server come to.
use Rattle.cut_replay.proofs.Common.{◌≡◌, List, Result, Ok, Err, OnOk, refl, inr, sym, ap, subst, ◌∙◌, Config, Shape, CachedPage, PageCacheState, FlashState, Command, Reply, flash_in, Fits, Serves, EndsServing, ServeError, DeviceSession}
use Rattle.mounted_session.specs.Sessions.{is_mounted}
use Rattle.mounted_session.specs.declared.session.Session.TheVariants as session
use Rattle.cut_replay.specs.Beginning.{MountsFirst}
use Rattle.cut_replay.specs.ServerCalls.{OpensServer, ServesNext}
use Rattle.cut_replay.specs.ServerState.{ServerState}
use Rattle.cut_replay.proofs.Begun.{first_begins, first_faults, first_mounted, first_stays, first_steady, first_unsound, fits_shape}
use Rattle.cut_replay.proofs.ServerRuns.{begins_served, runs_on}

pub opens_server : {F : Type 0} (state : F → FlashState) (its : Config) (flash : F) (s : ServerState F) →
    s.config ≡ its → MountsFirst state its flash s.session → OpensServer state its flash s
opens_server state its flash s is first = record {
  config = is;
  first = first;
  served = λ sound. begins_served state its (state flash) s.session
      (first_begins state its flash s.session first sound);
  steady = first_steady state its flash s.session first;
  mounted = first_mounted state its flash s.session first;
  kept = inr (first_stays state its flash s.session first).moment;
  faults = first_faults state its flash s.session first;
  unsound = first_unsound state its flash s.session first;
  extras = (first_stays state its flash s.session first).extras;
}

-- a command was served
pub serves_next : {F : Type 0} (state : F → FlashState) (its : Config) (c : Command) (r : Reply)
    (old new : ServerState F) → new.config ≡ old.config → Serves state its c old.session (Ok r) new.session old.cache new.cache →
    ServesNext state its c old (Ok r) new
serves_next state its c r old new same h = record {
  config = same;
  serves = h.serves;
  served = runs_on state its c r new.cache.entries old.session new.session h.fits h.serves.in_run;
  caches = h.caches;
  ends = tt;
  alone = tt;
}

-- what holds of an answer, where serving did not end
pub where_answered : {A : Type 0} (result : Result Reply ServeError) → ((why : ServeError) → result ≡ Err why → ⊥) →
    OnOk result A → A
where_answered (Ok r) answered h = h
where_answered (Err why) answered h = absurd (answered why refl)

pub answered_next : {F : Type 0} (state : F → FlashState) (its : Config) (c : Command)
    (result : Result Reply ServeError) (old new : ServerState F) → ((why : ServeError) → result ≡ Err why → ⊥) →
    new.config ≡ old.config → Serves state its c old.session result new.session old.cache new.cache →
    ServesNext state its c old result new
answered_next state its c (Ok r) old new answered same h = serves_next state its c r old new same h
answered_next state its c (Err why) old new answered same h = absurd (answered why refl)

-- or serving ended, and the flash is alone
module _ {F : Type 0} (state : F → FlashState) (its : Config) (c : Command) (why : ServeError) (left : DeviceSession F)
  where
    pub ends_next : (old new : ServerState F) (after : PageCacheState) → new.config ≡ old.config →
        new.session ≡ session.Unmounted (flash_in left) →
        Serves state its c old.session (Err why) left old.cache after → ServesNext state its c old (Err why) new
    ends_next old new after same alone h = record {
      config = same;
      serves = tt;
      served = tt;
      caches = tt;
      ends = subst (λ (s : DeviceSession F). EndsServing state its c old.session (flash_in s) why) (sym alone) h.ends;
      alone = ap (λ (s : DeviceSession F). is_mounted s) alone;
    }

    -- which is one of the configuration still
    pub ended_fits : (old new : DeviceSession F) (before after : PageCacheState) (entries : List CachedPage) →
        Fits state its before.entries old → new ≡ session.Unmounted (flash_in left) →
        Serves state its c old (Err why) left before after → Fits state its entries new
    ended_fits old new before after entries fits alone h =
        let alone_fits : Fits state its entries (session.Unmounted (flash_in left)) =
        fits_shape state its before.entries old fits ∙ ap (λ (x : Shape). Ok x) (sym h.ends.shape) in
        subst (λ (s : DeviceSession F). Fits state its entries s) (sym alone) alone_fits
