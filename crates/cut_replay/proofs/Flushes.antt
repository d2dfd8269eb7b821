-- A session whose flash was flushed.
use Rattle.cut_replay.proofs.Common.{◌≡◌, ℕ, Bool, true, false, List, Result, Ok, Err, refl, ap, inl, inr, sym, ◌∙◌, subst, Config, Protocol, checked, shape_of, FlashState, IsSoundImage, records_in, array_in, idle, CachedPage, DeviceState, Command, Reply, ServeError, Point, RunState, first_point, HoldsAlways, point_at, IsCachedAs, StaysQuiet, EndsLost, EndsServing, IsSoundOrSame, flash_in, point_of, Fits, StandsAt, StandsMounted, DeviceSession}
use Rattle.std.specs.Result.{is_err}
use Rattle.std.proofs.lemmas.List.Elements.{All-weaker}
use Rattle.flash_model.specs.declared.cached.NotDurable.{NotDurable}
use Rattle.array_machine.specs.ArrayState.{Represents}
use Rattle.array_machine.specs.Step.{CutLeaves, IsAtLast}
use Rattle.judged_records.specs.Images.{IsLeastImageBreach}
use Rattle.judged_records.specs.Notes.{found_in}
use Rattle.tx_types.specs.declared.config.Slot.{Slot}
use Rattle.mounted_session.specs.declared.session.Session.TheVariants as session
use Rattle.tx_engine.specs.DeviceCalls.{FlushesDevice}
use Rattle.tx_engine.specs.Exits.{MentionsAtMost}
use Rattle.tx_engine.proofs.OfDevice.Seen.{seen_flash}
use Rattle.cut_replay.specs.ServerCalls.{FlushesSession, FlushesServer, ServesDurably, ServesNext}
use Rattle.cut_replay.specs.ServerRuns.{IsServed}
use Rattle.cut_replay.specs.ServerState.{ServerState}
use Rattle.cut_replay.specs.Sessions.{EndsFor, FitsMounted, Refuses, StandsUnmounted}
use Rattle.cut_replay.specs.declared.server.NextError.TheVariants as unserved
use Rattle.cut_replay.specs.declared.serving.ServeError.TheVariants as failed
use Rattle.cut_replay.proofs.Arming.{fits_flash}

pub is_done : (r : Result (Unit {0}) NotDurable) → is_err r ≡ false → r ≡ Ok tt
is_done (Ok u) whole = refl
is_done (Err e) whole = (let no : true ≡ false = whole in absurd cc)

module _ {F : Type 0} (state : F → FlashState) where
  -- what holds always, of a device whose flash shows the same
  always_flash : (protocol : Protocol) (s : DeviceState F) (flash : F) → state flash ≡ state s.flash →
      HoldsAlways state protocol s → HoldsAlways state protocol (record s { flash = flash })
  always_flash protocol s flash same h =
      let its = s.config in
      let back = sym same in
      record {
        kept = h.kept;
        rule = h.rule;
        check = subst (λ (x : FlashState). checked its ≡ Ok x.shape) back h.check;
        shape = subst (λ (x : FlashState). x.shape ≡ shape_of its) back h.shape;
        few = h.few;
        sound = subst (λ (x : FlashState). IsSoundImage its.protocol its.logical (shape_of its) x.image) back h.sound;
        array = subst (λ (x : FlashState). Represents s.machine (array_in its.protocol its.logical x.image)) back
            h.array;
        records = λ sure. subst (λ (x : FlashState). records_in its.protocol x.image ≡ found_in s.noted.notes) back
            (h.records sure);
        its = h.its;
        mentions = subst (λ (x : FlashState). MentionsAtMost s.noted s.namings x.image) back h.mentions;
        beyond = h.beyond;
        step_cut = λ old there tag steps. subst (λ (x : FlashState). CutLeaves (λ e. (e.tag ≡ tag) × IsAtLast e) old
            (idle (array_in its.protocol its.logical x.image))) back (h.step_cut old there tag steps);
        same_cut = subst (λ (x : FlashState). CutLeaves (λ e. ⊥) s.machine
            (idle (array_in its.protocol its.logical x.image))) back h.same_cut;
        settled_cut = λ old there is. subst (λ (x : FlashState). CutLeaves (λ e. ⊥) old
            (idle (array_in its.protocol its.logical x.image))) back (h.settled_cut old there is);
      }

  -- a mounted device fits as before
  fits_mounted : (its : Config) (entries : List CachedPage) (s t : DeviceState F) → FlushesDevice state s t →
      FitsMounted state its entries s → FitsMounted state its entries t
  fits_mounted its entries s t h fits = subst (λ (x : DeviceState F). FitsMounted state its entries x) (sym h.stays)
      (record {
        config = fits.config;
        check = subst (λ (x : FlashState). checked its ≡ Ok x.shape) (sym h.same) fits.check;
        live = subst (λ (x : FlashState). x.live ≡ true) (sym h.same) fits.live;
        cached = All-weaker (IsCachedAs s) (IsCachedAs (record s { flash = t.flash })) (fits_flash s t.flash) entries
            fits.cached;
        always = always_flash its.protocol s t.flash h.same fits.always;
      })

  pub flushed_fits : (its : Config) (entries : List CachedPage) (old new : DeviceSession F) →
      FlushesSession state old new → Fits state its entries old → Fits state its entries new
  flushed_fits its entries (session.Mounted s) (session.Mounted t) h fits = fits_mounted its entries s t h fits
  flushed_fits its entries (session.Mounted s) (session.Unmounted f) h fits = absurd h
  flushed_fits its entries (session.Unmounted e) (session.Mounted t) h fits = absurd h
  flushed_fits its entries (session.Unmounted e) (session.Unmounted f) h fits =
      subst (λ (x : FlashState). checked its ≡ Ok x.shape) (sym h) fits

  flushed_flash : (old new : DeviceSession F) → FlushesSession state old new →
      state (flash_in new) ≡ state (flash_in old)
  flushed_flash (session.Mounted s) (session.Mounted t) h = h.same
  flushed_flash (session.Mounted s) (session.Unmounted f) h = absurd h
  flushed_flash (session.Unmounted e) (session.Mounted t) h = absurd h
  flushed_flash (session.Unmounted e) (session.Unmounted f) h = h

  -- the point is the same
  flushed_point : (its : Config) (old new : DeviceSession F) → FlushesSession state old new →
      point_of state its new ≡ point_of state its old
  flushed_point its (session.Mounted s) (session.Mounted t) h =
      ap (λ (x : DeviceState F). point_at state x) h.stays
      ∙ ap (λ (x : FlashState). let at : RunState = record { machine = s.machine; up = true } in
      let p : Point = record { state = at; flash = x } in p) h.same
  flushed_point its (session.Mounted s) (session.Unmounted f) h = absurd h
  flushed_point its (session.Unmounted e) (session.Mounted t) h = absurd h
  flushed_point its (session.Unmounted e) (session.Unmounted f) h =
      ap (λ (x : FlashState). first_point its false x) h

  flushed_stands : (its : Config) (seen : ℕ → ℕ) (faulted : Bool) (old new : DeviceSession F) →
      FlushesSession state old new → StandsAt state its seen faulted old → StandsAt state its seen faulted new
  flushed_stands its seen faulted (session.Mounted s) (session.Mounted t) h stands =
      subst (λ (x : DeviceState F). StandsMounted seen faulted x) (sym h.stays)
      (record { sure = stands.sure; mentions = seen_flash seen s t.flash stands.mentions })
  flushed_stands its seen faulted (session.Mounted s) (session.Unmounted f) h stands = absurd h
  flushed_stands its seen faulted (session.Unmounted e) (session.Mounted t) h stands = absurd h
  flushed_stands its seen faulted (session.Unmounted e) (session.Unmounted f) h stands =
      subst (λ (x : FlashState). StandsUnmounted its seen x) (sym h) stands

  -- and the run
  flushed_served : (its : Config) (old new : DeviceSession F) → FlushesSession state old new → (init : FlashState) →
      (cs : List Command) → (rs : List Reply) → (ps : List Point) →
      IsServed state its init cs rs ps old → IsServed state its init cs rs ps new
  flushed_served its old new h init cs rs ps served = record {
    run = served.run;
    begins = served.begins;
    last = flushed_point its old new h ∙ served.last;
    stands = flushed_stands its _ _ old new h served.stands;
  }

  pub flushes_server : (its : Config) (old new : ServerState F) → new.config ≡ old.config → new.cache ≡ old.cache →
      FlushesSession state old.session new.session → FlushesServer state its old new
  flushes_server its old new config cache h = record {
    config = config;
    session = h;
    cache = cache;
    shows = flushed_flash old.session new.session h;
    served = flushed_served its old.session new.session h;
  }

  -- ---- a command that was served after it

  module _ (flushes : F → F → Result (Unit {0}) NotDurable → Type 0) (its : Config) (c : Command)
      (old first : ServerState F) (stays : FlushesServer state its old first) (kept : old.config ≡ its)
      (flushed : Result (Unit {0}) NotDurable)
      (durable : flushes (flash_in old.session) (flash_in first.session) flushed) where
    same : first.config ≡ its
    same = stays.config ∙ kept

    pub serves_durably : (r : Reply) (new : ServerState F) → flushed ≡ Ok tt →
        ServesNext state first.config c first (Ok r) new → ServesDurably state flushes its c old (Ok r) new
    serves_durably r new done h =
        let one = subst (λ (x : Config). ServesNext state x c first (Ok r) new) same h in record {
          first = first;
          flushed = flushed;
          stays = stays;
          durable = durable;
          config = one.config ∙ stays.config;
          next = (done, one);
          served = λ init cs rs ps served. one.served init cs rs ps (stays.served init cs rs ps served);
          ends = tt;
        }

    -- or serving ended
    pub ends_durably : (why : ServeError) (new : ServerState F) → flushed ≡ Ok tt →
        ServesNext state first.config c first (Err why) new →
        ServesDurably state flushes its c old (Err (unserved.Ended why)) new
    ends_durably why new done h =
        let one = subst (λ (x : Config). ServesNext state x c first (Err why) new) same h in record {
          first = first;
          flushed = flushed;
          stays = stays;
          durable = durable;
          config = one.config ∙ stays.config;
          next = tt;
          served = tt;
          ends = (done, one);
        }

    -- or it failed
    pub not_durable : is_err flushed ≡ true → ServesDurably state flushes its c old (Err unserved.NotDurable) first
    not_durable fails = record {
      first = first;
      flushed = flushed;
      stays = stays;
      durable = durable;
      config = stays.config;
      next = tt;
      served = tt;
      ends = (fails, refl);
    }

  flushed_refuses : (its : Config) (old new : DeviceSession F) (flash : F) (law : ℕ) (slot : Slot) →
      FlushesSession state old new → Refuses state its new flash law slot → Refuses state its old flash law slot
  flushed_refuses its (session.Mounted s) (session.Mounted t) flash law slot h ends = ends
  flushed_refuses its (session.Mounted s) (session.Unmounted f) flash law slot h ends = absurd h
  flushed_refuses its (session.Unmounted e) (session.Mounted t) flash law slot h ends = absurd h
  flushed_refuses its (session.Unmounted e) (session.Unmounted f) flash law slot h ends =
      subst (λ (x : FlashState). StaysQuiet x (state flash)
      × IsLeastImageBreach its.protocol its.logical (shape_of its) x.image (record { law = law; slot = slot })) h ends

  flushed_for : (its : Config) (c : Command) (old new : DeviceSession F) (flash : F) (why : ServeError) →
      FlushesSession state old new → EndsFor state its c new flash why → EndsFor state its c old flash why
  flushed_for its c old new flash (failed.Unsound law slot) h ends = flushed_refuses its old new flash law slot h ends
  flushed_for its c old new flash failed.Memory h (inl still) =
      inl (subst (λ (x : FlashState). StaysQuiet x (state flash)) (flushed_flash old new h) still)
  flushed_for its c old new flash failed.Memory h (inr lost) =
      inr (subst (λ (p : Point). EndsLost its c p (state flash)) (flushed_point its old new h) lost)

  -- serving that ended after a flush ended so before it
  pub flushed_ends : (its : Config) (c : Command) (old new : DeviceSession F) (flash : F) (why : ServeError) →
      FlushesSession state old new → EndsServing state its c new flash why → EndsServing state its c old flash why
  flushed_ends its c old new flash why h ends =
      let shows = flushed_flash old new h in record {
        cause = flushed_for its c old new flash why h ends.cause;
        shape = subst (λ (x : FlashState). (state flash).shape ≡ x.shape) shows ends.shape;
        extras = subst (λ (x : FlashState). (state flash).extras ≡ x.extras) shows ends.extras;
        kept = subst (λ (x : FlashState). IsSoundOrSame its x (state flash)) shows ends.kept;
      }
