-- A session that has served commands goes on by one.
use Rattle.cut_replay.proofs.Common.{◌≡◌, ℕ, Bool, false, ◌||◌, is_fault, ◌<◌, ◌≤◌, List, [], ◌∷◌, ◌++◌, length, refl, sym, subst, inl, Config, shape_of, CachedPage, FlashState, Moment, moment_of, IsSoundImage, Command, Reply, seen_after, Point, ServesFlash, first_point, mentions_in, flash_in, point_of, Fits, StandsAt, ServesIn, Begins, DeviceSession}
use Rattle.mounted_session.specs.declared.session.Session.TheVariants as session
use Rattle.tx_engine.proofs.OfDevice.Seen.{image_seen}
use Rattle.cut_replay.specs.FlashRun.{MentionsUpTo}
use Rattle.cut_replay.specs.ServerRuns.{IsServed, RunsOn, seen_through, faulted_through}
use Rattle.cut_replay.proofs.Runs.{run_more, last_more, seen_more, faulted_more, run_lengths}

-- how many replies and points there are
pub served_lengths : {F : Type 0} (state : F → FlashState) (its : Config) (init : FlashState) (cs : List Command)
    (rs : List Reply) (ps : List Point) (s : DeviceSession F) → IsServed state its init cs rs ps s →
    (length rs ≡ length cs) × (length ps ≡ length cs)
served_lengths state its init cs rs ps s h = run_lengths its (mentions_in its (moment_of init)) false
    (first_point its h.run.up h.run.flash) cs rs ps h.run.runs

-- at the beginning
pub begins_served : {F : Type 0} (state : F → FlashState) (its : Config) (init : FlashState) (s : DeviceSession F) →
    Begins state its init s → IsServed state its init [] [] [] s
begins_served state its init s h = record {
  run = record {
    up = h.up;
    flash = state (flash_in s);
    begins = h.moment;
    first = record {
      sound = subst (λ (m : Moment). IsSoundImage its.protocol its.logical (shape_of its) m.image) (sym h.moment)
          h.sound;
      array = inl refl;
      live = h.live;
    };
    runs = tt;
  };
  begins = h.first;
  last = h.point;
  stands = h.stands;
}

-- what the image of a session mentions
mentions_are : {F : Type 0} (state : F → FlashState) (its : Config) (entries : List CachedPage) (seen : ℕ → ℕ)
    (faulted : Bool) (s : DeviceSession F) → Fits state its entries s → StandsAt state its seen faulted s →
    MentionsUpTo its seen (point_of state its s)
mentions_are state its entries seen faulted (session.Mounted s) fits stands page lt =
    subst (λ (c : Config). mentions_in c (moment_of (state s.flash)) page ≤ seen page) fits.config
    (image_seen state its.protocol seen s page fits.always stands.mentions
    (subst (λ (c : Config). page < c.logical) (sym fits.config) lt))
mentions_are state its entries seen faulted (session.Unmounted flash) fits stands page lt = stands.mentions page lt

-- one command more
served_on : {F : Type 0} (state : F → FlashState) (its : Config) (init : FlashState) (cs : List Command)
    (rs : List Reply) (ps : List Point) (c : Command) (r : Reply) (entries : List CachedPage) (s t : DeviceSession F) →
    Fits state its entries t →
    ((seen : ℕ → ℕ) → (faulted : Bool) → StandsAt state its seen faulted s → ServesIn state its seen faulted c s r t) →
    IsServed state its init cs rs ps s →
    IsServed state its init (cs ++ c ∷ []) (rs ++ r ∷ []) (ps ++ point_of state its t ∷ []) t
served_on state its init cs rs ps c r entries s t fits served h =
    let seen = mentions_in its (moment_of init) in
    let old = first_point its h.run.up h.run.flash in
    let p = point_of state its t in
    let one = served (seen_through seen cs rs) (faulted_through false rs) h.stands in
    let same = run_lengths its seen false old cs rs ps h.run.runs in
    record {
      run = record {
        up = h.run.up;
        flash = h.run.flash;
        begins = h.run.begins;
        first = h.run.first;
        runs = run_more its seen false old cs rs ps c r p h.run.runs (
          (
            one.spent,
            one.may,
            subst (λ (q : Point). ServesFlash its one.spent (faulted_through false rs) c q r p)
                h.last one.serves,
          ),
          (
            one.point,
            mentions_are state its entries (seen_after (seen_through seen cs rs) c r)
                (faulted_through false rs || is_fault r) t fits one.stands,
          ),
        );
      };
      begins = h.begins;
      last = sym (last_more old ps p);
      stands = subst (λ (f : ℕ → ℕ). StandsAt state its f (faulted_through false (rs ++ r ∷ [])) t)
          (sym (seen_more seen cs rs c r same.0))
          (subst (λ (b : Bool). StandsAt state its (seen_after (seen_through seen cs rs) c r) b t)
          (sym (faulted_more false rs r)) one.stands);
    }

pub runs_on : {F : Type 0} (state : F → FlashState) (its : Config) (c : Command) (r : Reply) (entries : List CachedPage)
    (s t : DeviceSession F) → Fits state its entries t →
    ((seen : ℕ → ℕ) → (faulted : Bool) → StandsAt state its seen faulted s → ServesIn state its seen faulted c s r t) →
    RunsOn state its c s r t
runs_on state its c r entries s t fits served =
    λ init cs rs ps h. served_on state its init cs rs ps c r entries s t fits served h
