-- What serving a command of a key script comes to.
use Rattle.page_keys.proofs.Common.{◌≡◌, ℕ, ◌+◌, ◌<◌, ◌≤◌, Bool, true, false, not, cond, if◌then◌else◌, Result, Ok, Err, refl, sym, ap, subst, ◌∙◌, inl, inr, arith, nat_tests, checked, shape_of, Config, Protocol, Shape, BothTell, Carries, NoMoreToCome, Spends, FlashState, Told, Moment, moment_of, IsSoundImage, array_in, seen_flash, HoldsAlways, IsSeen, ArrayState, Pages, is_spent, AreBuckets, EncodesMap, KeyMap, is_touched, IsKeyPoint, KeyPoint, ServesKeys, is_key_cut, is_key_fault, mentions_in, seen_after, DoesHere, Fits, IsKeyImage, ServesOne, flash_in, HasKeys, KeyStoreState, KeyCommand, KeyServeError, KeyReply, KeySession}
use Rattle.std.specs.Prelude.{IfOk, MatchBool}
use Rattle.tx_types.specs.Limits.{max_version}
use Rattle.flash_model.specs.Arms.{ArmsCut, SetsCut as ArmOf}
use Rattle.flash_model.specs.Calls.{Rose}
use Rattle.flash_model.specs.declared.outcome.Outcome.{Outcome}
use Rattle.judged_records.specs.IndexState.{mention_of}
use Rattle.array_runs.specs.Run.{MayBeSpent}
use Rattle.tx_engine.proofs.OfDevice.Seen.{image_seen}
use Rattle.page_keys.specs.KeyRuns.{DoesCommand, DoesKeys, IsCaused, IsDone, NotDone, OpensFirst, OpensFlash, RepliesUnopened, changes_in, is_tried, IsKeySpent}
use Rattle.page_keys.specs.KeyRuns.{arms_key_cut, cuts_armed, is_key_break}
use Rattle.page_keys.specs.KeySessions.{DoesFor, FitsMounted, Mounts, Opens, SetsCut}
use Rattle.page_keys.specs.KeySessions.{IsUsable, StandsUnmounted, point_of}
use Rattle.page_keys.specs.declared.command.KeyCommand.TheVariants as command
use Rattle.page_keys.specs.declared.key_reply.KeyReply.TheVariants as reply
use Rattle.mounted_session.specs.declared.session.Session.TheVariants as session
use Rattle.mounted_session.specs.Mounting.{MeetsFault, StaysQuiet}
use Rattle.mounted_session.specs.Sessions.{is_mounted}
use Rattle.mounted_session.proofs.Telling.{spends_after, spends_none, spends_one, weaker_told}
use Rattle.page_keys.proofs.OfPut.Existing.{shows_some}
use Rattle.page_keys.proofs.OfPut.PutGiven.{stands_idle}

-- ---- replies

no_break : (r : KeyReply) → is_key_cut r ≡ false → is_key_fault r ≡ false → is_key_break r ≡ false
no_break reply.Cut cut fault = cc
no_break reply.Fault cut fault = cc
no_break (reply.Stored n) cut fault = refl
no_break (reply.Value k v) cut fault = refl
no_break (reply.Absent k) cut fault = refl
no_break reply.Armed cut fault = refl
no_break reply.RefusedEmpty cut fault = refl
no_break (reply.RefusedRepeated k) cut fault = refl
no_break (reply.RefusedWide n) cut fault = refl
no_break (reply.RefusedBucket p) cut fault = refl
no_break (reply.RefusedSpent p) cut fault = refl

-- what a command does where its reply is a fault it does where it is a cut
does_cut : (its : Config) (spent : ℕ → Bool) (c : KeyCommand) (old new : KeyPoint) →
    DoesKeys its spent c old reply.Fault new → DoesKeys its spent c old reply.Cut new
does_cut its spent (command.Put cs) old new h = h
does_cut its spent (command.Get key) old new h = h
does_cut its spent (command.Cut count what) old new h = h

-- a reply that tells of a fault, by whether power is on
abbrev pub broken_reply : Bool → KeyReply
broken_reply live = if live then reply.Fault else reply.Cut

-- ---- commands on the store, and before it is open

abbrev pub point : KeyMap → Bool → FlashState → KeyPoint
point m its_up s = record { keys = m; up = its_up; flash = s }

module _ (its : Config) (spent : ℕ → Bool) (c : KeyCommand) (old : KeyPoint) (r : KeyReply) (new : KeyPoint)
    (no_arm : arms_key_cut c ≡ false) where
  done_open : old.up ≡ true → IsDone its spent c old r new → DoesCommand its spent c old r new
  done_open on done = by (arms_key_cut c) old.up no_arm on
    where
      by : (arm up : Bool) → arm ≡ false → up ≡ true →
          MatchBool arm (DoesKeys its spent c old r new × (new.up ≡ old.up))
          (MatchBool up (IsDone its spent c old r new) (OpensFirst its spent c old r new))
      by true up none on = cc
      by false true none on = done
      by false false none on = cc

  open_done : old.up ≡ true → DoesCommand its spent c old r new → IsDone its spent c old r new
  open_done on does = by (arms_key_cut c) old.up no_arm on does
    where
      by : (arm up : Bool) → arm ≡ false → up ≡ true →
          MatchBool arm (DoesKeys its spent c old r new × (new.up ≡ old.up))
          (MatchBool up (IsDone its spent c old r new) (OpensFirst its spent c old r new)) →
          IsDone its spent c old r new
      by true up none on h = cc
      by false true none on h = h
      by false false none on h = cc

  opens_first : old.up ≡ false → OpensFirst its spent c old r new → DoesCommand its spent c old r new
  opens_first shut first = by (arms_key_cut c) old.up no_arm shut
    where
      by : (arm up : Bool) → arm ≡ false → up ≡ false →
          MatchBool arm (DoesKeys its spent c old r new × (new.up ≡ old.up))
          (MatchBool up (IsDone its spent c old r new) (OpensFirst its spent c old r new))
      by true up none off = cc
      by false true none off = cc
      by false false none off = first

-- a command that met a fault, whose reply is by whether power is on
fault_done : (its : Config) (spent : ℕ → Bool) (c : KeyCommand) (old new : KeyPoint) (live : Bool) →
    DoesKeys its spent c old reply.Fault new → Carries old.flash new.flash true → new.up ≡ false →
    IsDone its spent c old (broken_reply live) new
fault_done its spent c old new true does calls shut = record { does = does; calls = calls; up = shut }
fault_done its spent c old new false does calls shut =
    record { does = does_cut its spent c old new does; calls = calls; up = shut }

tells_break : (live : Bool) → is_key_break (broken_reply live) ≡ true
tells_break true = refl
tells_break false = refl

-- the store is not opened where its mount met a fault
pub opens_not : (its : Config) (a b : FlashState) → MeetsFault a b → OpensFlash its false a b
opens_not its a b meets = record { carries = meets.carries; moment = meets.still.moment; reads = λ up. cc }

-- a command whose mount met one
not_done : (its : Config) (old new : KeyPoint) (live : Bool) → MeetsFault old.flash new.flash →
    new.keys ≡ old.keys → new.up ≡ false → NotDone its old (broken_reply live) new
not_done its old new live meets keys shut = record {
  broken = tells_break live;
  opens = opens_not its old.flash new.flash meets;
  keys = keys;
  up = shut;
}

-- why it is told so
caused_by : (a b : FlashState) (live : Bool) → Rose a.faults b.faults → b.live ≡ live →
    IsCaused (broken_reply live) a b
caused_by a b true rose on = record { cut = sym (ap not on); faults = rose }
caused_by a b false rose off = record { cut = sym (ap not off); faults = rose }

-- the same where the store cannot be opened
unopened_by : (its : Config) (c : KeyCommand) (a b : FlashState) (r : KeyReply) → arms_key_cut c ≡ false →
    (is_key_break r ≡ true) × OpensFlash its false a b × IsCaused r a b → RepliesUnopened its c a r b
unopened_by its (command.Put cs) a b r no_arm h = h
unopened_by its (command.Get key) a b r no_arm h = h
unopened_by its (command.Cut count what) a b r no_arm h = cc

-- a fault that was met
module _ (its : Config) (spent : ℕ → Bool) (c : KeyCommand) (old new : KeyPoint)
    (rose : Rose old.flash.faults new.flash.faults)
    (less : BothTell NoMoreToCome old.flash.told new.flash.told)
    (spends : BothTell (Spends new.flash.live) old.flash.told new.flash.told) where
  broken_by : (live : Bool) → new.flash.live ≡ live → DoesCommand its spent c old (broken_reply live) new →
      ServesKeys its spent c old (broken_reply live) new
  broken_by true on does = record {
    does = does;
    causes = λ arm. caused_by old.flash new.flash true rose on;
    spends = spends_one (cuts_armed c) 0 true old.flash.told new.flash.told less
        (subst (λ b. BothTell (Spends b) old.flash.told new.flash.told) on spends);
  }
  broken_by false off does = record {
    does = does;
    causes = λ arm. caused_by old.flash new.flash false rose off;
    spends = spends_one (cuts_armed c) 0 false old.flash.told new.flash.told less
        (subst (λ b. BothTell (Spends b) old.flash.told new.flash.told) off spends);
  }

-- and what may be mentioned afterwards
seen_broken : (its : Config) (seen : ℕ → ℕ) (c : KeyCommand) (live : Bool) →
    seen_after its seen c (broken_reply live) ≡ seen_after its seen c reply.Fault
seen_broken its seen c true = refl
seen_broken its seen c false = refl

-- ---- an open store

module _ {F : Type 0} (state : F → FlashState) (its : Config) (k : KeyStoreState F)
    (fits : FitsMounted state its k) where
  -- its image is sound, and shows what its array shows
  array_is : array_in its.protocol its.logical (state k.device.flash).image ≡ k.device.machine.pages
  array_is =
      let stands = stands_idle k.device.machine _ fits.keys.closed fits.always.array in
      subst (λ (c : Config).
      array_in c.protocol c.logical (state k.device.flash).image ≡ k.device.machine.pages) fits.config
      stands

  sound_is : IsSoundImage its.protocol its.logical (shape_of its) (state k.device.flash).image
  sound_is =
      subst (λ (c : Config). IsSoundImage c.protocol c.logical (shape_of c)
      (state k.device.flash).image) fits.config fits.always.sound

  buckets_are : AreBuckets its k.device.machine.pages
  buckets_are =
      subst (λ (c : Config). AreBuckets c k.device.machine.pages) fits.config fits.keys.buckets

  pub key_image : IsKeyImage its (state k.device.flash)
  key_image = record {
    sound = sound_is;
    buckets = subst (AreBuckets its) (sym array_is) buckets_are;
  }

  pub mounted_point : (m : KeyMap) → EncodesMap its k.device.machine.pages m →
      IsKeyPoint its (point m true (state k.device.flash))
  mounted_point m shows = record {
    sound = sound_is;
    shows = subst (λ (p : Pages). EncodesMap its p m) (sym array_is) shows;
    live = λ up. fits.live;
  }

  may_be : (seen : ℕ → ℕ) → IsSeen seen k.device →
      MayBeSpent seen (is_spent k.device.noted.mentions)
  may_be seen h page is =
      let most = h.mentions page in
      let least : max_version ≤ mention_of k.device.noted page = grind (arith, nat_tests) in
      omega arith

  module _ (protocol : Protocol) (rule : its.protocol ≡ protocol) (c : KeyCommand)
      (no_arm : arms_key_cut c ≡ false) (l : KeyStoreState F)
      (always : HoldsAlways state protocol l.device) (r : KeyReply) (does : DoesFor state c k l r) where
    -- the store shows some map
    some : DoesHere state c (shows_some its k.device.machine.pages buckets_are).0 k l r
    some =
        let shown = shows_some its k.device.machine.pages buckets_are in
        does shown.0
        (subst (λ (x : Config). EncodesMap x k.device.machine.pages shown.0) (sym fits.config) shown.1)

    config_is : l.device.config ≡ its
    config_is = some.config ∙ fits.config

    its_always : HoldsAlways state its.protocol l.device
    its_always = subst (λ (p : Protocol). HoldsAlways state p l.device) (sym rule) always

    check_is : checked its ≡ Ok (state l.device.flash).shape
    check_is = fits.check ∙ ap (λ (x : Shape). Ok x) (sym some.carries.shape)

    here : (m : KeyMap) → EncodesMap its k.device.machine.pages m → DoesHere state c m k l r
    here m shows =
        does m (subst (λ (x : Config). EncodesMap x k.device.machine.pages m) (sym fits.config) shows)

    its_seen : (seen : ℕ → ℕ) (m : KeyMap) → EncodesMap its k.device.machine.pages m →
        IsSeen seen k.device → IsSeen (seen_after its seen c r) l.device
    its_seen seen m shows h =
        subst (λ (x : Config). IsSeen (seen_after x seen c r) l.device) fits.config
        ((here m shows).seen seen h)

    -- a command that was answered
    module _ (fine : is_key_fault r ≡ false)
        (keys : l.broken ≡ false → HasKeys l.device) where
      fine_carries : Carries (state k.device.flash) (state l.device.flash) false
      fine_carries =
          subst (λ b. Carries (state k.device.flash) (state l.device.flash) b) fine some.carries

      live_is : (state l.device.flash).live ≡ true
      live_is = fine_carries.lives ∙ fits.live

      serves_fine : (m : KeyMap) (shows : EncodesMap its k.device.machine.pages m) →
          ServesKeys its (is_spent k.device.noted.mentions) c (point m true (state k.device.flash)) r
          (point (here m shows).left true (state l.device.flash))
      serves_fine m shows = record {
        does = done_open its (is_spent k.device.noted.mentions) c (point m true (state k.device.flash)) r
            (point (here m shows).left true (state l.device.flash)) no_arm refl (record {
              does = subst (λ (x : Config). DoesKeys x (is_spent k.device.noted.mentions) c
                  (point m true (state k.device.flash)) r
                  (point (here m shows).left true (state l.device.flash))) fits.config
                  ((here m shows).does true);
              calls = subst (λ b. Carries (state k.device.flash) (state l.device.flash) b)
                  (sym (no_break r some.whole fine)) fine_carries;
              up = sym (ap not (no_break r some.whole fine));
            });
        causes = λ arm. record {
          cut = some.whole ∙ sym (ap not live_is);
          faults = rw (no_break r some.whole fine) fine_carries.quiet;
        };
        spends = spends_none (cuts_armed c) 0 (is_key_cut r) (is_key_fault r)
            (state k.device.flash).told (state l.device.flash).told some.whole fine fine_carries.no_more;
      }

      pub answered : ServesOne state its c (session.Mounted k) r (session.Mounted l)
      answered = record {
        fits = record {
          usable = some.usable fine;
          config = config_is;
          check = check_is;
          live = live_is;
          keys = keys (some.usable fine);
          always = its_always;
        };
        in_run = λ seen m stands. record {
          left = (here m stands.shows).left;
          spent = is_spent k.device.noted.mentions;
          may = may_be seen stands.mentions;
          serves = serves_fine m stands.shows;
          stands = record {
            shows = subst (λ (x : Config). EncodesMap x l.device.machine.pages (here m stands.shows).left)
                config_is ((here m stands.shows).shows fine);
            mentions = its_seen seen m stands.shows stands.mentions;
          };
        };
        unopened = λ not_keys. absurd (not_keys key_image);
        extras = fine_carries.extras;
      }

    -- a command that met a fault, after which the store is closed
    module _ (fault : is_key_fault r ≡ true) (is : r ≡ reply.Fault) where
      torn : Carries (state k.device.flash) (state l.device.flash) true
      torn = subst (λ b. Carries (state k.device.flash) (state l.device.flash) b) fault some.carries

      stands_closed : (seen : ℕ → ℕ) (m : KeyMap) (shows : EncodesMap its k.device.machine.pages m) →
          IsSeen seen k.device →
          StandsUnmounted its (seen_after its seen c reply.Fault) (here m shows).left
          (state l.device.flash)
      stands_closed seen m shows h = record {
        sound = subst (λ (x : Config). IsSoundImage x.protocol x.logical (shape_of x)
            (state l.device.flash).image) config_is always.sound;
        shows = subst (λ (x : Config). EncodesMap x
            (array_in x.protocol x.logical (state l.device.flash).image) (here m shows).left) config_is
            ((here m shows).image fault);
        mentions = λ page lt.
            subst (λ (x : Config). mentions_in x (moment_of (state l.device.flash)) page
            ≤ seen_after its seen c reply.Fault page) config_is
            (image_seen state protocol (seen_after its seen c reply.Fault) l.device page always
            (subst (λ (q : KeyReply). IsSeen (seen_after its seen c q) l.device) is
            (its_seen seen m shows h))
            (subst (λ (x : Config). page < x.logical) (sym config_is) lt));
      }

      serves_fault : (m : KeyMap) (shows : EncodesMap its k.device.machine.pages m) (live : Bool) →
          (state l.device.flash).live ≡ live →
          ServesKeys its (is_spent k.device.noted.mentions) c (point m true (state k.device.flash))
          (broken_reply live) (point (here m shows).left false (state l.device.flash))
      serves_fault m shows live on =
          let old = point m true (state k.device.flash) in
          let new = point (here m shows).left false (state l.device.flash) in
          let does = subst (λ (x : Config). DoesKeys x (is_spent k.device.noted.mentions) c old reply.Fault new)
          fits.config
          (subst (λ (q : KeyReply). DoesKeys k.device.config (is_spent k.device.noted.mentions) c old q new) is
          ((here m shows).does false)) in
          broken_by its (is_spent k.device.noted.mentions) c old new torn.cause torn.no_more (torn.spends fits.live)
          live on
          (done_open its (is_spent k.device.noted.mentions) c old (broken_reply live) new no_arm refl
          (fault_done its (is_spent k.device.noted.mentions) c old new live does torn refl))

      pub closed : (live : Bool) → (state l.device.flash).live ≡ live →
          ServesOne state its c (session.Mounted k) (broken_reply live)
          (session.Unmounted l.device.flash)
      closed live on = record {
        fits = check_is;
        in_run = λ seen m stands. record {
          left = (here m stands.shows).left;
          spent = is_spent k.device.noted.mentions;
          may = may_be seen stands.mentions;
          serves = serves_fault m stands.shows live on;
          stands = subst (λ (s : ℕ → ℕ). StandsUnmounted its s (here m stands.shows).left
              (state l.device.flash)) (sym (seen_broken its seen c live))
              (stands_closed seen m stands.shows stands.mentions);
        };
        unopened = λ not_keys. absurd (not_keys key_image);
        extras = torn.extras;
      }

-- ---- a flash on which the store was opened before the command

pub opens_flash : {F : Type 0} (state : F → FlashState) (its : Config) (flash : F) (k : KeyStoreState F) →
    Opens state its flash k → OpensFlash its true (state flash) (state k.device.flash)
opens_flash state its flash k opens = record {
  carries = opens.carries;
  moment = opens.still.still.moment;
  reads = λ up. opens.reads;
}

served_later : (its : Config) (spent : ℕ → Bool) (m : KeyMap) (a b : FlashState) (new : KeyPoint)
    (c : KeyCommand) (r : KeyReply) → arms_key_cut c ≡ false → StaysQuiet a b →
    OpensFlash its true a b → ServesKeys its spent c (point m true b) r new → ServesKeys its spent c (point m false a) r new
served_later its spent m a b new c r no_arm quiet opened serves = record {
  does = opens_first its spent c (point m false a) r new no_arm refl
      (inr (b, opened, open_done its spent c (point m true b) r new no_arm refl serves.does));
  causes = λ arm. record {
    cut = (serves.causes arm).cut;
    faults = subst (λ n.
        MatchBool (is_key_break r) (Rose n new.flash.faults) (new.flash.faults ≡ n)) quiet.quiet
        (serves.causes arm).faults;
  };
  spends = spends_after (cuts_armed c) 0 (is_key_cut r) (is_key_fault r) a.told b.told new.flash.told
      quiet.still.told serves.spends;
}

least_of : (tried touched : Bool) (n : ℕ) → n ≤ cond tried (cond touched (n + 1) n) n
least_of true true n = omega arith
least_of true false n = omega arith
least_of false touched n = omega arith

seen_least : (its : Config) (seen : ℕ → ℕ) (c : KeyCommand) (r : KeyReply) (page : ℕ) →
    seen page ≤ seen_after its seen c r page
seen_least its seen c r page =
    least_of (is_tried r) (is_touched its.logical (changes_in c) page) (seen page)

module _ {F : Type 0} (state : F → FlashState) (its : Config) (c : KeyCommand)
    (no_arm : arms_key_cut c ≡ false) (flash : F) where
  -- it was opened, and the command was served
  pub served_opened : (k : KeyStoreState F) (r : KeyReply) (new : KeySession F) → Opens state its flash k →
      ServesOne state its c (session.Mounted k) r new →
      ServesOne state its c (session.Unmounted flash) r new
  served_opened k r new opens one = record {
    fits = one.fits;
    in_run = λ seen m stands.
        let pages : array_in its.protocol its.logical (state flash).image ≡ k.device.machine.pages =
        sym (ap (λ (s : ArrayState). s.pages) opens.machine) in
        let inside = one.in_run seen m (record {
          shows = subst (λ (p : Pages). EncodesMap its p m) pages stands.shows;
          mentions = opens.seen seen stands.mentions;
        }) in
        record {
          left = inside.left;
          spent = inside.spent;
          may = inside.may;
          serves = served_later its inside.spent m (state flash) (state k.device.flash)
              (point_of state inside.left new) c r no_arm opens.still (opens_flash state its flash k opens)
              inside.serves;
          stands = inside.stands;
        };
    unopened = λ not_keys.
        let image = key_image state its k opens.fits in
        absurd (not_keys (record {
          sound = subst (λ (x : Moment). IsSoundImage its.protocol its.logical (shape_of its) x.image)
              opens.still.still.moment image.sound;
          buckets = subst (λ (x : Moment). AreBuckets its (array_in its.protocol its.logical x.image))
              opens.still.still.moment image.buckets;
        }));
    extras = one.extras ∙ opens.still.still.extras;
  }

  -- it could not be opened
  pub not_opened : (new : F) (live : Bool) → checked its ≡ Ok (state flash).shape →
      MeetsFault (state flash) (state new) → (state new).live ≡ live →
      ServesOne state its c (session.Unmounted flash) (broken_reply live)
      (session.Unmounted new)
  not_opened new live check meets on = record {
    fits = check ∙ ap (λ (x : Shape). Ok x) (sym meets.still.shape);
    in_run = λ seen m stands. record {
      left = m;
      spent = λ page. false;
      may = λ page is. cc;
      serves =
          let old = point m false (state flash) in
          let after = point m false (state new) in
          broken_by its (λ page. false) c old after meets.rose meets.still.told meets.spends live on
          (opens_first its (λ page. false) c old (broken_reply live) after no_arm refl
          (inl (not_done its old after live meets refl refl)));
      stands = record {
        sound = subst (λ (x : Moment). IsSoundImage its.protocol its.logical (shape_of its) x.image)
            (sym meets.still.moment) stands.sound;
        shows = subst (λ (x : Moment). EncodesMap its (array_in its.protocol its.logical x.image) m)
            (sym meets.still.moment) stands.shows;
        mentions = λ page lt.
            subst (λ (x : Moment). mentions_in its x page
            ≤ seen_after its seen c (broken_reply live) page) (sym meets.still.moment)
            (let least = seen_least its seen c (broken_reply live) page in
            let most = stands.mentions page lt in omega arith);
      };
    };
    unopened = λ not_keys. (
      meets.still.moment,
      unopened_by its c (state flash) (state new) (broken_reply live) no_arm (
        tells_break live,
        opens_not its (state flash) (state new) meets,
        caused_by (state flash) (state new) live meets.rose on,
      ),
    );
    extras = meets.still.extras;
  }

-- ---- a cut that is to come

pub fits_usable : {F : Type 0} (state : F → FlashState) (its : Config) (s : KeySession F) → Fits state its s →
    IsUsable s
fits_usable state its (session.Mounted k) fits = fits.usable
fits_usable state its (session.Unmounted flash) fits = tt

module _ (its : Config) (count : ℕ) (what : Outcome) where
  arm_spent : (x y : Told) → ArmOf (record { count = count; outcome = what }) x y →
      IsKeySpent (command.Cut count what) reply.Armed x y
  arm_spent x y sets = record {
    cuts = let a = sets.cuts in omega arith;
    breaks = let a = sets.breaks in omega arith;
  }

  arm_serves : (m : KeyMap) (up : Bool) (a b : FlashState) → ArmsCut a b count what →
      ServesKeys its (λ page. false) (command.Cut count what) (point m up a) reply.Armed (point m up b)
  arm_serves m up a b arms = record {
    does = ((refl, arms), refl);
    causes = λ h. cc;
    spends = weaker_told (ArmOf (record { count = count; outcome = what }))
        (IsKeySpent (command.Cut count what) reply.Armed) arm_spent a.told b.told arms.told;
  }

module _ {F : Type 0} (state : F → FlashState) (its : Config) (count : ℕ) (what : Outcome) where
  pub armed : (protocol : Protocol) (old new : KeySession F) → its.protocol ≡ protocol →
      Fits state its old → SetsCut state protocol count what old new →
      ServesOne state its (command.Cut count what) old reply.Armed new
  armed protocol (session.Mounted k) (session.Mounted l) rule fits sets =
      let config : l.device.config ≡ its =
      ap (λ (x : KeyStoreState F). x.device.config) sets.stays ∙ fits.config in
      let flash = sets.arms.stays in
      record {
        fits = record {
          usable = ap (λ (x : KeyStoreState F). x.broken) sets.stays ∙ fits.usable;
          config = config;
          check = fits.check ∙ ap (λ (s : FlashState). Ok s.shape) (sym flash);
          live = ap (λ (s : FlashState). s.live) flash ∙ fits.live;
          keys = sets.keys;
          always = subst (λ (p : Protocol). HoldsAlways state p l.device) (sym rule) sets.always;
        };
        in_run = λ seen m stands. record {
          left = m;
          spent = λ page. false;
          may = λ page is. cc;
          serves = arm_serves its count what m true (state k.device.flash) (state l.device.flash) sets.arms;
          stands = record {
            shows = subst (λ (x : KeyStoreState F). EncodesMap its x.device.machine.pages m) (sym sets.stays)
                stands.shows;
            mentions = subst (λ (x : KeyStoreState F). IsSeen seen x.device) (sym sets.stays)
                (seen_flash seen k.device l.device.flash stands.mentions);
          };
        };
        unopened = λ not_keys. absurd (not_keys (key_image state its k fits));
        extras = ap (λ (s : FlashState). s.extras) flash;
      }
  armed protocol (session.Unmounted a) (session.Unmounted b) rule fits sets = record {
    fits = fits ∙ ap (λ (s : FlashState). Ok s.shape) (sym sets.stays);
    in_run = λ seen m stands. record {
      left = m;
      spent = λ page. false;
      may = λ page is. cc;
      serves = arm_serves its count what m false (state a) (state b) sets;
      stands = record {
        sound = subst (λ (s : FlashState). IsSoundImage its.protocol its.logical (shape_of its)
            s.image) (sym sets.stays) stands.sound;
        shows = subst (λ (s : FlashState). EncodesMap its (array_in its.protocol its.logical s.image) m)
            (sym sets.stays) stands.shows;
        mentions = λ page lt. subst (λ (s : FlashState). mentions_in its (moment_of s) page
            ≤ seen page) (sym sets.stays) (stands.mentions page lt);
      };
    };
    unopened = λ not_keys. (ap moment_of sets.stays, (refl, sets));
    extras = ap (λ (s : FlashState). s.extras) sets.stays;
  }
  armed protocol (session.Mounted k) (session.Unmounted b) rule fits sets = absurd sets
  armed protocol (session.Unmounted a) (session.Mounted l) rule fits sets = absurd sets

-- ---- a session without a store

module _ {F : Type 0} (state : F → FlashState) (its : Config) (c : KeyCommand)
    (no_arm : arms_key_cut c ≡ false) where
  pub serves_opened : (old mid new : KeySession F) (result : Result KeyReply KeyServeError) →
      is_mounted old ≡ false → is_mounted mid ≡ true → Mounts state its (flash_in old) mid →
      IfOk result (λ r. ServesOne state its c mid r new) →
      IfOk result (λ r. ServesOne state its c old r new)
  serves_opened (session.Mounted k) mid new result off on opens one = cc
  serves_opened (session.Unmounted flash) (session.Unmounted b) new result off on opens one = cc
  serves_opened (session.Unmounted flash) (session.Mounted k) new (Err why) off on opens one = tt
  serves_opened (session.Unmounted flash) (session.Mounted k) new (Ok r) off on opens one =
      served_opened state its c no_arm flash k r new opens one

  pub serves_not_opened : (old mid : KeySession F) (live : Bool) → is_mounted old ≡ false →
      is_mounted mid ≡ false → Fits state its old → Mounts state its (flash_in old) mid →
      (state (flash_in mid)).live ≡ live → ServesOne state its c old (broken_reply live) mid
  serves_not_opened (session.Mounted k) mid live off closed fits meets on = cc
  serves_not_opened (session.Unmounted flash) (session.Mounted k) live off closed fits meets on = cc
  serves_not_opened (session.Unmounted flash) (session.Unmounted new) live off closed fits meets on =
      not_opened state its c no_arm flash new live fits meets on

pub no_fault : (r : KeyReply) → (r ≡ reply.Fault → ⊥) → is_key_fault r ≡ false
no_fault (reply.Stored n) not = refl
no_fault reply.RefusedEmpty not = refl
no_fault (reply.RefusedRepeated k) not = refl
no_fault (reply.RefusedWide n) not = refl
no_fault (reply.RefusedBucket p) not = refl
no_fault (reply.RefusedSpent p) not = refl
no_fault (reply.Value k v) not = refl
no_fault (reply.Absent k) not = refl
no_fault reply.Armed not = refl
no_fault reply.Cut not = refl
no_fault reply.Fault not = absurd (not refl)
