-- A session that has served the first commands of a list.
use Rattle.cut_replay.proofs.Common.{◌≡◌, ℕ, ◌+◌, ◌<◌, ◌≤◌, Bool, true, false, List, [], ◌∷◌, ◌++◌, length, take, Option, Result, Ok, Err, refl, sym, ap, ◌∙◌, subst, inl, inr, arith, OnOk, Config, Memory, shape_of, FlashState, Moment, moment_of, IsSoundImage, Command, Reply, text_of, Point, BeginsFlash, EndsLost, first_point, last_point, mentions_in, StaysQuiet, Grew, CountsBreaks, Watched, ServesUnsound, flash_in, point_of, IsSoundFlash, StandsAt, ServesSession, EndsServing, IsSoundOrSame, ServeError, DeviceSession, sound_unbroken}
use Rattle.std.proofs.Common.{get_or}
use Rattle.std.specs.Prelude.{OnErr}
use Rattle.std.specs.Prelude.{map}
use Rattle.std.specs.Result.{is_err}
use Rattle.std.proofs.lemmas.List.{take_more, take_all, length-take-le, map-append}
use Rattle.list_lemmas.proofs.Lists.{take_whole, take_before_last}
use Rattle.tx_types.specs.declared.config.Slot.{Slot}
use Rattle.mounted_session.proofs.Mounting.{nothing_done}
use Rattle.judged_records.specs.Images.{IsLeastImageBreach}
use Rattle.cut_replay.specs.Watching.{ToldReply, text_of_all, replies_told, flashes_at}
use Rattle.cut_replay.specs.Served.{ServesRun, ServesSound, CountsTold, RefusesUnsound}
use Rattle.cut_replay.specs.Sessions.{EndsFor, EndsForMemory, Refuses}
use Rattle.cut_replay.specs.UnmountedRun.{ServesUnmounted, UnmountedRun, EndsUnmounted, last_flash}
use Rattle.cut_replay.specs.declared.serving.ServeError.TheVariants as failed
use Rattle.mounted_session.specs.declared.session.Session.TheVariants as session
use Rattle.cut_replay.proofs.Mountings.{point_flash}
use Rattle.cut_replay.specs.ServerRuns.{IsServed, RunsOn, seen_through, faulted_through}
use Rattle.cut_replay.proofs.ServerRuns.{served_lengths}
use Rattle.cut_replay.proofs.Runs.{grew_none, grew_more, text_more, told_more, counts_more, counts_later}

-- the moment of a session is that of its flash
pub point_moment : {F : Type 0} (state : F → FlashState) (its : Config) (s : DeviceSession F) →
    moment_of (point_of state its s).flash ≡ moment_of (state (flash_in s))
point_moment state its (session.Mounted s) = refl
point_moment state its (session.Unmounted flash) = refl

-- commands were served, and their replies were told
pub record HasServed {F : Type 0} (state : F → FlashState) (its : Config) (init : FlashState) (cs : List Command)
    (s : DeviceSession F)
    (before after : Watched) : Type 0 where
  pub replies : List Reply
  pub points : List Point
  pub runs : IsServed state its init cs replies points s
  pub text : Grew before.text after.text (text_of_all replies)
  pub kept : Grew before.kept after.kept (replies_told replies points)
  pub flashes : Grew before.flashes after.flashes (flashes_at points)

-- at the beginning
pub served_none : {F : Type 0} (state : F → FlashState) (its : Config) (init : FlashState) (s : DeviceSession F)
    (w : Watched) → IsServed state its init [] [] [] s →
    HasServed state its init [] s w w
served_none state its init s w h = record {
  replies = [];
  points = [];
  runs = h;
  text = grew_none w.text;
  kept = grew_none w.kept;
  flashes = grew_none w.flashes;
}

flashes_more : (ps : List Point) (p : Point) → flashes_at (ps ++ p ∷ []) ≡ flashes_at ps ++ p.flash ∷ []
flashes_more ps p = map-append (λ (q : Point). q.flash) ps (p ∷ [])

-- one command more was served, and its reply was told
pub served_more : {F : Type 0} (state : F → FlashState) (its : Config) (init : FlashState) (cs : List Command)
    (c : Command) (r : Reply) (s t : DeviceSession F)
    (a b d : Watched) →
    HasServed state its init cs s a b → RunsOn state its c s r t → Grew b.text d.text (text_of r) →
    Grew b.kept d.kept (record { text = text_of r; moment = moment_of (state (flash_in t)) } ∷ []) →
    Grew b.flashes d.flashes (state (flash_in t) ∷ []) →
    HasServed state its init (cs ++ c ∷ []) t a d
served_more state its init cs c r s t a b d h on text kept flashes =
    let p = point_of state its t in
    let same = served_lengths state its init cs h.replies h.points s h.runs in
    record {
      replies = h.replies ++ r ∷ [];
      points = h.points ++ p ∷ [];
      runs = on init cs h.replies h.points h.runs;
      text = subst (λ (x : List ℕ). Grew a.text d.text x) (sym (text_more h.replies r))
          (grew_more a.text b.text d.text (text_of_all h.replies) (text_of r) h.text text);
      kept = subst (λ (x : List ToldReply). Grew a.kept d.kept x)
          (sym (told_more h.replies h.points r p (same.0 ∙ sym same.1)))
          (grew_more a.kept b.kept d.kept (replies_told h.replies h.points)
          (record { text = text_of r; moment = moment_of p.flash } ∷ []) h.kept
          (subst (λ (m : Moment). Grew b.kept d.kept (record { text = text_of r; moment = m } ∷ []))
          (sym (point_moment state its t)) kept));
      flashes = subst (λ (x : List FlashState). Grew a.flashes d.flashes x) (sym (flashes_more h.points p))
          (grew_more a.flashes b.flashes d.flashes (flashes_at h.points) (p.flash ∷ []) h.flashes
          (subst (λ (x : FlashState). Grew b.flashes d.flashes (x ∷ [])) (sym (point_flash state its t)) flashes));
    }

-- What has been served is what serving comes to: the flash of the session is that of the last point
run_ends : {F : Type 0} (state : F → FlashState) (its : Config) (init : FlashState) (cs : List Command)
    (rs : List Reply) (ps : List Point) (s : DeviceSession F) → (h : IsServed state its init cs rs ps s) →
    state (flash_in s) ≡ (last_point (first_point its h.run.up h.run.flash) ps).flash
run_ends state its init cs rs ps s h = sym (point_flash state its s) ∙ ap (λ (p : Point). p.flash) h.last

run_left : {F : Type 0} (state : F → FlashState) (its : Config) (init : FlashState) (cs : List Command)
    (rs : List Reply) (ps : List Point) (s : DeviceSession F) (final : FlashState) →
    (h : IsServed state its init cs rs ps s) → StaysQuiet (state (flash_in s)) final →
    StaysQuiet (last_point (first_point its h.run.up h.run.flash) ps).flash final
run_left state its init cs rs ps s final h =
    subst (λ (x : FlashState). StaysQuiet x final) (run_ends state its init cs rs ps s h)

pub all_served : {F : Type 0} (state : F → FlashState) (its : Config) (init : FlashState) (cs : List Command)
    (s : DeviceSession F) (final : FlashState)
    (a b : Watched) → HasServed state its init cs s a b → StaysQuiet (state (flash_in s)) final →
    ServesRun its cs (length cs) init final a b
all_served state its init cs s final a b h still =
    let lengths = served_lengths state its init cs h.replies h.points s h.runs in
    let replies = take_whole (length cs) h.replies lengths.0 in
    let points = take_whole (length cs) h.points lengths.1 in
    record {
      replies = h.replies;
      points = h.points;
      run = h.runs.run;
      begins = h.runs.begins;
      left = run_left state its init cs h.replies h.points s final h.runs still;
      text = subst (λ (x : List Reply). Grew a.text b.text (text_of_all x)) (sym replies) h.text;
      kept = subst (λ (x : List Reply). Grew a.kept b.kept (replies_told x (take (length cs) h.points))) (sym replies)
          (subst (λ (x : List Point). Grew a.kept b.kept (replies_told h.replies x)) (sym points) h.kept);
      flashes = subst (λ (x : List Point). Grew a.flashes b.flashes (flashes_at x)) (sym points) h.flashes;
    }

-- where one command more was served whose reply was not told
pub one_untold : {F : Type 0} (state : F → FlashState) (its : Config) (init : FlashState) (cs : List Command)
    (c : Command) (r : Reply) (s t : DeviceSession F)
    (a b d : Watched) → HasServed state its init cs s a b → RunsOn state its c s r t →
    d.text ≡ b.text → d.kept ≡ b.kept → d.flashes ≡ b.flashes →
    ServesRun its (cs ++ c ∷ []) (length cs) init (state (flash_in t)) a d
one_untold state its init cs c r s t a b d h on text kept flashes =
    let lengths = served_lengths state its init cs h.replies h.points s h.runs in
    let p = point_of state its t in
    let runs = on init cs h.replies h.points h.runs in
    let replies = take_before_last (length cs) h.replies r lengths.0 in
    let points = take_before_last (length cs) h.points p lengths.1 in
    record {
      replies = h.replies ++ r ∷ [];
      points = h.points ++ p ∷ [];
      run = runs.run;
      begins = runs.begins;
      left = run_left state its init (cs ++ c ∷ []) (h.replies ++ r ∷ []) (h.points ++ p ∷ []) t
          (state (flash_in t)) runs (nothing_done (state (flash_in t)));
      text = subst (λ (x : List Reply). Grew a.text d.text (text_of_all x)) (sym replies)
          (subst (λ (o : Option (List ℕ)). Grew a.text o (text_of_all h.replies)) (sym text) h.text);
      kept = subst (λ (x : List Reply). Grew a.kept d.kept (replies_told x (take (length cs) (h.points ++ p ∷ []))))
          (sym replies)
          (subst (λ (x : List Point). Grew a.kept d.kept (replies_told h.replies x)) (sym points)
          (subst (λ (o : Option (List ToldReply)). Grew a.kept o (replies_told h.replies h.points)) (sym kept) h.kept));
      flashes = subst (λ (x : List Point). Grew a.flashes d.flashes (flashes_at x)) (sym points)
          (subst (λ (o : Option (List FlashState)). Grew a.flashes o (flashes_at h.points)) (sym flashes) h.flashes);
    }

-- The next command of a list
pub next_of : (list : List Command) (at : ℕ) (c : Command) → at < length list → c ≡ get_or list at c →
    take (at + 1) list ≡ take at list ++ c ∷ []
next_of list at c lt read = take_more list at c lt ∙ ap (λ x. take at list ++ x ∷ []) (sym read)

-- The commands before it were served, and what was open was lost in it
abbrev pub EndsBehind : Config → FlashState → List Command → Command → FlashState → FlashState → Watched → Watched →
    ℕ → Type 0
EndsBehind its init cs c between final a b told =
    (serves : ServesRun its cs told init between a b)
    × EndsLost its c (last_point (first_point its serves.run.up serves.run.flash) serves.points) final

pub ends_behind : {F : Type 0} (state : F → FlashState) (its : Config) (init : FlashState) (cs : List Command)
    (c : Command) (s : DeviceSession F) (final : FlashState) (a b : Watched) → HasServed state its init cs s a b →
    EndsLost its c (point_of state its s) final →
    EndsBehind its init cs c (state (flash_in s)) final a b (length cs)
unfolding all_served
ends_behind state its init cs c s final a b h lost = (
  all_served state its init cs s (state (flash_in s)) a b h (nothing_done (state (flash_in s))),
  subst (λ (p : Point). EndsLost its c p final) h.runs.last lost,
)

-- Serving ended before that command did anything, or in it
pub ended_for_memory : {F : Type 0} (state : F → FlashState) (its : Config) (init : FlashState) (list : List Command)
    (at : ℕ) (c : Command) (s : DeviceSession F)
    (flash : F) (a b : Watched) → at < length list → c ≡ get_or list at c →
    HasServed state its init (take at list) s a b → EndsForMemory state its c s flash →
    ServesSound its list init (state flash) a b (Err failed.Memory)
ended_for_memory state its init list at c s flash a b lt read h (inl still) =
    let count : length (take at list) ≡ at = length-take-le at list (omega arith) in inr (
      at,
      omega arith,
      inl (subst (λ n. ServesRun its (take at list) n init (state flash) a b) count
          (all_served state its init (take at list) s (state flash) a b h still)),
    )
ended_for_memory state its init list at c s flash a b lt read h (inr lost) =
    let count : length (take at list) ≡ at = length-take-le at list (omega arith) in
    let between = state (flash_in s) in
    let ends = subst (λ n. EndsBehind its init (take at list) c between (state flash) a b n) count
    (ends_behind state its init (take at list) c s (state flash) a b h lost) in inr (
      at,
      omega arith,
      inr (inr (record {
        next = c;
        is = next_of list at c lt read;
        between = between;
        serves = ends.0;
        lost = ends.1;
      })),
    )

-- a session that stands has no image that is refused
unrefused : {F : Type 0} (state : F → FlashState) (its : Config) (seen : ℕ → ℕ) (faulted : Bool) (s : DeviceSession F)
    (flash : F) (law : ℕ) (slot : Slot) →
    StandsAt state its seen faulted s → Refuses state its s flash law slot → ⊥
unrefused state its seen faulted (session.Mounted s) flash law slot stands h = h
unrefused state its seen faulted (session.Unmounted old) flash law slot stands h =
    sound_unbroken its.protocol its.logical (shape_of its) (state old).image (record { law = law; slot = slot })
    stands.sound h.1

pub ended_in : {F : Type 0} (state : F → FlashState) (its : Config) (init : FlashState) (list : List Command) (at : ℕ)
    (c : Command) (s : DeviceSession F)
    (flash : F) (why : ServeError) (a b : Watched) → at < length list →
    c ≡ get_or list at c → HasServed state its init (take at list) s a b → EndsServing state its c s flash why →
    ServesSound its list init (state flash) a b (Err why)
ended_in state its init list at c s flash (failed.Unsound law slot) a b lt read h ends =
    absurd (unrefused state its (seen_through (mentions_in its (moment_of init)) (take at list) h.replies)
    (faulted_through false h.replies) s flash law slot h.runs.stands ends.cause)
ended_in state its init list at c s flash failed.Memory a b lt read h ends =
    ended_for_memory state its init list at c s flash a b lt read h ends.cause

-- the reply of it could not be told
pub untold_in : {F : Type 0} (state : F → FlashState) (its : Config) (init : FlashState) (list : List Command)
    (at : ℕ) (c : Command) (r : Reply)
    (s t : DeviceSession F) (a b d : Watched) → at < length list →
    c ≡ get_or list at c → HasServed state its init (take at list) s a b → RunsOn state its c s r t →
    d.text ≡ b.text → d.kept ≡ b.kept → d.flashes ≡ b.flashes →
    ServesSound its list init (state (flash_in t)) a d (Err failed.Memory)
untold_in state its init list at c r s t a b d lt read h on text kept flashes =
    let count : length (take at list) ≡ at = length-take-le at list (omega arith) in
    let final = state (flash_in t) in inr (
      at,
      omega arith,
      inr (inl (subst (λ n. ServesRun its (take (at + 1) list) n init final a d) count
          (subst (λ (cs : List Command). ServesRun its cs (length (take at list)) init final a d)
          (sym (next_of list at c lt read))
          (one_untold state its init (take at list) c r s t a b d h on text kept flashes)))),
    )

-- all was served
pub served_to_the_end : {F : Type 0} (state : F → FlashState) (its : Config) (init : FlashState) (list : List Command)
    (at : ℕ) (s : DeviceSession F) (a b : Watched) → length list ≤ at →
    HasServed state its init (take at list) s a b →
    ServesSound its list init (state (flash_in s)) a b (Ok tt)
unfolding all_served
served_to_the_end state its init list at s a b ge h =
    let whole : take at list ≡ list = take_all at list ge in
    let end = subst (λ (cs : List Command). HasServed state its init cs s a b) whole h in (
      all_served state its init list s (state (flash_in s)) a b end (nothing_done (state (flash_in s))),
      run_ends state its init list end.replies end.points s end.runs,
    )

-- Of the flash that was handed in
pub kept_more : (its : Config) (init old new : FlashState) → IsSoundOrSame its init old → IsSoundOrSame its old new →
    IsSoundOrSame its init new
kept_more its init old new (inl sound) (inl after) = inl (sound.0, after.1)
kept_more its init old new (inr was) (inl sound) = inl (
  subst (λ (m : Moment). IsSoundImage its.protocol its.logical (shape_of its) m.image) was sound.0,
  sound.1,
)
kept_more its init old new (inl sound) (inr same) = inl (
  sound.0,
  subst (λ (m : Moment). IsSoundImage its.protocol its.logical (shape_of its) m.image)
      (sym same) sound.1,
)
kept_more its init old new (inr was) (inr same) = inr (same ∙ was)

refused_for : {F : Type 0} (state : F → FlashState) (its : Config) (init : FlashState) (c : Command) (s : DeviceSession F)
    (flash : F) (law : ℕ) (slot : Slot) →
    IsSoundOrSame its init (state (flash_in s)) →
    EndsFor state its c s flash (failed.Unsound law slot) →
    RefusesUnsound its init (state flash) (Err (failed.Unsound law slot))
refused_for state its init c (session.Mounted s) flash law slot kept ends = absurd ends
refused_for state its init c (session.Unmounted old) flash law slot (inl sound) ends =
    absurd (sound_unbroken its.protocol its.logical (shape_of its) (state old).image (record { law = law; slot = slot })
    sound.1 ends.1)
refused_for state its init c (session.Unmounted old) flash law slot (inr same) ends = (
  ends.0.still.moment ∙ same,
  subst (λ (m : Moment). IsLeastImageBreach its.protocol its.logical (shape_of its) m.image
      (record { law = law; slot = slot }))
      same ends.1,
)

pub refused_in : {F : Type 0} (state : F → FlashState) (its : Config) (init : FlashState) (c : Command)
    (s : DeviceSession F) (flash : F) (why : ServeError) →
    IsSoundOrSame its init (state (flash_in s)) → EndsServing state its c s flash why →
    RefusesUnsound its init (state flash) (Err why)
refused_in state its init c s flash failed.Memory kept ends = kept_more its init (state (flash_in s)) (state flash)
    kept ends.kept
refused_in state its init c s flash (failed.Unsound law slot) kept ends =
    refused_for state its init c s flash law slot kept ends.cause

-- While the image is not sound no command is done
pub moment_stays : (its : Config) (init old new : FlashState) → (IsSoundFlash its init → ⊥) →
    moment_of old ≡ moment_of init → IsSoundOrSame its old new →
    moment_of new ≡ moment_of init
moment_stays its init old new unsound was (inl sound) =
    absurd (unsound (subst (λ (m : Moment). IsSoundImage its.protocol its.logical (shape_of its) m.image)
    was sound.0))
moment_stays its init old new unsound was (inr same) = same ∙ was

abbrev pub told_at : Moment → Reply → ToldReply
told_at at r = record { text = text_of r; moment = at }

pub record StaysUnmounted (its : Config) (cs : List Command) (init now : FlashState) (before after : Watched) :
    Type 0 where
  pub replies : List Reply
  pub first : FlashState
  pub points : List FlashState
  pub begins : BeginsFlash its init false first
  pub run : UnmountedRun its first cs replies points
  pub last : now ≡ last_flash first points
  pub still : moment_of now ≡ moment_of init
  pub text : Grew before.text after.text (text_of_all replies)
  pub kept : Grew before.kept after.kept (map (told_at (moment_of init)) replies)
  pub flashes : Grew before.flashes after.flashes points
  pub faults : CountsBreaks replies init now

pub unmounted_none : (its : Config) (init now : FlashState) (w : Watched) → BeginsFlash its init false now →
    moment_of now ≡ moment_of init → CountsBreaks [] init now →
    StaysUnmounted its [] init now w w
unmounted_none its init now w begins same faults = record {
  replies = [];
  first = now;
  points = [];
  begins = begins;
  run = tt;
  last = refl;
  still = same;
  text = grew_none w.text;
  kept = grew_none w.kept;
  flashes = grew_none w.flashes;
  faults = faults;
}

-- the run goes on by one command
unmounted_one : (its : Config) (old : FlashState) (cs : List Command) (rs : List Reply) (ss : List FlashState)
    (c : Command) (r : Reply) (new : FlashState) → UnmountedRun its old cs rs ss →
    ServesUnmounted its c (last_flash old ss) r new →
    UnmountedRun its old (cs ++ c ∷ []) (rs ++ r ∷ []) (ss ++ new ∷ [])
unmounted_one its old [] [] [] c r new run h = (h, tt)
unmounted_one its old [] [] (t ∷ ss) c r new run h = absurd run
unmounted_one its old [] (q ∷ rs) ss c r new run h = absurd run
unmounted_one its old (d ∷ cs) [] ss c r new run h = absurd run
unmounted_one its old (d ∷ cs) (q ∷ rs) [] c r new run h = absurd run
unmounted_one its old (d ∷ cs) (q ∷ rs) (t ∷ ss) c r new run h =
    (run.0, unmounted_one its t cs rs ss c r new run.1 h)

last_flash_more : (old : FlashState) (ss : List FlashState) (new : FlashState) → last_flash old (ss ++ new ∷ []) ≡ new
last_flash_more old [] new = refl
last_flash_more old (s ∷ ss) new = last_flash_more s ss new

pub unmounted_more : {F : Type 0} (state : F → FlashState) (its : Config) (init : FlashState) (cs : List Command)
    (c : Command) (r : Reply)
    (s t : DeviceSession F) (a b d : Watched) → (IsSoundFlash its init → ⊥) →
    StaysUnmounted its cs init (state (flash_in s)) a b → ServesSession state its c s r t →
    Grew b.text d.text (text_of r) → Grew b.kept d.kept (told_at (moment_of (state (flash_in t))) r ∷ []) →
    Grew b.flashes d.flashes (state (flash_in t) ∷ []) →
    StaysUnmounted its (cs ++ c ∷ []) init (state (flash_in t)) a d
unmounted_more state its init cs c r s t a b d unsound h serves text kept flashes =
    let still = moment_stays its init (state (flash_in s)) (state (flash_in t)) unsound h.still serves.kept in
    let here : IsSoundFlash its (state (flash_in s)) → ⊥ = λ sound. unsound (subst
    (λ (m : Moment). IsSoundImage its.protocol its.logical (shape_of its) m.image) h.still sound) in
    record {
      replies = h.replies ++ r ∷ [];
      first = h.first;
      points = h.points ++ state (flash_in t) ∷ [];
      begins = h.begins;
      run = unmounted_one its h.first cs h.replies h.points c r (state (flash_in t)) h.run
          (subst (λ (x : FlashState). ServesUnmounted its c x r (state (flash_in t))) h.last (serves.unsound here));
      last = sym (last_flash_more h.first h.points (state (flash_in t)));
      still = still;
      text = subst (λ (x : List ℕ). Grew a.text d.text x) (sym (text_more h.replies r))
          (grew_more a.text b.text d.text (text_of_all h.replies) (text_of r) h.text text);
      kept = subst (λ (x : List ToldReply). Grew a.kept d.kept x)
          (sym (map-append (told_at (moment_of init)) h.replies (r ∷ [])))
          (grew_more a.kept b.kept d.kept (map (told_at (moment_of init)) h.replies)
          (told_at (moment_of init) r ∷ []) h.kept
          (subst (λ (m : Moment). Grew b.kept d.kept (told_at m r ∷ [])) still kept));
      flashes = grew_more a.flashes b.flashes d.flashes h.points (state (flash_in t) ∷ []) h.flashes flashes;
      faults = counts_more h.replies r init (state (flash_in s)) (state (flash_in t)) h.faults serves.faults;
    }

-- and what serving comes to then
pub unmounted_in : (its : Config) (init now final : FlashState) (list : List Command) (at : ℕ) (a b d : Watched)
    (why : ServeError) → at < length list →
    (h : StaysUnmounted its (take at list) init now a b) → moment_of final ≡ moment_of init →
    d.text ≡ b.text → d.kept ≡ b.kept → d.flashes ≡ b.flashes → CountsTold h.replies init final (Err why) →
    EndsUnmounted its list at now final (Err why) →
    ServesUnsound its list init final a d (Err why)
unmounted_in its init now final list at a b d why lt h same text kept flashes faults ends = record {
  told = at;
  replies = h.replies;
  first = h.first;
  points = h.points;
  begins = inl (h.begins, lt);
  run = h.run;
  all = tt;
  ends = subst (λ (x : FlashState). EndsUnmounted its list at x final (Err why)) h.last ends;
  still = same;
  text = subst (λ (o : Option (List ℕ)). Grew a.text o (text_of_all h.replies)) (sym text) h.text;
  kept = subst (λ (o : Option (List ToldReply)). Grew a.kept o (map (told_at (moment_of init)) h.replies))
      (sym kept) h.kept;
  flashes = subst (λ (o : Option (List FlashState)). Grew a.flashes o h.points) (sym flashes) h.flashes;
  faults = faults;
}

-- one command more was answered
pub unmounted_untold : {F : Type 0} (state : F → FlashState) (its : Config) (list : List Command) (at : ℕ) (c : Command)
    (r : Reply) (s t : DeviceSession F) → at < length list → c ≡ get_or list at c →
    (IsSoundFlash its (state (flash_in s)) → ⊥) → ServesSession state its c s r t →
    EndsUnmounted its list at (state (flash_in s)) (state (flash_in t)) (Err failed.Memory)
unmounted_untold state its list at c r s t lt read unsound serves = inr (record {
  next = c;
  is = next_of list at c lt read;
  reply = r;
  serves = serves.unsound unsound;
})

-- or there was no memory for it, or the flash was refused
unmounted_refused : {F : Type 0} (state : F → FlashState) (its : Config) (list : List Command) (at : ℕ)
    (s : DeviceSession F) (flash : F) (law : ℕ) (slot : Slot) → Refuses state its s flash law slot →
    EndsUnmounted its list at (state (flash_in s)) (state flash) (Err (failed.Unsound law slot))
unmounted_refused state its list at (session.Mounted s) flash law slot h = absurd h
unmounted_refused state its list at (session.Unmounted old) flash law slot h = h.0

-- what was lost was on a sound flash
lost_on_sound : (its : Config) (c : Command) (p : Point) (old final : FlashState) → EndsLost its c p final →
    IsSoundOrSame its old final → IsSoundFlash its old
lost_on_sound its c p old final h (inl sound) = sound.0
lost_on_sound its c p old final h (inr same) =
    subst (λ (m : Moment). IsSoundImage its.protocol its.logical (shape_of its) m.image) same h.point.sound

unmounted_for_memory : {F : Type 0} (state : F → FlashState) (its : Config) (list : List Command) (at : ℕ)
    (c : Command) (s : DeviceSession F) (flash : F) → (IsSoundFlash its (state (flash_in s)) → ⊥) →
    IsSoundOrSame its (state (flash_in s)) (state flash) → EndsForMemory state its c s flash →
    EndsUnmounted its list at (state (flash_in s)) (state flash) (Err failed.Memory)
unmounted_for_memory state its list at c s flash unsound kept (inl still) = inl still
unmounted_for_memory state its list at c s flash unsound kept (inr lost) =
    absurd (unsound (lost_on_sound its c (point_of state its s) (state (flash_in s)) (state flash) lost kept))

pub unmounted_ended : {F : Type 0} (state : F → FlashState) (its : Config) (list : List Command) (at : ℕ)
    (c : Command) (s : DeviceSession F) (flash : F) (why : ServeError) →
    (IsSoundFlash its (state (flash_in s)) → ⊥) → EndsServing state its c s flash why →
    EndsUnmounted its list at (state (flash_in s)) (state flash) (Err why)
unmounted_ended state its list at c s flash (failed.Unsound law slot) unsound ends =
    unmounted_refused state its list at s flash law slot ends.cause
unmounted_ended state its list at c s flash failed.Memory unsound ends =
    unmounted_for_memory state its list at c s flash unsound ends.kept ends.cause

-- the image of a session is that of the flash that was handed in
pub unsound_still : (its : Config) (init now : FlashState) → (IsSoundFlash its init → ⊥) →
    moment_of now ≡ moment_of init → IsSoundFlash its now → ⊥
unsound_still its init now unsound same sound = unsound
    (subst (λ (m : Moment). IsSoundImage its.protocol its.logical (shape_of its) m.image) same sound)

refused_counts : {F : Type 0} (state : F → FlashState) (its : Config) (init : FlashState) (rs : List Reply)
    (s : DeviceSession F) (flash : F) (law : ℕ)
    (slot : Slot) → CountsBreaks rs init (state (flash_in s)) →
    Refuses state its s flash law slot → CountsBreaks rs init (state flash)
refused_counts state its init rs (session.Mounted s) flash law slot h ends = absurd ends
refused_counts state its init rs (session.Unmounted old) flash law slot h ends =
    counts_later rs init (state old) (state flash) h ends.0.quiet

pub ended_counts : {F : Type 0} (state : F → FlashState) (its : Config) (init : FlashState) (rs : List Reply)
    (c : Command) (s : DeviceSession F) (flash : F)
    (why : ServeError) → CountsBreaks rs init (state (flash_in s)) →
    EndsServing state its c s flash why → CountsTold rs init (state flash) (Err why)
ended_counts state its init rs c s flash failed.Memory h ends = tt
ended_counts state its init rs c s flash (failed.Unsound law slot) h ends =
    refused_counts state its init rs s flash law slot h ends.cause

pub unmounted_to_the_end : (its : Config) (init now : FlashState) (list : List Command) (at : ℕ) (a b : Watched) →
    length list ≤ at →
    StaysUnmounted its (take at list) init now a b → ServesUnsound its list init now a b (Ok tt)
unmounted_to_the_end its init now list at a b ge h = record {
  told = length list;
  replies = h.replies;
  first = h.first;
  points = h.points;
  begins = h.begins;
  run = subst (λ (cs : List Command). UnmountedRun its h.first cs h.replies h.points) (take_all at list ge ∙
      sym (take_all (length list) list (omega arith))) h.run;
  all = refl;
  ends = h.last;
  still = h.still;
  text = h.text;
  kept = h.kept;
  flashes = h.flashes;
  faults = h.faults;
}

-- what holds of an answer that was given, and of none
pub on_ok : (P : Type 0) (r : Result (Unit {0}) Memory) → is_err r ≡ false → OnOk r P → P
on_ok P (Ok u) whole h = h
on_ok P (Err e) whole h = cc

pub on_err : (P : Type 0) (r : Result (Unit {0}) Memory) → is_err r ≡ true → OnErr r P → P
on_err P (Ok u) failed h = cc
on_err P (Err e) failed h = h
