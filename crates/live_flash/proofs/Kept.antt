-- What a call keeps of the invariant of a flash that is a live file.
use Rattle.live_flash.proofs.Common.{◌≡◌, ◌≤◌, ◌<◌, ℕ, true, false, [], length, map, Option, Ok, IfSome, sym, ap, subst, ◌∙◌, Shape, FileState, AreProgrammed, IsOpened, IsLiveFile, Follows, LeavesCounted}
use Rattle.std.specs.Vec.{vec_capacity}
use Rattle.std.proofs.lemmas.Bool.{both_ways}
use Rattle.tx_types.specs.Config.{checked, shape_of}
use Rattle.flash_model.specs.Flash.{Extras}
use Rattle.live_file.specs.Spelling.{live_header}
use Rattle.file_flash.specs.FileFlashState.{slot_loaded}
use Rattle.file_flash.proofs.Keeping.{Stays}
use Rattle.live_flash.specs.LiveFlash.{LiveFlashInvariant}
use Rattle.live_flash.specs.Waiting.{HasRoom, room_bytes}
use Rattle.live_flash.specs.declared.live_flash.LiveFlash.TheInside.{Inside}

-- with whatever is loaded
module _ {S : Type 0} (told : S → Option FileState) (faults : S → ℕ) (f g : Inside S)
    (i : LiveFlashInvariant told faults f)
    (config : g.config ≡ f.config)
    (shape : g.memory.shape ≡ f.memory.shape) (extras : g.memory.extras ≡ f.memory.extras)
    (loaded : g.loaded.items ≡ map slot_loaded g.memory.registers)
    (dies : length g.loaded.items ≡ g.memory.shape.dies)
    (room : length g.follower.room.items ≡ length f.follower.room.items) where
  -- a live file of the device as before is one of the device now
  file_is : IfSome (told g.follower.store) (IsLiveFile f.memory.shape (live_header f.config f.memory.extras)) →
      IfSome (told g.follower.store) (IsLiveFile g.memory.shape (live_header g.config g.memory.extras))
  file_is file =
      subst (λ c. IfSome (told g.follower.store) (IsLiveFile g.memory.shape (live_header c g.memory.extras)))
      (sym config)
      (subst (λ e. IfSome (told g.follower.store) (IsLiveFile g.memory.shape (live_header f.config e)))
      (sym extras)
      (subst (λ s. IfSome (told g.follower.store) (IsLiveFile s (live_header f.config f.memory.extras)))
      (sym shape) file))

  counts_are : IfSome (told g.follower.store) (LeavesCounted f.memory.shape) →
      IfSome (told g.follower.store) (LeavesCounted g.memory.shape)
  counts_are counts = subst (λ s. IfSome (told g.follower.store) (LeavesCounted s)) (sym shape) counts

  -- the file follows
  pub loads_follow : IfSome (told g.follower.store) (LeavesCounted f.memory.shape) →
      IfSome (told g.follower.store) (IsLiveFile f.memory.shape (live_header f.config f.memory.extras)) →
      (g.failed ≡ false → IfSome (told g.follower.store) (IsOpened g.memory.shape)) →
      (g.failed ≡ false → IfSome (told g.follower.store)
      (Follows g.memory.shape g.memory.image [] g.follower.waiting.items)) →
      (g.failed ≡ false → AreProgrammed g.memory.image g.follower.waiting.items) →
      (g.failed ≡ true → 0 < faults g.follower.store) →
      (g.failed ≡ false → HasRoom g.memory.shape (vec_capacity g.follower.waiting) g.follower.waiting.items) →
      LiveFlashInvariant told faults g
  loads_follow counts file opened follows programmed cause places = record {
    checks = subst (λ c. checked c ≡ Ok (shape_of c)) (sym config) i.checks;
    shape = shape ∙ i.shape ∙ ap shape_of (sym config);
    within = subst (λ (e : Extras). e.retired ≤ e.allowance) (sym extras) i.within;
    few = subst (λ (e : Extras). e.allowance ≤ 1024) (sym extras) i.few;
    file = file_is file;
    counts = counts_are counts;
    opened = opened;
    follows = follows;
    programmed = programmed;
    cause = cause;
    places = places;
    room = room ∙ i.room ∙ ap room_bytes (sym shape);
    loaded = loaded;
    dies = dies;
  }

  -- or has failed
  pub loads_failed : IfSome (told g.follower.store) (LeavesCounted f.memory.shape) →
      IfSome (told g.follower.store) (IsLiveFile f.memory.shape (live_header f.config f.memory.extras)) →
      g.failed ≡ true → 0 < faults g.follower.store → LiveFlashInvariant told faults g
  loads_failed counts file failed cause = loads_follow counts file (λ e. absurd (both_ways g.failed e failed))
      (λ e. absurd (both_ways g.failed e failed)) (λ e. absurd (both_ways g.failed e failed)) (λ e. cause)
      (λ e. absurd (both_ways g.failed e failed))

  -- the slots are as before, and so is the file
  pub loads_same : g.memory.image ≡ f.memory.image → g.follower.store ≡ f.follower.store →
      g.follower.waiting ≡ f.follower.waiting → g.failed ≡ f.failed → LiveFlashInvariant told faults g
  loads_same image store wait fails = loads_follow
      (subst (λ t. IfSome t (LeavesCounted f.memory.shape)) (sym file) i.counts)
      (subst (λ t. IfSome t (IsLiveFile f.memory.shape (live_header f.config f.memory.extras))) (sym file) i.file)
      (λ e. subst (λ t. IfSome t (IsOpened g.memory.shape)) (sym file)
      (subst (λ s. IfSome (told f.follower.store) (IsOpened s)) (sym shape) (i.opened (failed e))))
      (λ e. subst (λ t. IfSome t (Follows g.memory.shape g.memory.image [] g.follower.waiting.items)) (sym file)
      (subst (λ w. IfSome (told f.follower.store) (Follows g.memory.shape g.memory.image [] w)) (sym waiting)
      (subst (λ x. IfSome (told f.follower.store) (Follows g.memory.shape x [] f.follower.waiting.items)) (sym image)
      (subst (λ s. IfSome (told f.follower.store) (Follows s f.memory.image [] f.follower.waiting.items)) (sym shape)
      (i.follows (failed e))))))
      (λ e. subst (λ w. AreProgrammed g.memory.image w) (sym waiting)
      (subst (λ x. AreProgrammed x f.follower.waiting.items) (sym image) (i.programmed (failed e))))
      (λ e. subst (λ s. 0 < faults s) (sym store) (i.cause (sym fails ∙ e)))
      (λ e. subst (λ s. HasRoom s (vec_capacity g.follower.waiting) g.follower.waiting.items) (sym shape)
      (subst (λ w. HasRoom f.memory.shape (vec_capacity w) w.items) (sym wait) (i.places (failed e))))
    where
      file : told g.follower.store ≡ told f.follower.store
      file = ap told store

      waiting : g.follower.waiting.items ≡ f.follower.waiting.items
      waiting = ap (λ w. w.items) wait

      failed : g.failed ≡ false → f.failed ≡ false
      failed e = sym fails ∙ e

  -- programs are noted, and no call of the file is made
  pub loads_noted : g.follower.store ≡ f.follower.store → g.failed ≡ f.failed → f.failed ≡ false →
      IfSome (told g.follower.store) (Follows g.memory.shape g.memory.image [] g.follower.waiting.items) →
      AreProgrammed g.memory.image g.follower.waiting.items →
      HasRoom g.memory.shape (vec_capacity g.follower.waiting) g.follower.waiting.items →
      LiveFlashInvariant told faults g
  loads_noted store fails live follows programmed places = loads_follow
      (subst (λ s. IfSome (told s) (LeavesCounted f.memory.shape)) (sym store) i.counts)
      (subst (λ s. IfSome (told s) (IsLiveFile f.memory.shape (live_header f.config f.memory.extras))) (sym store) i.file)
      (λ e. subst (λ s. IfSome (told s) (IsOpened g.memory.shape)) (sym store)
      (subst (λ s. IfSome (told f.follower.store) (IsOpened s)) (sym shape) (i.opened live)))
      (λ e. follows)
      (λ e. programmed)
      (λ e. absurd (both_ways f.failed live (sym fails ∙ e)))
      (λ e. places)

-- with what was loaded
module _ {S : Type 0} (told : S → Option FileState) (faults : S → ℕ) (f g : Inside S)
    (i : LiveFlashInvariant told faults f)
    (config : g.config ≡ f.config) (loaded : g.loaded.items ≡ f.loaded.items) (stays : Stays f.memory g.memory)
    (room : length g.follower.room.items ≡ length f.follower.room.items) where
  still_loaded : g.loaded.items ≡ map slot_loaded g.memory.registers
  still_loaded = loaded ∙ i.loaded ∙ ap (map slot_loaded) (sym stays.registers)

  still_dies : length g.loaded.items ≡ g.memory.shape.dies
  still_dies = ap length loaded ∙ i.dies ∙ ap (λ (s : Shape). s.dies) (sym stays.shape)

  pub still_follows : IfSome (told g.follower.store) (LeavesCounted f.memory.shape) →
      IfSome (told g.follower.store) (IsLiveFile f.memory.shape (live_header f.config f.memory.extras)) →
      (g.failed ≡ false → IfSome (told g.follower.store) (IsOpened g.memory.shape)) →
      (g.failed ≡ false → IfSome (told g.follower.store)
      (Follows g.memory.shape g.memory.image [] g.follower.waiting.items)) →
      (g.failed ≡ false → AreProgrammed g.memory.image g.follower.waiting.items) →
      (g.failed ≡ true → 0 < faults g.follower.store) →
      (g.failed ≡ false → HasRoom g.memory.shape (vec_capacity g.follower.waiting) g.follower.waiting.items) →
      LiveFlashInvariant told faults g
  still_follows = loads_follow told faults f g i config stays.shape stays.extras still_loaded still_dies room

  pub has_failed : IfSome (told g.follower.store) (LeavesCounted f.memory.shape) →
      IfSome (told g.follower.store) (IsLiveFile f.memory.shape (live_header f.config f.memory.extras)) →
      g.failed ≡ true → 0 < faults g.follower.store → LiveFlashInvariant told faults g
  has_failed = loads_failed told faults f g i config stays.shape stays.extras still_loaded still_dies room

  pub still_noted : g.follower.store ≡ f.follower.store → g.failed ≡ f.failed → f.failed ≡ false →
      IfSome (told g.follower.store) (Follows g.memory.shape g.memory.image [] g.follower.waiting.items) →
      AreProgrammed g.memory.image g.follower.waiting.items →
      HasRoom g.memory.shape (vec_capacity g.follower.waiting) g.follower.waiting.items →
      LiveFlashInvariant told faults g
  still_noted = loads_noted told faults f g i config stays.shape stays.extras still_loaded still_dies room
