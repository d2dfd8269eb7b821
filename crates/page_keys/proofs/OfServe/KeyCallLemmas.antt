-- What a put and a get of a store do, by their answers.
use Rattle.page_keys.proofs.Common.{◌≡◌, ℕ, Bool, true, false, cond, ◌+◌, List, ◌++◌, length, take, drop, Option, Some, None, Err, refl, sym, ap, subst, ◌∙◌, inl, inr, shape_of, Config, Protocol, Shape, Carries, FlashState, Moment, moment_of, array_in, seen_flash, HoldsAlways, IsSeen, ArrayState, Pages, is_spent, take-append_seam, DeviceState, EncodesMap, KeyMap, apply, put, put_writes, is_key_cut, is_key_fault, seen_after, DoesHere, PutGives, HasKeys, KeyStoreState, OnlyReads, PutError, Change, KeyReply}
use Rattle.std.specs.FinMap.{get}
use Rattle.flash_model.specs.Moves.{Moves}
use Rattle.page_keys.specs.Entries.{GivesValue}
use Rattle.page_keys.specs.KeyRuns.{DoesGet, DoesPut, Stays, is_tried, key_at}
use Rattle.page_keys.specs.KeySessions.{MemoryLeaves, reply_of}
use Rattle.page_keys.specs.PutAnswers.{MakesAll, MakesAllOrNone, StaysPut}
use Rattle.page_keys.specs.declared.answers.PutError.TheVariants as refused
use Rattle.page_keys.specs.declared.command.KeyCommand.TheVariants as command
use Rattle.page_keys.specs.declared.key_reply.KeyReply.TheVariants as reply
use Rattle.page_keys.proofs.OfPut.PutGiven.{stands_idle}

some_same : (a b : KeyReply) → Some a ≡ Some b → a ≡ b
some_same a b h = cc

-- the pages of a get are none
seen_get : {F : Type 0} (its : Config) (key : List ℕ) (seen : ℕ → ℕ) (s : DeviceState F)
    (r : KeyReply) → IsSeen seen s → IsSeen (seen_after its seen (command.Get key) r) s
seen_get its key seen s r h = by (is_tried r)
  where
    by : (b : Bool) →
        IsSeen (λ page. cond b (cond false (seen page + 1) (seen page)) (seen page)) s
    by true = record { mentions = h.mentions; names = h.names }
    by false = record { mentions = h.mentions; names = h.names }

module _ {F : Type 0} (state : F → FlashState) (protocol : Protocol) (old new : KeyStoreState F)
    (always : HoldsAlways state protocol old.device) (closed : HasKeys old.device) (cs : List Change) (m : KeyMap)
    (shows : EncodesMap old.device.config old.device.machine.pages m) where
  moves_by : (broken : Bool) →
      Moves (state old.device.flash).shape (moment_of (state old.device.flash)) broken
      (moment_of (state new.device.flash)) →
      Moves (shape_of old.device.config) (moment_of (state old.device.flash)) broken
      (moment_of (state new.device.flash))
  moves_by broken moves =
      subst (λ (x : Shape). Moves x (moment_of (state old.device.flash)) broken
      (moment_of (state new.device.flash))) always.shape moves

  -- nothing is open: the image has the array of the store
  array_is : array_in old.device.config.protocol old.device.config.logical (state old.device.flash).image
      ≡ old.device.machine.pages
  array_is = stands_idle old.device.machine _ closed.closed always.array

  -- the array after all changes
  array_made : (array : Pages) → array ≡ put old.device.machine.pages (put_writes old.device.config m cs) →
      array ≡ put (array_in old.device.config.protocol old.device.config.logical (state old.device.flash).image)
      (put_writes old.device.config m cs)
  array_made array is = is ∙ ap (λ (p : Pages). put p (put_writes old.device.config m cs)) (sym array_is)

  -- a put that was done
  pub stored_here : (n : ℕ) → n ≡ length cs → MakesAll state old new m cs →
      DoesHere state (command.Put cs) m old new (reply.Stored n)
  stored_here n count all = record {
    left = apply m cs;
    does = λ up. (
      record { allowed = all.taken; keys = refl; array = array_made _ all.array },
      count,
      moves_by false all.moved.moves,
      all.written,
      all.costs,
    );
    shows = λ h. all.shows;
    image = λ h. cc;
    config = all.moved.config;
    carries = all.moved.carries;
    usable = λ h. all.usable;
    seen = all.seen;
    whole = refl;
  }

  -- one that was broken
  pub broken_here : MakesAllOrNone state old new m cs →
      DoesHere state (command.Put cs) m old new reply.Fault
  broken_here any = elim any.left [
    | inl none ↦ record {
      left = m;
      does = λ up. record {
        tried = any.tried;
        whole = inl (
          refl,
          subst (λ (c : Config). array_in c.protocol c.logical (state new.device.flash).image
              ≡ old.device.machine.pages) any.moved.config none.0 ∙ sym array_is,
        );
        first = any.first;
        costs = any.costs;
        moves = moves_by true any.moved.moves;
      };
      shows = λ h. cc;
      image = λ h. none.1;
      config = any.moved.config;
      carries = any.moved.carries;
      usable = λ h. cc;
      seen = any.seen;
      whole = refl;
    }
    | inr all ↦ record {
      left = apply m cs;
      does = λ up. record {
        tried = any.tried;
        whole = inr (record {
          allowed = all.0;
          keys = refl;
          array = array_made _
              (subst (λ (c : Config). array_in c.protocol c.logical (state new.device.flash).image
              ≡ put old.device.machine.pages (put_writes old.device.config m cs)) any.moved.config all.1);
        });
        first = any.first;
        costs = any.costs;
        moves = moves_by true any.moved.moves;
      };
      shows = λ h. cc;
      image = λ h. all.2;
      config = any.moved.config;
      carries = any.moved.carries;
      usable = λ h. cc;
      seen = any.seen;
      whole = refl;
    }
  ]

  -- the map is shown still
  shown_still : StaysPut state old new →
      EncodesMap new.device.config new.device.machine.pages m
  shown_still stays =
      subst (λ (c : Config). EncodesMap c new.device.machine.pages m) (sym stays.config)
      (subst (λ (s : ArrayState). EncodesMap old.device.config s.pages m) (sym stays.machine) shows)

  -- one that was refused
  refused_here : (r : KeyReply) → is_key_fault r ≡ false → is_key_cut r ≡ false →
      ((seen : ℕ → ℕ) → IsSeen seen new.device →
      IsSeen (seen_after old.device.config seen (command.Put cs) r) new.device) →
      StaysPut state old new →
      ((up : Bool) → Stays (record { keys = m; up = true; flash = state old.device.flash })
      (record { keys = m; up = up; flash = state new.device.flash }) →
      DoesPut old.device.config (is_spent old.device.noted.mentions) cs
      (record { keys = m; up = true; flash = state old.device.flash }) r
      (record { keys = m; up = up; flash = state new.device.flash })) →
      DoesHere state (command.Put cs) m old new r
  refused_here r no_fault no_cut same stays does = record {
    left = m;
    does = λ up. does up (record { keys = refl; moment = stays.moment });
    shows = λ h. shown_still stays;
    image = λ h. cc;
    config = stays.config;
    carries = subst (λ b. Carries (state old.device.flash) (state new.device.flash) b)
        (sym no_fault) stays.carries;
    usable = λ h. stays.usable;
    seen = λ seen h. same seen (stays.seen seen h);
    whole = no_cut;
  }

  -- each answer of a put but want of memory
  pub put_here : (e : PutError) (r : KeyReply) → PutGives state old new m cs (Err e) →
      reply_of cs e ≡ Some r → DoesHere state (command.Put cs) m old new r
  put_here refused.Empty r gives is =
      subst (DoesHere state (command.Put cs) m old new) (some_same reply.RefusedEmpty r is)
      (refused_here reply.RefusedEmpty refl refl (λ seen h. h) gives.1 (λ up s. (gives.0, s)))
  put_here (refused.Repeated i) r gives is =
      subst (DoesHere state (command.Put cs) m old new)
      (some_same (reply.RefusedRepeated (key_at cs i)) r is)
      (refused_here (reply.RefusedRepeated (key_at cs i)) refl refl (λ seen h. h) gives.1
      (λ up s. (i, (gives.0, s), refl)))
  put_here (refused.Wide n) r gives is =
      subst (DoesHere state (command.Put cs) m old new) (some_same (reply.RefusedWide n) r is)
      (refused_here (reply.RefusedWide n) refl refl (λ seen h. h) gives.1 (λ up s. (gives.0, s)))
  put_here (refused.Bucket p) r gives is =
      subst (DoesHere state (command.Put cs) m old new) (some_same (reply.RefusedBucket p) r is)
      (refused_here (reply.RefusedBucket p) refl refl (λ seen h. h) gives.1 (λ up s. (gives.0, s)))
  put_here (refused.Spent p) r gives is =
      subst (DoesHere state (command.Put cs) m old new) (some_same (reply.RefusedSpent p) r is)
      (refused_here (reply.RefusedSpent p) refl refl (λ seen h. h) gives.1 (λ up s. (gives.0, s)))
  put_here refused.Fault r gives is =
      subst (DoesHere state (command.Put cs) m old new) (some_same reply.Fault r is)
      (broken_here gives)
  put_here refused.Memory r gives is = cc

  -- and want of memory
  pub memory_here : (e : PutError) → PutGives state old new m cs (Err e) → reply_of cs e ≡ None →
      MemoryLeaves state old new
  memory_here refused.Empty gives is = cc
  memory_here (refused.Repeated i) gives is = cc
  memory_here (refused.Wide n) gives is = cc
  memory_here (refused.Bucket p) gives is = cc
  memory_here (refused.Spent p) gives is = cc
  memory_here refused.Fault gives is = cc
  memory_here refused.Memory gives is =
      record { config = gives.1.config; moment = gives.1.moment; carries = gives.1.carries }

-- the answers of a get
module _ {F : Type 0} (state : F → FlashState) (protocol : Protocol) (old new : KeyStoreState F)
    (always : HoldsAlways state protocol old.device) (key : List ℕ) (m : KeyMap)
    (shows : EncodesMap old.device.config old.device.machine.pages m)
    (closed : HasKeys old.device) (usable : new.broken ≡ false) where
  its_stays : (broken : Bool) → OnlyReads state old.device new.device broken → (up : Bool) →
      Stays (record { keys = m; up = true; flash = state old.device.flash })
      (record { keys = m; up = up; flash = state new.device.flash })
  its_stays broken reads up = record { keys = refl; moment = reads.moment }

  got : (r : KeyReply) → is_key_cut r ≡ false →
      OnlyReads state old.device new.device (is_key_fault r) →
      ((up : Bool) → DoesGet key (record { keys = m; up = true; flash = state old.device.flash }) r
      (record { keys = m; up = up; flash = state new.device.flash })) →
      DoesHere state (command.Get key) m old new r
  got r no_cut reads does = record {
    left = m;
    does = does;
    shows = λ h.
        subst (λ (s : DeviceState F). EncodesMap s.config s.machine.pages m) (sym reads.stays) shows;
    image = λ h.
        subst (λ (s : DeviceState F). EncodesMap s.config
        (array_in s.config.protocol s.config.logical (state new.device.flash).image) m)
        (sym reads.stays)
        (subst (λ (p : Pages). EncodesMap old.device.config p m)
        (sym (ap (λ (x : Moment). array_in old.device.config.protocol old.device.config.logical
        x.image) reads.moment ∙ stands_idle old.device.machine _ closed.closed always.array)) shows);
    config = ap (λ (s : DeviceState F). s.config) reads.stays;
    carries = reads.carries;
    usable = λ h. usable;
    seen = λ seen h. seen_get old.device.config key seen new.device r
        (subst (IsSeen seen) (sym reads.stays) (seen_flash seen old.device new.device.flash h));
    whole = no_cut;
  }

  pub got_value : (k : List ℕ) (len : ℕ) (room into value : List ℕ) → k ≡ key →
      OnlyReads state old.device new.device false → GivesValue (get m key) (Some len) room into →
      value ≡ take len into → DoesHere state (command.Get key) m old new (reply.Value k value)
  got_value k len room into value its reads gives is = by (get m key) refl gives
    where
      by : (o : Option (List ℕ)) → get m key ≡ o → GivesValue o (Some len) room into →
          DoesHere state (command.Get key) m old new (reply.Value k value)
      by None told h = absurd h
      by (Some v) told h =
          let same : v ≡ value =
          sym (is ∙ ap (take len) h.1
          ∙ subst (λ n. take n (v ++ drop len room) ≡ v) (sym h.0) (take-append_seam v (drop len room)))
          in
          got (reply.Value k value) refl reads
          (λ up. (its, told ∙ ap (λ (x : List ℕ). Some x) same, its_stays false reads up))

  pub got_none : (k : List ℕ) (room into : List ℕ) → k ≡ key → OnlyReads state old.device new.device false →
      GivesValue (get m key) None room into →
      DoesHere state (command.Get key) m old new (reply.Absent k)
  got_none k room into its reads gives = by (get m key) refl gives
    where
      by : (o : Option (List ℕ)) → get m key ≡ o → GivesValue o None room into →
          DoesHere state (command.Get key) m old new (reply.Absent k)
      by None told h = got (reply.Absent k) refl reads (λ up. (its, told, its_stays false reads up))
      by (Some v) told h = absurd h

  pub got_fault : OnlyReads state old.device new.device true →
      DoesHere state (command.Get key) m old new reply.Fault
  got_fault reads = got reply.Fault refl reads (its_stays true reads)
