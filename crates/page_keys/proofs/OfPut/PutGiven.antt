-- What a put gives, by what its parts gave.
use Rattle.page_keys.proofs.Common.{◌≡◌, ◌⊎◌, ◌+◌, ◌<◌, ◌≤◌, ℕ, Bool, true, false, ◌||◌, ◌==◌, List, [], ◌∷◌, ◌++◌, length, map, if◌then◌else◌, Option, Some, None, Result, Ok, Err, option_map, refl, sym, ap, subst, ◌∙◌, inl, inr, arith, nat_le, list_any, find, IsErrAnd, FlashState, Contents, Carries, Moment, moment_of, Carries-nothing, Carries-then, PageWrite, Config, Protocol, array_in, ArrayState, Pages, Represents, put, idle, IndexState, IsSeen, seen_flash, is_spent, DeviceState, EncodesMap, KeyMap, apply, is_touched, pages_of, PutGives, IsFull, is_put_fault, early_refusal, has_key, repeated, KeyStoreState, OnlyReads, OnOk, IsErr, spent_page, put_writes, write_of, Moved, PutError, Change}
use Rattle.std.specs.Option.{option_or}
use Rattle.flash_model.proofs.MoveLemmas.{FlashMoves-nothing, FlashMoves-then}
use Rattle.std.proofs.lemmas.List.FromFn.{length-map-range_with_len}
use Rattle.std.specs.Prelude.{All}
use Rattle.std.proofs.lemmas.List.{length-map}
use Rattle.tx_types.specs.declared.record.Link.{Link}
use Rattle.record_list.specs.Records.{mention}
use Rattle.judged_records.specs.Images.{records_in}
use Rattle.judged_records.specs.IndexState.{mention_of}
use Rattle.open_table.specs.OpenTransactionsState.{next_name}
use Rattle.array_machine.specs.Submit.{is_of}
use Rattle.page_keys.specs.BucketWrites.{BreaksBuckets, WritesBuckets, WritesFirst, WritesInTurn, linked}
use Rattle.page_keys.proofs.OfPut.NoneWritten.{none_cost, none_written}
use Rattle.page_keys.specs.KeyMaps.{seen_by}
use Rattle.page_keys.specs.PutAnswers.{StaysPut, MakesAll, MakesAllOrNone, ReadsFirst}
use Rattle.page_keys.specs.PutCosts.{CostsPages, CostsPut}
use Rattle.page_keys.specs.Puts as puts
use Rattle.page_keys.specs.Puts.{put_refusal, spent_among, wide}
use Rattle.std.specs.Prelude.{IfErr, IsSome}
use Rattle.array_machine.specs.declared.answers.SubmitError.TheVariants as submit
use Rattle.page_keys.specs.Writing.{Writes, WritesNot, Breaks, seen_more}
use Rattle.page_keys.proofs.OfStore.Mentions.{put_seen, seen_by_least, seen_later, seen_same}
use Rattle.page_keys.proofs.OfPut.PutWrites.{among, among_passing, spent_pages, map_none}
use Rattle.page_keys.specs.declared.answers.PutError.TheVariants as refused

-- the pages of what is written are mentioned once more, and no others
any_written : (its : Config) (n : KeyMap) (page : ℕ) (ps : List ℕ) →
    list_any (is_of page) (map (write_of its n) ps) ≡ among page ps
any_written its n page [] = refl
any_written its n page (p ∷ ps) = ap (λ b. (p == page) || b) (any_written its n page ps)

seen_exactly : (its : Config) (m : KeyMap) (cs : List Change) (seen : ℕ → ℕ) (page : ℕ) → page < its.logical →
    seen_more seen (put_writes its m cs) page ≡ seen_by its.logical cs seen page
seen_exactly its m cs seen page lt =
    ap (λ b. if b then seen page + 1 else seen page) (any_written its (apply m cs) page (pages_of its.logical cs)
    ∙ among_passing (is_touched its.logical cs) page 0 its.logical (omega arith) (omega (arith, lt)))

named_pages : (its : Config) (m : KeyMap) (n : IndexState) (ps : List ℕ) →
    map (λ (name : Link). name.page) (map (next_name n) (map (write_of its m) ps)) ≡ ps
named_pages its m n [] = refl
named_pages its m n (p ∷ ps) = ap (λ (l : List ℕ). p ∷ l) (named_pages its m n ps)

-- a refusal that the changes alone give
abbrev is_early : PutError → Bool
is_early refused.Empty = true
is_early (refused.Repeated i) = true
is_early (refused.Wide pages) = true
is_early _ = false

repeated_kind : (earlier cs : List Change) (e : PutError) → repeated earlier cs ≡ Some e →
    is_early e ≡ true
repeated_kind earlier [] e is = cc
repeated_kind earlier (c ∷ cs) e is =
    head (list_any (has_key c.key) earlier) is (repeated_kind (earlier ++ c ∷ []) cs e)
  where
    head : (b : Bool) →
        (if b then Some (refused.Repeated (length earlier)) else repeated (earlier ++ c ∷ []) cs)
        ≡ Some e → (repeated (earlier ++ c ∷ []) cs ≡ Some e → is_early e ≡ true) →
        is_early e ≡ true
    head true h rest =
        let same : refused.Repeated (length earlier) ≡ e = cc in
        ap is_early (sym same)
    head false h rest = rest h

wide_kind : (pending : ℕ) (ps : List ℕ) (e : PutError) → wide pending ps ≡ Some e →
    is_early e ≡ true
wide_kind pending ps e is = head (nat_le (length ps) pending) is
  where
    head : (b : Bool) → (if b then None else Some (refused.Wide (length ps))) ≡ Some e →
        is_early e ≡ true
    head true h = cc
    head false h =
        let same : refused.Wide (length ps) ≡ e = cc in
        ap is_early (sym same)

or_some : (a b : Option PutError) (e : PutError) → option_or a b ≡ Some e →
    (a ≡ Some e) ⊎ (b ≡ Some e)
or_some None b e h = inr h
or_some (Some x) b e h = inl h

early_kind : (its : Config) (cs : List Change) (e : PutError) → early_refusal its cs ≡ Some e →
    is_early e ≡ true
early_kind its [] e is =
    let same : refused.Empty ≡ e = cc in
    ap is_early (sym same)
early_kind its (c ∷ cs) e is =
    elim (or_some (repeated [] (c ∷ cs)) (wide its.pending (pages_of its.logical (c ∷ cs))) e is) [
      | inl h ↦ repeated_kind [] (c ∷ cs) e h
      | inr h ↦ wide_kind its.pending (pages_of its.logical (c ∷ cs)) e h
    ]

-- changes that are not refused alone have no key twice
pub not_repeated : (its : Config) (cs : List Change) → early_refusal its cs ≡ None →
    repeated [] cs ≡ None
not_repeated its [] none = refl
not_repeated its (c ∷ cs) none = first_none (repeated [] (c ∷ cs)) _ none
  where
    first_none : (a b : Option PutError) → option_or a b ≡ None → a ≡ None
    first_none None b h = refl
    first_none (Some x) b h = cc

module _ {F : Type 0} (state : F → FlashState) (old : KeyStoreState F) (m : KeyMap) (cs : List Change)
    (usable : old.broken ≡ false) where
  stays_put : StaysPut state old old
  stays_put = record {
    config = refl;
    machine = refl;
    mentions = refl;
    moment = refl;
    carries = Carries-nothing (state old.device.flash);
    seen = λ seen h. h;
    usable = usable;
  }

  -- a refusal, with the store as this
  named : (new : KeyStoreState F) (e : PutError) →
      put_refusal old.device.config (is_spent old.device.noted.mentions) m cs ≡ Some e →
      is_early e ≡ true → StaysPut state old new → PutGives state old new m cs (Err e)
  named new refused.Empty is kind stays = (is, stays)
  named new (refused.Repeated k) is kind stays = (is, stays)
  named new (refused.Wide k) is kind stays = (is, stays)
  named new (refused.Bucket k) is kind stays = cc
  named new (refused.Spent k) is kind stays = cc
  named new refused.Fault is kind stays = cc
  named new refused.Memory is kind stays = cc

  pub early_gives : (e : PutError) →
      (early_refusal old.device.config cs ≡ Some e)
      ⊎ ((e ≡ refused.Memory) × (early_refusal old.device.config cs ≡ None)) →
      PutGives state old old m cs (Err e)
  early_gives e (inl h) =
      named old e (ap (λ (o : Option PutError). option_or o
      (option_or (puts.full old.device.config m cs)
      (spent_among old.device.config (is_spent old.device.noted.mentions) cs))) h)
      (early_kind old.device.config cs e h) stays_put
  early_gives e (inr h) =
      subst (λ (x : PutError). PutGives state old old m cs (Err x)) (sym h.0)
      (h.1, stays_put)

  pub gives_error : (new : KeyStoreState F) (r : Result (Unit {0}) PutError) (e : PutError) →
      IsErrAnd r (λ x. x ≡ e) → PutGives state old new m cs (Err e) →
      PutGives state old new m cs r
  gives_error new (Ok u) e is given = absurd is
  gives_error new (Err x) e is given =
      subst (λ (y : PutError). PutGives state old new m cs (Err y)) (sym is) given

-- nothing open: the image has the array
pub stands_idle : (s : ArrayState) (arr : Pages) → s.entries ≡ [] → Represents s arr → arr ≡ s.pages
stands_idle s arr closed (inl h) = h
stands_idle s arr closed (inr h) =
    let within = subst (λ k. h.1.0 < k) (ap length closed) h.1.1 in
    absurd (omega (arith, within))

module _ {F : Type 0} (state : F → FlashState) (old : KeyStoreState F) (t : DeviceState F) (m : KeyMap)
    (cs : List Change) (usable : old.broken ≡ false) where
  read_seen : t ≡ record old.device { flash = t.flash } → (seen : ℕ → ℕ) →
      IsSeen seen old.device → IsSeen seen t
  read_seen stays seen h =
      subst (IsSeen seen) (sym stays) (seen_flash seen old.device t.flash h)

  reads_stay : OnlyReads state old.device t false → StaysPut state old (record { device = t; broken = false })
  reads_stay reads = record {
    config = ap (λ (s : DeviceState F). s.config) reads.stays;
    machine = ap (λ (s : DeviceState F). s.machine) reads.stays;
    mentions = ap (λ (s : DeviceState F). s.noted.mentions) reads.stays;
    moment = reads.moment;
    carries = reads.carries;
    seen = read_seen reads.stays;
    usable = refl;
  }

  -- a fault in a read: the image is as before
  read_broken : early_refusal old.device.config cs ≡ None → OnlyReads state old.device t true →
      old.device.machine.entries ≡ [] →
      EncodesMap old.device.config old.device.machine.pages m →
      Represents old.device.machine (array_in old.device.config.protocol old.device.config.logical
      (state old.device.flash).image) →
      MakesAllOrNone state old (record { device = t; broken = true }) m cs
  read_broken early reads closed shows stands =
      let config : t.config ≡ old.device.config = ap (λ (s : DeviceState F). s.config) reads.stays in
      let image = ap (λ (x : Moment). x.image) reads.moment in
      let arr = ap (array_in old.device.config.protocol old.device.config.logical) image
      ∙ stands_idle old.device.machine _ closed stands in
      record {
        tried = early;
        left = inl (
          subst (λ (c : Config). array_in c.protocol c.logical (state t.flash).image ≡ old.device.machine.pages)
              (sym config) arr,
          subst (λ (c : Config). EncodesMap c (array_in c.protocol c.logical (state t.flash).image) m) (sym config)
              (subst (λ (p : Pages). EncodesMap old.device.config p m) (sym arr) shows),
        );
        first = none_written old.device.config cs (moment_of (state old.device.flash)) (moment_of (state t.flash))
            reads.moment;
        costs = none_cost old.device.config cs (moment_of (state old.device.flash)) (moment_of (state t.flash))
            reads.moment;
        moved = record {
          config = config;
          moves = FlashMoves-nothing (state old.device.flash) (state t.flash) true reads.moment;
          carries = reads.carries;
        };
        seen = λ seen h. seen_later t t seen (seen_by old.device.config.logical cs seen)
            (seen_by_least old.device.config.logical cs seen) (read_seen reads.stays seen h);
        broken = refl;
      }

  pub reads_give : (e : PutError) → IsFull old.device.config m cs e →
      early_refusal old.device.config cs ≡ None → OnlyReads state old.device t (is_put_fault e) →
      old.device.machine.entries ≡ [] → EncodesMap old.device.config old.device.machine.pages m →
      Represents old.device.machine (array_in old.device.config.protocol old.device.config.logical
      (state old.device.flash).image) →
      PutGives state old (record { device = t; broken = is_put_fault e }) m cs (Err e)
  reads_give (refused.Bucket page) full early reads closed shows stands = (
    ap (λ (o : Option PutError). option_or o
        (option_or (puts.full old.device.config m cs)
        (spent_among old.device.config (is_spent old.device.noted.mentions) cs))) early
        ∙ ap (λ (o : Option PutError). option_or o
        (spent_among old.device.config (is_spent old.device.noted.mentions) cs)) full,
    reads_stay reads,
  )
  reads_give refused.Fault full early reads closed shows stands =
      read_broken early reads closed shows stands
  reads_give refused.Memory full early reads closed shows stands = (early, reads_stay reads)
  reads_give refused.Empty full early reads closed shows stands = absurd full
  reads_give (refused.Repeated k) full early reads closed shows stands = absurd full
  reads_give (refused.Wide k) full early reads closed shows stands = absurd full
  reads_give (refused.Spent k) full early reads closed shows stands = absurd full

-- what the write of a put gives
module _ {F : Type 0} (state : F → FlashState) (old new : KeyStoreState F) (t : DeviceState F) (m : KeyMap)
    (cs : List Change) (ws : List PageWrite) (reads : OnlyReads state old.device t false)
    (early : early_refusal old.device.config cs ≡ None)
    (full : puts.full old.device.config m cs ≡ None)
    (are : ws ≡ put_writes old.device.config m cs)
    (shows : EncodesMap old.device.config old.device.machine.pages m)
    (made : EncodesMap old.device.config (put old.device.machine.pages ws) (apply m cs)) where
  its_config : t.config ≡ old.device.config
  its_config = ap (λ (s : DeviceState F). s.config) reads.stays

  its_machine : t.machine ≡ old.device.machine
  its_machine = ap (λ (s : DeviceState F). s.machine) reads.stays

  refusal_is : (o : Option PutError) →
      spent_among old.device.config (is_spent old.device.noted.mentions) cs ≡ o →
      put_refusal old.device.config (is_spent old.device.noted.mentions) m cs ≡ o
  refusal_is o is =
      ap (λ (x : Option PutError). option_or x
      (option_or (puts.full old.device.config m cs)
      (spent_among old.device.config (is_spent old.device.noted.mentions) cs))) early
      ∙ ap (λ (x : Option PutError). option_or x
      (spent_among old.device.config (is_spent old.device.noted.mentions) cs)) full ∙ is

  spent_is : spent_page (is_spent t.noted.mentions) ws
      ≡ option_map (λ p. submit.Spent p)
      (find (is_spent old.device.noted.mentions) (pages_of old.device.config.logical cs))
  spent_is =
      ap (λ (s : DeviceState F). spent_page (is_spent s.noted.mentions) ws) reads.stays
      ∙ ap (spent_page (is_spent old.device.noted.mentions)) are
      ∙ spent_pages old.device.config (apply m cs) (is_spent old.device.noted.mentions)
      (pages_of old.device.config.logical cs)

  none_spent : spent_page (is_spent t.noted.mentions) ws ≡ None →
      put_refusal old.device.config (is_spent old.device.noted.mentions) m cs ≡ None
  none_spent none =
      refusal_is None (ap (option_map (λ page. refused.Spent page))
      (map_none _ _ (sym spent_is ∙ none)))

  moved_on : (broken : Bool) → Moved state t new.device broken →
      Moved state old.device new.device broken
  moved_on broken moved = record {
    config = moved.config ∙ its_config;
    moves = FlashMoves-then (state old.device.flash) (state t.flash) (state new.device.flash) broken
        reads.carries.shape
        (FlashMoves-nothing (state old.device.flash) (state t.flash) false reads.moment)
        moved.moves;
    carries = Carries-then (state old.device.flash) (state t.flash) (state new.device.flash) broken
        reads.carries moved.carries;
  }

  -- shown by the pages, under the configuration that the store has now
  shown_now : (pages : Pages) (n : KeyMap) → new.device.config ≡ t.config →
      EncodesMap old.device.config pages n → EncodesMap new.device.config pages n
  shown_now pages n config h =
      subst (λ (c : Config). EncodesMap c pages n) (sym (config ∙ its_config)) h

  -- what a put may have mentioned
  written_seen : ((seen : ℕ → ℕ) → IsSeen seen t → IsSeen (seen_more seen ws) new.device) →
      (seen : ℕ → ℕ) → IsSeen seen old.device →
      IsSeen (seen_by old.device.config.logical cs seen) new.device
  written_seen more seen h =
      seen_later new.device new.device (seen_more seen ws)
      (seen_by old.device.config.logical cs seen)
      (λ page. subst (λ (l : List PageWrite).
      seen_more seen l page ≤ seen_by old.device.config.logical cs seen page) (sym are)
      (put_seen old.device.config m cs seen page))
      (more seen (subst (IsSeen seen) (sym reads.stays) (seen_flash seen old.device t.flash h)))

  names_are : map (λ (name : Link). name.page) (map (next_name t.noted) ws) ≡ pages_of old.device.config.logical cs
  names_are =
      ap (λ (l : List PageWrite). map (λ (name : Link). name.page) (map (next_name t.noted) l)) are
      ∙ named_pages old.device.config (apply m cs) t.noted (pages_of old.device.config.logical cs)

  above_all : All (λ (name : Link).
      mention (records_in t.config.protocol (state t.flash).image) name.page < name.version)
      (map (next_name t.noted) ws) →
      All (λ (name : Link). mention (records_in old.device.config.protocol (state old.device.flash).image) name.page
      < name.version) (map (next_name t.noted) ws)
  above_all above =
      let names = map (next_name t.noted) ws in
      subst (λ (x : Moment). All (λ (name : Link).
      mention (records_in old.device.config.protocol x.image) name.page < name.version) names) reads.moment
      (subst (λ (c : Config). All (λ (name : Link).
      mention (records_in c.protocol (state t.flash).image) name.page < name.version) names) its_config above)

  -- each bucket that a key falls in was written
  written_each : Writes state t new.device ws → WritesBuckets old.device.config cs
      (moment_of (state old.device.flash)) (moment_of (state new.device.flash))
  written_each writes =
      let names = map (next_name t.noted) ws in
      record {
        names = names;
        pages = names_are;
        above = above_all writes.above;
        turns = subst (λ (x : Moment). WritesInTurn old.device.config x (linked names)
            (moment_of (state new.device.flash))) reads.moment
            (subst (λ (c : Config). WritesInTurn c (moment_of (state t.flash)) (linked names)
            (moment_of (state new.device.flash))) its_config writes.turns);
      }

  -- the first of them were, where it broke off
  written_first : Breaks state t new.device ws → BreaksBuckets old.device.config cs
      (moment_of (state old.device.flash)) (moment_of (state new.device.flash))
  written_first breaks =
      let names = map (next_name t.noted) ws in
      record {
        names = names;
        pages = names_are;
        above = above_all breaks.above;
        first = subst (λ (x : Moment). WritesFirst old.device.config names x (moment_of (state new.device.flash)))
            reads.moment
            (subst (λ (c : Config). WritesFirst c names (moment_of (state t.flash))
            (moment_of (state new.device.flash))) its_config breaks.first);
      }

  -- at most what its pages take
  costs_all : CostsPages t.config (length ws) (moment_of (state t.flash)) (moment_of (state new.device.flash)) →
      CostsPut old.device.config cs (moment_of (state old.device.flash)) (moment_of (state new.device.flash))
  costs_all h =
      let after = moment_of (state new.device.flash) in
      let long : length ws ≡ length (pages_of old.device.config.logical cs) =
      ap (length {A = PageWrite}) are
      ∙ length-map (pages_of old.device.config.logical cs) (write_of old.device.config (apply m cs)) in
      subst (λ (n : ℕ). CostsPages old.device.config n (moment_of (state old.device.flash)) after) long
      (subst (λ (x : Moment). CostsPages old.device.config (length ws) x after) reads.moment
      (subst (λ (c : Config). CostsPages c (length ws) (moment_of (state t.flash)) after) its_config h))

  mentioned_more : Writes state t new.device ws → (page : ℕ) → page < old.device.config.logical →
      mention_of new.device.noted page
      ≡ seen_by old.device.config.logical cs (mention_of old.device.noted) page
  mentioned_more writes page lt =
      writes.mentions page (subst (λ (c : Config). page < c.logical) (sym its_config) lt)
      ∙ ap (λ (s : DeviceState F). seen_more (mention_of s.noted) ws page) reads.stays
      ∙ ap (λ (l : List PageWrite). seen_more (mention_of old.device.noted) l page) are
      ∙ seen_exactly old.device.config m cs (mention_of old.device.noted) page lt

  pub all_made : Writes state t new.device ws → new.broken ≡ false → MakesAll state old new m cs
  all_made writes usable = record {
    taken = none_spent writes.unspent;
    shows = shown_now new.device.machine.pages (apply m cs) writes.moved.config
        (subst (λ (s : ArrayState). EncodesMap old.device.config s.pages (apply m cs))
        (sym (writes.machine ∙ ap (λ (s : ArrayState). idle (put s.pages ws)) its_machine)) made);
    array = subst (λ (c : Config). array_in c.protocol c.logical (state new.device.flash).image
        ≡ put old.device.machine.pages (put_writes old.device.config m cs)) its_config
        (writes.array ∙ ap (λ (s : ArrayState). put s.pages ws) its_machine ∙ ap (put old.device.machine.pages) are);
    moved = moved_on false writes.moved;
    seen = written_seen writes.seen;
    mentions = mentioned_more writes;
    written = written_each writes;
    costs = costs_all writes.costs;
    usable = usable;
  }

  pub all_or_none : Breaks state t new.device ws → new.broken ≡ true →
      MakesAllOrNone state old new m cs
  all_or_none breaks broken =
      let array = array_in new.device.config.protocol new.device.config.logical
      (state new.device.flash).image in
      let before : t.machine.pages ≡ old.device.machine.pages =
      ap (λ (s : ArrayState). s.pages) its_machine in
      record {
        tried = early;
        left = elim breaks.left [
          | inl h ↦ inl (
            h ∙ before,
            shown_now array m breaks.moved.config
                (subst (λ (p : Pages). EncodesMap old.device.config p m) (sym (h ∙ before)) shows),
          )
          | inr h ↦ inr (
            none_spent breaks.unspent,
            h ∙ ap (λ (p : Pages). put p ws) before ∙ ap (put old.device.machine.pages) are,
            shown_now array (apply m cs) breaks.moved.config
                (subst (λ (p : Pages). EncodesMap old.device.config p (apply m cs))
                (sym (h ∙ ap (λ (p : Pages). put p ws) before)) made),
          )
        ];
        first = written_first breaks;
        costs = costs_all breaks.costs;
        moved = moved_on true breaks.moved;
        seen = written_seen breaks.seen;
        broken = broken;
      }

  some_spent : (o : Option ℕ) (page : ℕ) →
      option_map (λ p. submit.Spent p) o ≡ Some (submit.Spent page) → o ≡ Some page
  some_spent None page h = cc
  some_spent (Some p) page h = cc

  pub not_made : (e : PutError) → WritesNot state t new.device ws e →
      new.broken ≡ is_put_fault e → PutGives state old new m cs (Err e)
  not_made (refused.Spent page) not broken = (
    refusal_is (Some (refused.Spent page))
        (ap (option_map (λ p. refused.Spent p)) (some_spent _ page (sym spent_is ∙ not.0))),
    record {
      config = not.1.config ∙ its_config;
      machine = not.1.machine ∙ its_machine;
      mentions = not.1.mentions ∙ ap (λ (s : DeviceState F). s.noted.mentions) reads.stays;
      moment = ap (λ (f : F). moment_of (state f)) not.1.flash ∙ reads.moment;
      carries = subst (λ (f : F). Carries (state old.device.flash) (state f) false)
          (sym not.1.flash) reads.carries;
      seen = λ seen h. seen_same t new.device seen not.1.mentions not.1.namings
          (subst (IsSeen seen) (sym reads.stays) (seen_flash seen old.device t.flash h));
      usable = broken;
    },
  )
  not_made refused.Fault not broken = all_or_none not broken
  not_made refused.Memory not broken = absurd not
  not_made refused.Empty not broken = absurd not
  not_made (refused.Repeated k) not broken = absurd not
  not_made (refused.Wide k) not broken = absurd not
  not_made (refused.Bucket k) not broken = absurd not

  pub write_gives : (r : Result (Unit {0}) PutError) → OnOk r (Writes state t new.device ws) →
      OnOk r (new.broken ≡ false) → IfErr r (WritesNot state t new.device ws) →
      IfErr r (λ e. new.broken ≡ is_put_fault e) → PutGives state old new m cs r
  write_gives (Ok u) written usable not broken = all_made written usable
  write_gives (Err e) written usable not broken = not_made e not broken

-- ---- what it reads

no_refusal : (o : Option PutError) → o ≡ None → IsSome o → ⊥
no_refusal None none some = cc
no_refusal (Some e) none some = cc

-- nothing, where the changes alone are refused, or there is no memory for them
pub reads_none : {F : Type 0} (state : F → FlashState) (old : KeyStoreState F) (cs : List Change)
    (r : Result (Unit {0}) PutError) → IsErr r → ReadsFirst state old old cs r
reads_none state old cs (Err e) err = record {
  read = old.device.flash;
  moment = refl;
  reads = omega arith;
  early = λ some. refl;
  left = λ kind. refl;
  moves = FlashMoves-nothing (state old.device.flash) (state old.device.flash) (is_put_fault e) refl;
}
reads_none state old cs (Ok u) err = cc

module _ {F : Type 0} (state : F → FlashState) (old new : KeyStoreState F) (t : DeviceState F) (cs : List Change)
    (reads : OnlyReads state old.device t false)
    (count : (state t.flash).reads
    ≤ (state old.device.flash).reads + length (pages_of old.device.config.logical cs))
    (early : early_refusal old.device.config cs ≡ None) where
  not_early : IsSome (early_refusal old.device.config cs) → t.flash ≡ old.device.flash
  not_early some = absurd (no_refusal _ early some)

  -- and then it wrote
  pub reads_then_wrote : (ws : List PageWrite) (r : Result (Unit {0}) PutError) →
      OnOk r (Writes state t new.device ws) → IfErr r (WritesNot state t new.device ws) →
      ReadsFirst state old new cs r
  reads_then_wrote ws (Ok u) written not = record {
    read = t.flash;
    moment = reads.moment;
    reads = count;
    early = not_early;
    left = tt;
    moves = written.moved.moves;
  }
  reads_then_wrote ws (Err (refused.Spent page)) written not = record {
    read = t.flash;
    moment = reads.moment;
    reads = count;
    early = not_early;
    left = λ kind. not.1.flash;
    moves = FlashMoves-nothing (state t.flash) (state new.device.flash) false
        (ap (λ (f : F). moment_of (state f)) not.1.flash);
  }
  reads_then_wrote ws (Err refused.Fault) written not = record {
    read = t.flash;
    moment = reads.moment;
    reads = count;
    early = not_early;
    left = λ kind. cc;
    moves = not.moved.moves;
  }
  reads_then_wrote ws (Err refused.Empty) written not = absurd not
  reads_then_wrote ws (Err (refused.Repeated k)) written not = absurd not
  reads_then_wrote ws (Err (refused.Wide k)) written not = absurd not
  reads_then_wrote ws (Err (refused.Bucket k)) written not = absurd not
  reads_then_wrote ws (Err refused.Memory) written not = absurd not

-- or that was all
pub reads_alone : {F : Type 0} (state : F → FlashState) (old : KeyStoreState F) (t : DeviceState F)
    (cs : List Change) (e : PutError) (broken : Bool) → OnlyReads state old.device t (is_put_fault e) →
    (state t.flash).reads
    ≤ (state old.device.flash).reads + length (pages_of old.device.config.logical cs) →
    early_refusal old.device.config cs ≡ None →
    ReadsFirst state old (record { device = t; broken = broken }) cs (Err e)
reads_alone state old t cs e broken reads count early = record {
  read = t.flash;
  moment = reads.moment;
  reads = count;
  early = λ some. absurd (no_refusal _ early some);
  left = λ kind. refl;
  moves = FlashMoves-nothing (state t.flash) (state t.flash) (is_put_fault e) refl;
}

module _ (protocol : Protocol) (logical : ℕ) where
  length_array : (image : List Contents) → length (array_in protocol logical image) ≡ logical
  unfolding array_in
  length_array image = length-map-range_with_len _ 0 logical

  -- an array that an image stands for, with nothing open, has all pages
  pub length_pages : (s : ArrayState) (image : List Contents) → s.entries ≡ [] →
      Represents s (array_in protocol logical image) → length s.pages ≡ logical
  length_pages s image closed stands =
      ap (length {A = Option (List ℕ)}) (sym (stands_idle s _ closed stands)) ∙ length_array image
