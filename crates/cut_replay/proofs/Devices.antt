-- What calls of a device leave of its mentions, of the cache, and of what is told.
use Rattle.cut_replay.proofs.Common.{◌≡◌, ℕ, ◌+◌, ◌<◌, ◌≤◌, Bool, true, false, cond, List, sym, ◌∙◌, subst, inl, inr, arith, count_by, Config, Protocol, Shape, FlashState, Carries, moment_of, CachedPage, is_spent, DeviceState, limits_of, Command, Reply, DoesCommand, seen_after, is_break, Tells, is_fault, is_lost, IsSeen, HoldsAlways, point_at, IsCachedAs, IsCached, ServesHere}
use Rattle.std.proofs.lemmas.List.Elements.{All-weaker}
use Rattle.flash_model.specs.Moves.{MovesTogether}
use Rattle.flash_model.proofs.MoveLemmas.{together_of}
use Rattle.tx_engine.specs.Exits.{Exits, ExitsTables, VersionsTell}
use Rattle.array_machine.specs.Submit.{is_of}
use Rattle.tx_engine.proofs.OfDevice.Seen.{exits_seen}
use Rattle.collector.specs.declared.unsure.Unsure.TheVariants as unsure
use Rattle.array_runs.specs.Run.{is_opened, writes_in}
use Rattle.cut_replay.specs.Costs.{CostsCommand, CostsStep}
use Rattle.cut_replay.specs.FlashRun.{KnowsSpent, is_still, is_together}
use Rattle.cut_replay.specs.Mounted.{CallsDevice, MayHaveCut}

-- what is seen at least is not less after a command
seen_least : (b : Bool) (n k : ℕ) → n ≤ cond b (n + k) n
seen_least true n k = omega arith
seen_least false n k = omega arith

pub seen_at : (seen : ℕ → ℕ) (c : Command) (r : Reply) (page : ℕ) → seen page ≤ seen_after seen c r page
seen_at seen c r page = seen_least (is_opened r) (seen page) (count_by (is_of page) (writes_in c))

pub seen_later : {F : Type 0} (seen : ℕ → ℕ) (c : Command) (r : Reply) (s : DeviceState F) → IsSeen seen s →
    IsSeen (seen_after seen c r) s
seen_later seen c r s h = record {
  mentions = λ page. (let least = seen_at seen c r page in let most = h.mentions page in omega arith);
  names = λ page version named. (let least = seen_at seen c r page in
      let most = h.names page version named in omega arith);
}

-- the cache stays right where versions do not fall, and a page whose version stays has its bytes
cached_stays_so : {F : Type 0} (old new : DeviceState F) → new.config ≡ old.config → VersionsTell old new →
    (e : CachedPage) → IsCachedAs old e → IsCachedAs new e
cached_stays_so old new same tell e h =
    let exists : e.page < new.config.logical = subst (λ (c : Config). e.page < c.logical) (sym same) h.exists in
    elim (tell e.page h.exists) [
      | inl rose ↦ (let most = h.least in record {
        exists = exists;
        least = omega arith;
        current = λ now. absurd (omega (arith, now, rose, most));
      })
      | inr stays ↦ record {
        exists = exists;
        least = subst (λ n. e.version ≤ n) (sym stays.0) h.least;
        current = λ now. stays.1 ∙ h.current (now ∙ stays.0);
      }
    ]

pub cached_stays : {F : Type 0} (old new : DeviceState F) (entries : List CachedPage) → new.config ≡ old.config →
    VersionsTell old new → IsCached old entries →
    IsCached new entries
cached_stays old new entries same tell h = All-weaker (IsCachedAs old) (IsCachedAs new)
    (cached_stays_so old new same tell) entries h

-- what a command does that is one call which may settle, write and collect
pub call_serves : {F : Type 0} (state : F → FlashState) (protocol : Protocol) (c : Command) (old new : DeviceState F)
    (r : Reply) (broken : Bool) →
    HoldsAlways state protocol old → HoldsAlways state protocol new → ExitsTables old new →
    MovesTogether (is_together c) (state old.flash).shape (moment_of (state old.flash)) broken
    (moment_of (state new.flash)) → Carries (state old.flash) (state new.flash) broken → is_break r ≡ broken →
    is_fault r ≡ broken →
    is_lost r ≡ false →
    DoesCommand (limits_of old.config) (is_spent old.noted.mentions) c old.machine r new.machine →
    (is_still c ≡ true → moment_of (state new.flash) ≡ moment_of (state old.flash)) →
    ((faulted : Bool) → (faulted ≡ false → old.unsure ≡ unsure.Nothing) →
    Tells old.config faulted (point_at state old) r (point_at state new)) →
    (old.unsure ≡ unsure.Nothing → is_fault r ≡ false → new.unsure ≡ unsure.Nothing) →
    (is_fault r ≡ true → MayHaveCut state c old new) →
    CostsCommand old.config c old.machine r (moment_of (state old.flash)) (moment_of (state new.flash)) →
    (old.unsure ≡ unsure.Nothing →
    CostsStep old.config c old.machine (moment_of (state old.flash)) (moment_of (state new.flash))) →
    CallsDevice state c old new r →
    KnowsSpent old.config (is_spent old.noted.mentions) c old.machine (moment_of (state old.flash)) →
    ServesHere state c old new r
call_serves state protocol c old new r broken was is tables ops carries breaks faults whole does still tells sure cut
    costs direct device knows = record {
      config = tables.config;
      does = does;
      costs = costs;
      direct = direct;
      moves = record {
        moves = subst (λ (x : Shape). MovesTogether (is_together c) x (moment_of (state old.flash)) (is_break r)
            (moment_of (state new.flash))) was.shape
            (subst (λ (b : Bool). MovesTogether (is_together c) (state old.flash).shape (moment_of (state old.flash)) b
            (moment_of (state new.flash))) (sym breaks) ops);
        still = still;
      };
      carries = subst (λ (b : Bool). Carries (state old.flash) (state new.flash) b) (sym faults) carries;
      tells = tells;
      knows = knows;
      sure = sure;
      seen = λ seen h. seen_later seen c r new (exits_seen state protocol old new seen was is tables h);
      versions = tables.versions;
      cut = cut;
      device = device;
      whole = whole;
    }

-- the same where no programs are started together
pub exits_serve : {F : Type 0} (state : F → FlashState) (protocol : Protocol) (c : Command) (old new : DeviceState F)
    (r : Reply) (broken : Bool) →
    HoldsAlways state protocol old → HoldsAlways state protocol new → Exits state old new broken → is_break r ≡ broken →
    is_fault r ≡ broken →
    is_lost r ≡ false →
    DoesCommand (limits_of old.config) (is_spent old.noted.mentions) c old.machine r new.machine →
    (is_still c ≡ true → moment_of (state new.flash) ≡ moment_of (state old.flash)) →
    ((faulted : Bool) → (faulted ≡ false → old.unsure ≡ unsure.Nothing) →
    Tells old.config faulted (point_at state old) r (point_at state new)) →
    (old.unsure ≡ unsure.Nothing → is_fault r ≡ false → new.unsure ≡ unsure.Nothing) →
    (is_fault r ≡ true → MayHaveCut state c old new) →
    CostsCommand old.config c old.machine r (moment_of (state old.flash)) (moment_of (state new.flash)) →
    (old.unsure ≡ unsure.Nothing →
    CostsStep old.config c old.machine (moment_of (state old.flash)) (moment_of (state new.flash))) →
    CallsDevice state c old new r →
    KnowsSpent old.config (is_spent old.noted.mentions) c old.machine (moment_of (state old.flash)) →
    ServesHere state c old new r
exits_serve state protocol c old new r broken was is exits =
    call_serves state protocol c old new r broken was is exits.tables
    (together_of (is_together c) (state old.flash).shape (moment_of (state old.flash)) (moment_of (state new.flash))
    broken exits.moves) exits.carries
