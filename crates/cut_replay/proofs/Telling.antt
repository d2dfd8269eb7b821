-- Commands that ask for no program and no erase.
use Rattle.cut_replay.proofs.Common.{◌≡◌, ℕ, ◌+◌, ◌≤◌, Bool, true, false, cond, List, [], ◌∷◌, length, Option, Some, None, Result, Ok, Err, refl, sym, ap, ◌∙◌, subst, inl, inr, arith, count_by, IfOk, Config, Protocol, Memory, shape_of, FlashState, Carries, moment_of, IndexState, ArrayState, page_at, is_spent, DeviceState, limits_of, Command, Reply, DoesCommand, is_break, seen_after, Point, Tells, MovesBy, is_fault, is_lost, IsSeen, HoldsAlways, point_at, ServesHere}
use Rattle.std.proofs.Common.{map}
use Rattle.std.proofs.Common.{eq-eqb, Contains}
use Rattle.std.specs.Prelude.{Any, IsSome}
use Rattle.std.proofs.lemmas.List.Sums.{sum_by-cons}
use Rattle.std.proofs.lemmas.List.Elements.{Contains-push_cases}
use Rattle.list_lemmas.proofs.Membership.{in_any, any_in, Contains-cases, Contains-nil}
use Rattle.tx_types.specs.Batch.{PageWrite, Writes}
use Rattle.tx_types.specs.declared.record.Link.{Link}
use Rattle.tx_types.specs.declared.stats.Stats.{Stats}
use Rattle.flash_model.specs.Moves.{MovesTogether}
use Rattle.flash_model.proofs.CallLemmas.{Carries-nothing}
use Rattle.flash_model.proofs.MoveLemmas.{Moves-nothing, together_of}
use Rattle.judged_records.specs.IndexState.{current_of, mention_of}
use Rattle.collector.specs.declared.unsure.Unsure.TheVariants as unsure
use Rattle.array_machine.specs.ArrayState.{Pages}
use Rattle.tx_engine.specs.DeviceCalls.{SubmitsDevice, TellsDevice}
use Rattle.tx_engine.specs.Exits.{IsNamedAt}
use Rattle.tx_engine.specs.Naming.{named_after}
use Rattle.open_table.specs.OpenTransactionsState.{next_name, Naming}
use Rattle.tx_engine.specs.Read.{is_read_fault}
use Rattle.array_machine.specs.Read.{ReadsPage}
use Rattle.array_machine.specs.Submit.{is_of, opened, refusal}
use Rattle.array_machine.specs.declared.answers.ReadAnswer.{ReadAnswer}
use Rattle.array_machine.specs.declared.answers.ReadAnswer.TheVariants as read
use Rattle.array_machine.specs.declared.answers.ReadError.{ReadError}
use Rattle.array_machine.specs.declared.answers.ReadError.TheVariants as unread
use Rattle.array_machine.specs.declared.answers.SubmitError.{SubmitError}
use Rattle.array_machine.specs.declared.answers.SubmitError.TheVariants as refused
use Rattle.host_protocol.specs.declared.command.Command.TheVariants as command
use Rattle.host_protocol.specs.declared.reply.Reply.TheVariants as reply
use Rattle.array_runs.specs.Run.{read_reply, submit_reply}
use Rattle.cut_replay.specs.Costs.{CostsCommand, CostsStep}
use Rattle.cut_replay.specs.Mounted.{CallsDevice}
use Rattle.cut_replay.specs.FlashRun.{KnowsSpent, is_together}
use Rattle.cut_replay.proofs.Devices.{seen_at, seen_later}

-- the moment stays
stays_moved : (its : Config) (c : Command) (r : Reply) (old new : FlashState) → moment_of new ≡ moment_of old →
    MovesBy its c r (moment_of old) (moment_of new)
stays_moved its c r old new same = record {
  moves = subst (λ m. MovesTogether (is_together c) (shape_of its) (moment_of old) (is_break r) m) (sym same)
      (together_of (is_together c) (shape_of its) (moment_of old) (moment_of old) (is_break r)
      (Moves-nothing (shape_of its) (moment_of old) (is_break r)));
  still = λ h. same;
}

-- nothing at all changed
pub same_serves : {F : Type 0} (state : F → FlashState) (c : Command) (s : DeviceState F) (r : Reply) →
    is_break r ≡ false → is_fault r ≡ false →
    is_lost r ≡ false →
    DoesCommand (limits_of s.config) (is_spent s.noted.mentions) c s.machine r s.machine →
    ((faulted : Bool) → (faulted ≡ false → s.unsure ≡ unsure.Nothing) →
    Tells s.config faulted (point_at state s) r (point_at state s)) →
    CostsCommand s.config c s.machine r (moment_of (state s.flash)) (moment_of (state s.flash)) →
    CostsStep s.config c s.machine (moment_of (state s.flash)) (moment_of (state s.flash)) →
    CallsDevice state c s s r →
    KnowsSpent s.config (is_spent s.noted.mentions) c s.machine (moment_of (state s.flash)) →
    ServesHere state c s s r
same_serves state c s r unbroken whole uncut does tells costs direct device knows = record {
  config = refl;
  does = does;
  costs = costs;
  direct = λ sure. direct;
  moves = stays_moved s.config c r (state s.flash) (state s.flash) refl;
  carries = subst (λ (b : Bool). Carries (state s.flash) (state s.flash) b) (sym whole)
      (Carries-nothing (state s.flash));
  tells = tells;
  knows = knows;
  sure = λ sure h. sure;
  seen = λ seen h. seen_later seen c r s h;
  versions = λ page lt. inr (refl, refl);
  cut = λ fault. cc;
  device = device;
  whole = uncut;
}

pub stats_serves : {F : Type 0} (state : F → FlashState) (s : DeviceState F) (told : Stats) →
    TellsDevice state s told → ServesHere state command.Stats s s (reply.Stats told)
stats_serves state s told h =
    same_serves state command.Stats s (reply.Stats told) refl refl refl (
      told,
      h.machine,
      refl,
      refl,
    ) (λ faulted sure. (h.programs, h.erases)) tt tt (told, h, refl, refl) tt

-- A read
read_breaks : (page : ℕ) (bytes : List ℕ) (result : Result ReadAnswer ReadError) →
    (is_break (read_reply page bytes result) ≡ is_read_fault result)
    × (is_fault (read_reply page bytes result) ≡ is_read_fault result) ×
    (is_lost (read_reply page bytes result) ≡ false)
read_breaks page bytes (Ok read.Blank) = (refl, refl, refl)
read_breaks page bytes (Ok read.Page) = (refl, refl, refl)
read_breaks page bytes (Err unread.Range) = (refl, refl, refl)
read_breaks page bytes (Err unread.Fault) = (refl, refl, refl)

read_tells : (its : Config) (faulted : Bool) (old new : Point) (page : ℕ) (bytes : List ℕ)
    (result : Result ReadAnswer ReadError) →
    Tells its faulted old (read_reply page bytes result) new
read_tells its faulted old new page bytes (Ok read.Blank) = tt
read_tells its faulted old new page bytes (Ok read.Page) = tt
read_tells its faulted old new page bytes (Err unread.Range) = tt
read_tells its faulted old new page bytes (Err unread.Fault) = tt

read_may : (logical : ℕ) (pages : Pages) (page : ℕ) (bytes : List ℕ) (result : Result ReadAnswer ReadError) →
    ReadsPage logical pages page bytes result →
    is_fault (read_reply page bytes result) ≡ true →
    IsSome (page_at pages page)
read_may logical pages page bytes (Ok read.Blank) reads fault = cc
read_may logical pages page bytes (Ok read.Page) reads fault = cc
read_may logical pages page bytes (Err unread.Range) reads fault = cc
read_may logical pages page bytes (Err unread.Fault) reads fault = reads.1

-- only the flash changed, and its moment stays
pub flash_serves : {F : Type 0} (state : F → FlashState) (protocol : Protocol) (old : DeviceState F) (flash : F)
    (page : ℕ) (bytes : List ℕ)
    (result : Result ReadAnswer ReadError) →
    (let new : DeviceState F = record old { flash = flash } in
    HoldsAlways state protocol new → ReadsPage old.config.logical old.machine.pages page bytes result →
    moment_of (state flash) ≡ moment_of (state old.flash) →
    Carries (state old.flash) (state flash) (is_read_fault result) →
    ServesHere state (command.Read page) old new (read_reply page bytes result))
flash_serves state protocol old flash page bytes result is reads still carries =
    let breaks = read_breaks page bytes result in
    record {
      config = refl;
      does = (bytes, result, reads, refl, refl);
      costs = tt;
      direct = λ sure. tt;
      knows = tt;
      moves = stays_moved old.config (command.Read page) (read_reply page bytes result) (state old.flash)
          (state flash) still;
      carries = subst (λ (b : Bool). Carries (state old.flash) (state flash) b) (sym breaks.1) carries;
      tells = λ faulted h. read_tells old.config faulted (point_at state old)
          (point_at state (record old { flash = flash })) page bytes result;
      sure = λ sure h. sure;
      seen = λ seen h. record {
        mentions = (seen_later seen (command.Read page) (read_reply page bytes result) old h).mentions;
        names =
            (seen_later seen (command.Read page) (read_reply page bytes result) old h).names;
      };
      versions = λ p lt. inr (refl, refl);
      cut = λ fault. record {
        may = read_may old.config.logical old.machine.pages page bytes result reads fault;
        leaves = is.same_cut;
      };
      device = refl;
      whole = breaks.2;
    }

pub read_serves : {F : Type 0} (state : F → FlashState) (protocol : Protocol) (old new : DeviceState F) (page : ℕ)
    (bytes : List ℕ)
    (result : Result ReadAnswer ReadError) (r : Reply) →
    HoldsAlways state protocol new → ReadsPage old.config.logical old.machine.pages page bytes result →
    moment_of (state new.flash) ≡ moment_of (state old.flash) →
    Carries (state old.flash) (state new.flash) (is_read_fault result) → new ≡ record old { flash = new.flash } →
    r ≡ read_reply page bytes result →
    ServesHere state (command.Read page) old new r
read_serves {F = F} state protocol old new page bytes result r is reads still carries stays told =
    subst (λ (q : Reply). ServesHere state (command.Read page) old new q) (sym told)
    (subst (λ (s : DeviceState F). ServesHere state (command.Read page) old s (read_reply page bytes result))
    (sym stays)
    (flash_serves state protocol old new.flash page bytes result
    (subst (λ (s : DeviceState F). HoldsAlways state protocol s) stays is) reads still carries))

-- A write
write_unbroken : (tag pages : ℕ) (result : Result (Unit {0}) SubmitError) →
    (is_break (submit_reply tag pages result) ≡ false) × (is_fault (submit_reply tag pages result) ≡ false)
    × (is_lost (submit_reply tag pages result) ≡ false)
write_unbroken tag pages (Ok u) = (refl, refl, refl)
write_unbroken tag pages (Err refused.Empty) = (refl, refl, refl)
write_unbroken tag pages (Err (refused.Range page)) = (refl, refl, refl)
write_unbroken tag pages (Err (refused.Repeated page)) = (refl, refl, refl)
write_unbroken tag pages (Err refused.Tag) = (refl, refl, refl)
write_unbroken tag pages (Err (refused.Overlap page owner)) = (refl, refl, refl)
write_unbroken tag pages (Err (refused.Full free)) = (refl, refl, refl)
write_unbroken tag pages (Err (refused.Spent page)) = (refl, refl, refl)

write_tells : (its : Config) (faulted : Bool) (old new : Point) (tag pages : ℕ)
    (result : Result (Unit {0}) SubmitError) →
    Tells its faulted old (submit_reply tag pages result) new
write_tells its faulted old new tag pages (Ok u) = tt
write_tells its faulted old new tag pages (Err refused.Empty) = tt
write_tells its faulted old new tag pages (Err (refused.Range page)) = tt
write_tells its faulted old new tag pages (Err (refused.Repeated page)) = tt
write_tells its faulted old new tag pages (Err refused.Tag) = tt
write_tells its faulted old new tag pages (Err (refused.Overlap page owner)) = tt
write_tells its faulted old new tag pages (Err (refused.Full free)) = tt
write_tells its faulted old new tag pages (Err (refused.Spent page)) = tt

opened_pages : (o : Option SubmitError) (tag : ℕ) (ws : List PageWrite) (s : ArrayState) →
    (opened o tag ws s).pages ≡ s.pages
opened_pages None tag ws s = refl
opened_pages (Some e) tag ws s = refl

pins_current : (n : IndexState) (pins : List ℕ) (page : ℕ) → current_of (record n { pins = pins }) page
    ≡ current_of n page
unfolding current_of
pins_current n pins page = refl

-- a name that is written now is one above the mention of its page, and the page stands in the batch
counts_step : (b : Bool) (n : ℕ) → n ≤ cond b 1 0 + n
counts_step true n = omega arith
counts_step false n = omega arith

named_in : (n : IndexState) (ws : List PageWrite) (page version : ℕ) (name : Link) →
    Contains (map (next_name n) ws) name → name.page ≡ page →
    name.version ≡ version →
    (version ≡ mention_of n page + 1) × (1 ≤ count_by (is_of page) ws)
named_in n [] page version name c same at = absurd (Contains-nil name c)
named_in n (w ∷ ws) page version name c same at =
    let split : count_by (is_of page) (w ∷ ws) ≡ cond (is_of page w) 1 0 + count_by (is_of page) ws =
    sum_by-cons (λ (w : PageWrite). cond (is_of page w) 1 0) w ws in
    elim (Contains-cases (next_name n w) (map (next_name n) ws) name c) [
      | inl e ↦ (
          let here : w.page ≡ page = ap (λ (x : Link). x.page) e ∙ same in
          let is : is_of page w ≡ true = eq-eqb w.page page here in
          let one : ◌≡◌ {A = ℕ} (cond {A = ℕ} (is_of page w) 1 0) 1 = ap (λ (b : Bool). cond {A = ℕ} b 1 0) is in (
            sym at ∙ ap (λ (x : Link). x.version) (sym e) ∙ ap (λ p. mention_of n p + 1) here,
            omega (arith, split, one),
          ))
      | inr i ↦ (
          let rest = named_in n ws page version name i same at in
          let more = counts_step (is_of page w) (count_by (is_of page) ws) in
          (rest.0, omega (arith, split, more, rest.1)))
    ]

-- the names once a batch was opened: those of before, and those of its pages
named_after_seen : {F : Type 0} (old new : DeviceState F) (seen : ℕ → ℕ) (tag : ℕ) (batch : Writes)
    (result : Result (Unit {0}) SubmitError) → IsSeen seen old →
    new.namings ≡ named_after old.noted batch.entries result old.namings → (page version : ℕ) →
    IsNamedAt new.namings page version →
    version ≤ seen_after seen (command.Write tag batch) (submit_reply tag (length batch.entries) result) page
named_after_seen old new seen tag batch (Err e) h names page version named =
    let before : IsNamedAt old.namings page version = subst (λ (x : List Naming). IsNamedAt x page version)
    names named in
    let most = h.names page version before in
    let least = seen_at seen (command.Write tag batch) (submit_reply tag (length batch.entries) (Err e)) page in
    omega arith
named_after_seen old new seen tag batch (Ok u) h names page version named =
    let at = in_any (λ x. Any (λ name. (name.page ≡ page) × (name.version ≡ version)) x.names) new.namings named in
    let mine : Naming = record { names = map (next_name old.noted) batch.entries; noted_count = 0 } in
    let where_from = Contains-push_cases old.namings mine at.0
    (subst (λ (x : List Naming). Contains x at.0) names at.1) in
    elim where_from [
      | inl before ↦ (let most = h.names page version (any_in (λ x. Any (λ name. (name.page ≡ page) ×
          (name.version ≡ version)) x.names) old.namings at.0 before at.2) in omega arith)
      | inr same ↦ (
          let name = in_any (λ (name : Link). (name.page ≡ page) × (name.version ≡ version))
          (map (next_name old.noted) batch.entries)
          (subst (λ (x : Naming). Any (λ name. (name.page ≡ page) × (name.version ≡ version)) x.names)
          (sym same) at.2) in
          let both = named_in old.noted batch.entries page version name.0 name.1 name.2.0 name.2.1 in
          let most = h.mentions page in omega (arith, both.0, both.1, most))
    ]

pub write_serves : {F : Type 0} (state : F → FlashState) (old new : DeviceState F) (tag : ℕ) (batch : Writes)
    (result : Result (Unit {0}) SubmitError)
    (r : Reply) → SubmitsDevice old new tag batch.entries result → r ≡ submit_reply tag (length batch.entries) result →
    KnowsSpent old.config (is_spent old.noted.mentions) (command.Write tag batch) old.machine
    (moment_of (state old.flash)) → ServesHere state (command.Write tag batch) old new r
write_serves {F = F} state old new tag batch result r device told knows =
    let keeps = device.keeps in
    let reply = submit_reply tag (length batch.entries) result in
    let breaks = write_unbroken tag (length batch.entries) result in
    let flash : state new.flash ≡ state old.flash = ap state keeps.flash in
    subst (λ (q : Reply). ServesHere state (command.Write tag batch) old new q) (sym told) (record {
      config = keeps.config;
      does = (result, device.submits, refl);
      costs = tt;
      direct = λ sure. tt;
      knows = knows;
      moves = stays_moved old.config (command.Write tag batch) reply (state old.flash) (state new.flash)
          (ap moment_of flash);
      carries = subst (λ (b : Bool). Carries (state old.flash) (state new.flash) b) (sym breaks.1)
          (subst (λ (s : FlashState). Carries (state old.flash) s false) (sym flash)
          (Carries-nothing (state old.flash)));
      tells = λ faulted h. write_tells old.config faulted (point_at state old) (point_at state new) tag
          (length batch.entries) result;
      sure = λ sure h. keeps.unsure ∙ sure;
      seen = λ seen h. record {
        mentions = λ page. (let same : mention_of new.noted page
            ≡ mention_of old.noted page = ap (λ (n : IndexState). mention_of n page) keeps.noted in
            let least = seen_at seen (command.Write tag batch) reply page in let most = h.mentions page in omega arith);
        names = named_after_seen old new seen tag batch result h device.named;
      };
      versions = λ page lt. inr (
        ap (λ (n : IndexState). current_of n page) keeps.noted ∙ pins_current old.noted new.noted.pins page,
        ap (λ (m : ArrayState). page_at m.pages page) device.submits.opens ∙ ap (λ (x : Pages). page_at x page)
            (opened_pages (refusal (limits_of old.config) (is_spent old.noted.mentions) old.machine.entries tag
            batch.entries) tag batch.entries old.machine),
      );
      cut = λ fault. (let not = breaks.1 in cc);
      device = (result, device, refl);
      whole = breaks.2;
    })

-- the reply of a write whose answer is known
pub told_opened : (tag pages count : ℕ) (u : Unit {0}) (result : Result (Unit {0}) SubmitError) → count ≡ pages →
    result ≡ Ok u →
    reply.Opened tag count ≡ submit_reply tag pages result
told_opened tag pages count u result same is = ap (λ n. reply.Opened tag n) same ∙ ap (submit_reply tag pages) (sym is)

pub told_refused : (tag pages : ℕ) (e : SubmitError) (result : Result (Unit {0}) SubmitError) (r : Reply) →
    r ≡ submit_reply tag pages (Err e) →
    result ≡ Err e → r ≡ submit_reply tag pages result
told_refused tag pages e result r told is = told ∙ ap (submit_reply tag pages) (sym is)

-- a read whose reply there was memory for
pub reads_serve : {F : Type 0} (state : F → FlashState) (protocol : Protocol) (old new : DeviceState F) (page : ℕ)
    (bytes : List ℕ)
    (result : Result ReadAnswer ReadError) (r : Result Reply Memory) →
    HoldsAlways state protocol new → ReadsPage old.config.logical old.machine.pages page bytes result →
    moment_of (state new.flash) ≡ moment_of (state old.flash) →
    Carries (state old.flash) (state new.flash) (is_read_fault result) → new ≡ record old { flash = new.flash } →
    IfOk r (λ r. r ≡ read_reply page bytes result) →
    IfOk r (λ r. ServesHere state (command.Read page) old new r)
reads_serve state protocol old new page bytes result (Ok r) is reads still carries stays told =
    read_serves state protocol old new page bytes result r is reads still carries stays told
reads_serve state protocol old new page bytes result (Err e) is reads still carries stays told = tt
