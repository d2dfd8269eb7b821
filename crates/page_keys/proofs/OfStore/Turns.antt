-- How the buckets of a put are written one after another, over the steps of its transaction.
use Rattle.page_keys.proofs.Common.{◌≡◌, ℕ, ◌+◌, ◌<◌, ◌≤◌, ◌==◌, Bool, true, false, cond, if◌then◌else◌, List, [], ◌∷◌, ◌++◌, length, map, take, set, get_or, option_map, Option, Some, Ok, refl, sym, ap, subst, ◌∙◌, inl, inr, arith, list_any, length-append, take_more, cases_lt, nat_tests, PageWrite, Config, Shape, shape_of, FlashState, Contents, Moment, moment_of, IndexState, IsSeen, HoldsAlways, ArrayState, DeviceState, writing}
use Rattle.std.proofs.Common.{eq-eqb, All, Any, Contains}
use Rattle.std.specs.Prelude.{◌≢◌, AllPairs, IfSome, find}
use Rattle.std.specs.List.{AllZip, zip}
use Rattle.std.proofs.lemmas.Bool.{cases_Bool, cond-true, lt-ltb, false≢true}
use Rattle.std.proofs.lemmas.List.{get_or_past, get_or-map, get_or-set_same, length-map, length-set, take_all}
use Rattle.std.proofs.lemmas.List.Elements.{All-contains, All-from_get_or, All-head}
use Rattle.std.proofs.lemmas.Slice.Zip.{get_or-zip, length-zip}
use Rattle.list_lemmas.proofs.Membership.{Contains-here, Contains-one, any_in, in_any}
use Rattle.list_lemmas.proofs.Tests.{any_of}
use Rattle.tx_types.specs.Batch.{no_write}
use Rattle.tx_types.specs.Config.{slots_of}
use Rattle.tx_types.specs.declared.config.Protocol.{Protocol}
use Rattle.tx_types.specs.declared.record.Link.{Link}
use Rattle.flash_model.specs.Flash.{blank, complete, slot_at}
use Rattle.flash_model.specs.Moves.{FlashMoves, Moves}
use Rattle.record_list.specs.Records.{is_present, mention, mention_at, name_of, version_of}
use Rattle.record_list.specs.Transaction.{IsAsked, next_names}
use Rattle.record_list.specs.declared.found.Found.{Found}
use Rattle.record_list.proofs.OfFacts.Asking.{rounded_at}
use Rattle.record_list.proofs.OfFacts.Names.{found_named, greatest_bound}
use Rattle.judged_records.specs.Images.{records_in}
use Rattle.judged_records.specs.IndexState.{mention_of}
use Rattle.judged_records.specs.Notes.{found_in}
use Rattle.judged_records.specs.declared.note.Note.{Note}
use Rattle.judged_records.specs.declared.note.Note.TheVariants.{Blank, Holds}
use Rattle.judged_records.proofs.OfNotes.FoundIn.{found, noted_in}
use Rattle.collector.specs.Laws.{ImageIsSound}
use Rattle.collector.specs.Preserves.{IsThere}
use Rattle.collector.specs.declared.unsure.Unsure.TheVariants as unsure
use Rattle.array_machine.specs.ArrayState.{Entry, has_tag, new_entry}
use Rattle.array_machine.specs.declared.mark.Mark.TheVariants.{Plain}
use Rattle.array_machine.specs.Submit.{is_of}
use Rattle.open_table.specs.OpenTransactionsState.{Naming, name_at, next_name, no_name}
use Rattle.tx_engine.specs.DeviceState.{IsOpenAs, IsUnderWay, Stands}
use Rattle.tx_engine.specs.Exits.{ExitsTables, IsNamedAt}
use Rattle.tx_engine.specs.Naming.{KeepsTables, named_after}
use Rattle.tx_engine.specs.Settling.{AddsOnly, link_place, settlement_of, with_settlement}
use Rattle.tx_engine.specs.Writing.{BringsPage, DueRecord, WritesRecord, due_record, next_of, open_of}
use Rattle.tx_engine.proofs.OfDevice.OpenOnes.{can_take}
use Rattle.tx_engine.proofs.OfSubmit.Submitted.{above_mention}
use Rattle.page_keys.specs.BucketWrites.{AddsNames, HasLinked, Linked, WritesInTurn, linked}
use Rattle.page_keys.specs.Writing.{seen_more}

-- ---- names with their links

abbrev pub no_pair : Linked
no_pair = (no_name, no_name)

length_next : (names : List Link) → length (next_names names) ≡ length names
length_next [] = refl
length_next (name ∷ names) = let more = length-append names (name ∷ []) in omega (arith, more)

pairs_long : (names : List Link) → length (linked names) ≡ length names
pairs_long names =
    let both = length-zip names (next_names names) in
    let long = length_next names in
    omega (arith, both, long)

pair_at : (names : List Link) (k : ℕ) → k < length names →
    get_or (linked names) k no_pair ≡ (get_or names k no_name, get_or (next_names names) k no_name)
pair_at names k within =
    let long = length_next names in
    get_or-zip names (next_names names) k no_pair within (omega (arith, long, within))

-- one record more
turn_more : (its : Config) (pairs : List Linked) (pair : Linked) (old mid new : Moment) →
    WritesInTurn its old pairs mid → is_present (records_in its.protocol mid.image) pair.0 ≡ false →
    Moves (shape_of its) mid false new →
    HasLinked (records_in its.protocol new.image) pair → AddsNames its mid (pair.0 ∷ []) new →
    WritesInTurn its old (pairs ++ pair ∷ []) new
turn_more its [] pair old mid new turns absent moves there adds = (
  subst (λ (m : Moment). is_present (records_in its.protocol m.image) pair.0 ≡ false) turns absent,
  new,
  subst (λ (m : Moment). Moves (shape_of its) m false new) turns moves,
  there,
  subst (λ (m : Moment). AddsNames its m (pair.0 ∷ []) new) turns adds,
  refl,
)
turn_more its (p ∷ pairs) pair old mid new turns absent moves there adds = (
  turns.0,
  turns.1,
  turns.2,
  turns.3,
  turns.4,
  turn_more its pairs pair turns.1 mid new turns.5 absent moves there adds,
)

-- the records of a list mention the names that they have
linked_mention : (l : List Found) (pair : Linked) → HasLinked l pair →
    pair.0.version ≤ mention l pair.0.page
linked_mention l pair has =
    let f = in_any (λ (g : Found). (name_of g.rec ≡ pair.0) × (g.rec.next ≡ pair.1)) l has in
    let bound : mention_at pair.0.page f.0.rec ≤ mention l pair.0.page =
    greatest_bound (mention_at pair.0.page) l f.0 f.1 in
    let page : f.0.rec.page ≡ pair.0.page = ap (λ (a : Link). a.page) f.2.0 in
    let version : f.0.rec.version ≡ pair.0.version = ap (λ (a : Link). a.version) f.2.0 in
    let at : version_of pair.0.page f.0.rec ≡ f.0.rec.version =
    cond-true (f.0.rec.page == pair.0.page) f.0.rec.version 0 (eq-eqb f.0.rec.page pair.0.page page) in
    omega (arith, bound, version, at)

-- of a transaction that is under way the records that were written are there, each linked to the next one
under_linked : (image : List Contents) (n : IndexState) (e : Entry) (x : Naming) →
    IsUnderWay image n e x → (k : ℕ) → k < e.done → k < length x.names →
    HasLinked (found_in n.notes) (get_or (linked x.names) k no_pair)
under_linked image n e x under k done within =
    let least = under.least in
    let less : k < x.noted_count = omega (arith, least, done) in
    let there : is_present (found_in n.notes) (name_at x k) ≡ true =
    under.noted k within ∙ lt-ltb k x.noted_count less in
    let f = found_named (found_in n.notes) (name_at x k) there in
    let long = pairs_long x.names in
    let inside : k < length (linked x.names) = omega (arith, long, within) in
    let named = f.2 ∙ sym (ap (λ (p : Linked). p.0) (pair_at x.names k within)) in
    let asked = All-contains
    (λ (g : Found). IsAsked n.config.protocol (found_in n.notes) n.config.logical x.names g.rec)
    (found_in n.notes) f.0 under.in_progress.begun.asked f.1 in
    let next = asked k no_pair inside named in
    any_in (λ (g : Found). (name_of g.rec ≡ (get_or (linked x.names) k no_pair).0)
    × (g.rec.next ≡ (get_or (linked x.names) k no_pair).1)) (found_in n.notes) f.0 f.1 (named, next.0)

-- ---- a record that was written

holds_within : (image : List Contents) (at : ℕ) (bytes spare : List ℕ) →
    slot_at image at ≡ complete bytes spare → at < length image
holds_within image at bytes spare is = elim (cases_lt at (length image)) [
  | inl lt ↦ lt
  | inr ge ↦ (let clash = sym (get_or_past image at blank ge) ∙ is in cc)
]

written_linked : {F : Type 0} (state : F → FlashState) (known new : DeviceState F) (asked : DueRecord) →
    WritesRecord state known new asked → Stands state new →
    HasLinked (found_in new.noted.notes) (asked.name, asked.link)
written_linked state known new asked writes stands =
    let notes = writes.open_noted.notes in
    let at = writes.at.0 in
    let after : List Note = set notes at (Holds writes.rec) in
    let held : new.noted.notes ≡ after = ap (λ (m : IndexState). m.notes) writes.noted in
    let matches = stands.matches in
    let as_long : length after ≡ length notes = length-set notes at (Holds writes.rec) in
    let slots : length after ≡ length (state new.flash).image =
    sym (ap (length {A = Note}) held) ∙ matches.noted.slots ∙ sym (ap slots_of matches.shape)
    ∙ sym matches.flash.slots in
    let inside : at < length after =
    subst (λ k. at < k) (sym slots) (holds_within (state new.flash).image at asked.text.bytes _ writes.image) in
    let here = get_or-set_same notes at (Holds writes.rec) Blank (subst (λ k. at < k) as_long inside) in
    subst (λ (l : List Note). HasLinked (found_in l) (asked.name, asked.link)) (sym held)
    (any_in (λ (g : Found). (name_of g.rec ≡ asked.name) × (g.rec.next ≡ asked.link)) (found_in after)
    (found at writes.rec) (noted_in after at writes.rec inside here) (writes.named, writes.linked))

-- ---- the one transaction that is open

abbrev pub entry_at : List PageWrite → ℕ → Entry
entry_at ws k = record { tag = 0; writes = ws; done = k; mark = Plain }

module _ {F : Type 0} (state : F → FlashState) (s : DeviceState F) (stands : Stands state s) where
  none_named : s.machine.entries ≡ [] → s.namings ≡ []
  none_named closed =
      by s.namings (subst (λ (es : List Entry). AllZip (IsOpenAs (state s.flash).image s.noted) es s.namings)
      closed stands.each)
    where
      by : (xs : List Naming) → AllZip (IsOpenAs (state s.flash).image s.noted) [] xs → xs ≡ []
      by [] h = refl
      by (x ∷ xs) h = absurd h

  pub one_named : (e : Entry) → s.machine.entries ≡ e ∷ [] → (x : Naming) × (s.namings ≡ x ∷ [])
  one_named e one =
      by s.namings (subst (λ (es : List Entry). AllZip (IsOpenAs (state s.flash).image s.noted) es s.namings)
      one stands.each)
    where
      by : (xs : List Naming) → AllZip (IsOpenAs (state s.flash).image s.noted) (e ∷ []) xs →
          (x : Naming) × (xs ≡ x ∷ [])
      by [] h = absurd h
      by (x ∷ []) h = (x, refl)
      by (x ∷ y ∷ ys) h = absurd h.1

  pub opened_as : (e : Entry) (x : Naming) → s.machine.entries ≡ e ∷ [] → s.namings ≡ x ∷ [] →
      IsOpenAs (state s.flash).image s.noted e x
  opened_as e x one named =
      (subst (λ (xs : List Naming). AllZip (IsOpenAs (state s.flash).image s.noted) (e ∷ []) xs) named
      (subst (λ (es : List Entry). AllZip (IsOpenAs (state s.flash).image s.noted) es s.namings) one
      stands.each)).0

-- its names stay
pub same_names : (before after : Naming) (olds news : List Naming) → olds ≡ before ∷ [] → news ≡ after ∷ [] →
    All (λ (x : Naming). Any (λ (b : Naming). b.names ≡ x.names) olds) news → after.names ≡ before.names
same_names before after olds news was is names =
    let some = All-head (λ (x : Naming). Any (λ (b : Naming). b.names ≡ x.names) olds) after []
    (subst (λ (l : List Naming). All (λ (x : Naming). Any (λ (b : Naming). b.names ≡ x.names) olds) l) is
    names) in
    let b = in_any (λ (b : Naming). b.names ≡ after.names) olds some in
    let same = Contains-one before b.0 (subst (λ (l : List Naming). Contains l b.0) was b.1) in
    sym b.2 ∙ sym (ap (λ (x : Naming). x.names) same)

-- ---- over the steps

-- so many buckets were written
pub record Turning {F : Type 0} (state : F → FlashState) (old now : DeviceState F) (ws : List PageWrite)
    (done : ℕ) : Type 0 where
  pub naming : Naming
  pub namings : now.namings ≡ naming ∷ []
  pub names : naming.names ≡ map (next_name old.noted) ws
  pub stands : Stands state now
  pub absent : (k : ℕ) → done ≤ k → k < length ws →
      is_present (records_in old.config.protocol (state now.flash).image)
      (get_or (map (next_name old.noted) ws) k no_name) ≡ false
  pub range : (k : ℕ) → k < length ws →
      (get_or (map (next_name old.noted) ws) k no_name).page < old.config.logical
  pub above : (k : ℕ) → k < length ws →
      mention (records_in old.config.protocol (state old.flash).image)
      (get_or (map (next_name old.noted) ws) k no_name).page
      < (get_or (map (next_name old.noted) ws) k no_name).version
  pub turns : WritesInTurn old.config (moment_of (state old.flash))
      (take done (linked (map (next_name old.noted) ws))) (moment_of (state now.flash))
  pub least : (k : ℕ) → k < done → (get_or (map (next_name old.noted) ws) k no_name).version
      ≤ mention_of now.noted (get_or (map (next_name old.noted) ws) k no_name).page
  pub later : (page : ℕ) → page < old.config.logical → mention_of old.noted page ≤ mention_of now.noted page

-- what is seen of a device on which nothing is open: what its tables mention
pub seen_closed : {F : Type 0} (state : F → FlashState) (s : DeviceState F) → Stands state s →
    s.machine.entries ≡ [] → IsSeen (mention_of s.noted) s
seen_closed state s stands closed = record {
  mentions = λ page. omega arith;
  names = λ page version named.
      let none = subst (λ (x : List Naming). IsNamedAt x page version) (none_named state s stands closed) named in
      let lt = none.2 in absurd (omega (arith, lt));
}

-- the transaction was opened
pub turning_first : {F : Type 0} (state : F → FlashState) (protocol : Protocol) (old new : DeviceState F)
    (ws : List PageWrite) (u : Unit {0}) → HoldsAlways state protocol old → Stands state old →
    old.machine.entries ≡ [] → Stands state new → new.machine.entries ≡ new_entry 0 ws ∷ [] →
    new.namings ≡ named_after old.noted ws (Ok u) old.namings → KeepsTables old new →
    Turning state old new ws 0
turning_first {F = F} state protocol old new ws u always was closed stands one named keeps =
    let names = map (next_name old.noted) ws in
    let x : Naming = record { names = names; noted_count = 0 } in
    let none = none_named state old was closed in
    let namings : new.namings ≡ x ∷ [] = named ∙ ap (λ (xs : List Naming). xs ++ x ∷ []) none in
    let its = opened_as state new stands (new_entry 0 ws) x one namings in
    let config : new.noted.config ≡ old.config =
    ap (λ (n : IndexState). n.config) keeps.noted ∙ always.its in
    let long : length names ≡ length ws = length-map ws (next_name old.noted) in
    let flash = ap (λ (f : F). moment_of (state f)) keeps.flash in
    let within : (k : ℕ) → k < length ws → (get_or names k no_name).page < old.config.logical = λ k lt.
    subst (λ (c : Config). (get_or names k no_name).page < c.logical) config
    (its.named.transaction.in_range k no_name (omega (arith, long, lt))).0 in
    let above : (k : ℕ) → k < length ws →
    mention (records_in old.config.protocol (state old.flash).image) (get_or names k no_name).page
    < (get_or names k no_name).version = λ k lt.
    let is = get_or-map (next_name old.noted) ws k no_write no_name lt in
    let page = within k lt in
    let most = always.mentions (get_or names k no_name).page
    (subst (λ (c : Config). (get_or names k no_name).page < c.logical) (sym always.its) page) in
    let version : (get_or names k no_name).version
    ≡ mention_of old.noted (get_or names k no_name).page + 1 =
    ap (λ (a : Link). a.version) is
    ∙ ap (λ (a : Link). mention_of old.noted a.page + 1) (sym is) in
    elim most [
      | inl less ↦ (
          let here = subst (λ (c : Config). mention (records_in c.protocol (state old.flash).image)
          (get_or names k no_name).page ≤ mention_of old.noted (get_or names k no_name).page)
          always.its less in
          omega (arith, here, version))
      | inr of ↦ (
          let lost = subst (λ (l : List Naming). IsNamedAt l (get_or names k no_name).page of.0) none of.1 in
          let out = lost.2 in absurd (omega (arith, out)))
    ] in
    record {
      naming = x;
      namings = namings;
      names = refl;
      stands = stands;
      absent = λ k low lt.
          subst (λ (m : Moment). is_present (records_in old.config.protocol m.image) (get_or names k no_name) ≡ false)
          (sym flash)
          (above_mention (records_in old.config.protocol (state old.flash).image) (get_or names k no_name)
          (above k lt));
      range = within;
      above = above;
      turns = flash;
      least = λ k lt. absurd (omega (arith, lt));
      later = λ page lt.
          let same : mention_of new.noted page ≡ mention_of old.noted page =
          ap (λ (n : IndexState). mention_of n page) keeps.noted in
          omega (arith, same);
    }

pub all_above : (n : IndexState) (ws : List PageWrite) (l : List Found) → ((k : ℕ) → k < length ws →
    mention l (get_or (map (next_name n) ws) k no_name).page < (get_or (map (next_name n) ws) k no_name).version) →
    All (λ (name : Link). mention l name.page < name.version) (map (next_name n) ws)
all_above n ws l above =
    let long : length (map (next_name n) ws) ≡ length ws = length-map ws (next_name n) in
    All-from_get_or (λ (name : Link). mention l name.page < name.version) (map (next_name n) ws) no_name
    (λ k lt. above k (omega (arith, long, lt)))

one_or_same : (b : Bool) (n m : ℕ) → n ≤ cond b (m + 1) m → m ≤ n → (b ≡ true → m + 1 ≤ n) → n ≡ cond b (m + 1) m
one_or_same true n m most least more = let up = more refl in omega (arith, most, up)
one_or_same false n m most least more = omega (arith, most, least)

module _ {F : Type 0} (state : F → FlashState) (protocol : Protocol) (old prev new : DeviceState F)
    (ws : List PageWrite) (k : ℕ) (so_far : Turning state old prev ws k)
    (was : HoldsAlways state protocol prev) (is : HoldsAlways state protocol new)
    (config : prev.config ≡ old.config) (machine : prev.machine ≡ writing old.machine.pages ws k)
    (stands : Stands state new) (tables : ExitsTables prev new)
    (moves : FlashMoves (state prev.flash) (state new.flash) false) (sure : new.unsure ≡ unsure.Nothing) where
  abbrev pub names : List Link
  names = map (next_name old.noted) ws

  abbrev pub pair : Linked
  pair = get_or (linked names) k no_pair

  config_now : new.config ≡ old.config
  config_now = tables.config ∙ config

  its : IsOpenAs (state prev.flash).image prev.noted (entry_at ws k) so_far.naming
  its = opened_as state prev so_far.stands (entry_at ws k) so_far.naming
      (ap (λ (m : ArrayState). m.entries) machine) so_far.namings

  as_long : length names ≡ length ws
  as_long = length-map ws (next_name old.noted)

  open_now : open_of prev 0 ≡ Some (entry_at ws k, so_far.naming)
  open_now =
      ap (λ (es : List Entry). find (λ (e, x). has_tag 0 e) (zip es prev.namings))
      (ap (λ (m : ArrayState). m.entries) machine)
      ∙ ap (λ (xs : List Naming). find (λ (e, x). has_tag 0 e) (zip (entry_at ws k ∷ []) xs)) so_far.namings

  next_now : next_of prev 0 ≡ Some (get_or names k no_name)
  next_now =
      ap (λ (o : Option (Entry × Naming)). option_map (λ (e, x). name_at x e.done) o) open_now
      ∙ ap (λ (l : List Link). Some (get_or l k no_name)) so_far.names

  risen : (page : ℕ) → page < old.config.logical → mention_of prev.noted page ≤ mention_of new.noted page
  risen page lt =
      elim (tables.mentions page (subst (λ (c : Config). page < c.logical) (sym (was.its ∙ config)) lt)) [
        | inl same ↦ omega (arith, same)
        | inr rose ↦ (let less = rose.0 in omega (arith, less))
      ]

  -- the step that is made adds the name of the next page alone
  abbrev pub AddsNext : Type 0
  AddsNext =
      AddsNames old.config (moment_of (state prev.flash)) (get_or names k no_name ∷ []) (moment_of (state new.flash))

  pub adds_next : ImageIsSound protocol →
      IfSome (next_of prev 0) (λ name. AddsOnly name (settlement_of state prev).noted new.noted) → AddsNext
  adds_next laws notes name here =
      let adds = subst (λ (o : Option Link). IfSome o
      (λ a. AddsOnly a (settlement_of state prev).noted new.noted)) next_now notes in
      let before : records_in old.config.protocol (state prev.flash).image
      ≡ found_in (settlement_of state prev).noted.notes =
      subst (λ (p : Protocol). records_in p (state prev.flash).image ≡ found_in (settlement_of state prev).noted.notes)
      (sym was.rule ∙ ap (λ (c : Config). c.protocol) config)
      (laws.records (state prev.flash) prev.noted prev.table prev.unsure so_far.stands.matches
      (can_take state prev so_far.stands) (ap (λ (c : Config). c.protocol) was.its ∙ was.rule)) in
      let after : records_in old.config.protocol (state new.flash).image ≡ found_in new.noted.notes =
      subst (λ (c : Config). records_in c.protocol (state new.flash).image ≡ found_in new.noted.notes) config_now
      (is.records sure) in
      elim (adds name (ap (λ (l : List Found). is_present l name) (sym after) ∙ here)) [
        | inl there ↦ inl (ap (λ (l : List Found). is_present l name) before ∙ there)
        | inr same ↦ inr (Contains-here (get_or names k no_name) [] name (sym same))
      ]

  -- with the record of the next page there
  module _ (within : k < length ws) (there : HasLinked (found_in new.noted.notes) pair) where
    turns_on : AddsNext → WritesInTurn old.config (moment_of (state old.flash)) (take (k + 1) (linked names))
        (moment_of (state new.flash))
    turns_on adds =
        let long = pairs_long names in
        let inside : k < length (linked names) = omega (arith, long, as_long, within) in
        let first : pair.0 ≡ get_or names k no_name =
        ap (λ (p : Linked). p.0) (pair_at names k (omega (arith, as_long, within))) in
        let shape : (state prev.flash).shape ≡ shape_of old.config = was.shape ∙ ap shape_of config in
        let on = subst (λ (x : Shape). Moves x (moment_of (state prev.flash)) false (moment_of (state new.flash)))
        shape moves in
        let here = subst (λ (c : Config). HasLinked (records_in c.protocol (state new.flash).image) pair) config_now
        (subst (λ (l : List Found). HasLinked l pair) (sym (is.records sure)) there) in
        subst (λ (l : List Linked). WritesInTurn old.config (moment_of (state old.flash)) l
        (moment_of (state new.flash))) (sym (take_more (linked names) k no_pair inside))
        (turn_more old.config (take k (linked names)) pair (moment_of (state old.flash))
        (moment_of (state prev.flash)) (moment_of (state new.flash)) so_far.turns
        (subst (λ (a : Link). is_present (records_in old.config.protocol (state prev.flash).image) a ≡ false)
        (sym first) (so_far.absent k (omega arith) within)) on here
        (subst (λ (a : Link). AddsNames old.config (moment_of (state prev.flash)) (a ∷ []) (moment_of (state new.flash)))
        (sym first) adds))

    least_here : (get_or names k no_name).version ≤ mention_of new.noted (get_or names k no_name).page
    least_here =
        let first : pair.0 ≡ get_or names k no_name =
        ap (λ (p : Linked). p.0) (pair_at names k (omega (arith, as_long, within))) in
        let low = subst (λ (a : Link). a.version ≤ mention (found_in new.noted.notes) a.page) first
        (linked_mention (found_in new.noted.notes) pair there) in
        let up = stands.matches.noted.mentioned (get_or names k no_name).page
        (subst (λ (c : Config). (get_or names k no_name).page < c.logical) (sym (is.its ∙ config_now))
        (so_far.range k within)) in
        omega (arith, low, up)

    least_on : (j : ℕ) → j < k + 1 →
        (get_or names j no_name).version ≤ mention_of new.noted (get_or names j no_name).page
    least_on j lt = elim (cases_lt j k) [
      | inl before ↦ (
          let low = so_far.least j before in
          let up = risen (get_or names j no_name).page (so_far.range j (omega (arith, before, within))) in
          omega (arith, low, up))
      | inr last ↦ (
          let at : k ≡ j = omega (arith, last, lt) in
          subst (λ i. (get_or names i no_name).version ≤ mention_of new.noted (get_or names i no_name).page) at
          least_here)
    ]

    later_on : (page : ℕ) → page < old.config.logical → mention_of old.noted page ≤ mention_of new.noted page
    later_on page lt =
        let low = so_far.later page lt in let up = risen page lt in omega (arith, low, up)

    -- all were written
    module _ (last : k + 1 ≡ length ws) where
      pub turned : AddsNext → WritesInTurn old.config (moment_of (state old.flash)) (linked names)
          (moment_of (state new.flash))
      turned adds =
          let long = pairs_long names in
          subst (λ (l : List Linked). WritesInTurn old.config (moment_of (state old.flash)) l
          (moment_of (state new.flash)))
          (take_all (k + 1) (linked names) (omega (arith, long, as_long, last))) (turns_on adds)

      pub mentioned : IsSeen (seen_more (mention_of old.noted) ws) new → (page : ℕ) → page < old.config.logical →
          mention_of new.noted page ≡ seen_more (mention_of old.noted) ws page
      mentioned seen page lt =
          one_or_same (list_any (is_of page) ws) (mention_of new.noted page) (mention_of old.noted page)
          (seen.mentions page) (later_on page lt) (λ some.
          let w = any_of (is_of page) ws some in
          let j = w.1.0 in
          let inside : j < length ws = w.1.1 in
          let name : get_or names j no_name ≡ next_name old.noted w.0 =
          get_or-map (next_name old.noted) ws j w.0 no_name inside ∙ ap (next_name old.noted) w.1.2 in
          let here = subst (λ (a : Link). a.version ≤ mention_of new.noted a.page) name
          (least_on j (omega (arith, inside, last))) in
          let tested = w.2 in
          let same : w.0.page ≡ page = grind (arith, nat_tests) in
          subst (λ p. mention_of old.noted p + 1 ≤ mention_of new.noted p) same here)

  -- the records of the pages that follow are not there: neither before the step, nor is one of them written in it
  absent_on : AddsNext → (j : ℕ) → k + 1 ≤ j → j < length ws →
      is_present (records_in old.config.protocol (state new.flash).image) (get_or names j no_name) ≡ false
  absent_on adds j low lt =
      let name = get_or names j no_name in
      elim (cases_Bool (is_present (records_in old.config.protocol (state new.flash).image) name)) [
        | inr gone ↦ gone
        | inl here ↦ elim (adds name here) [
          | inl there ↦ absurd (false≢true (sym (so_far.absent j (omega (arith, low)) lt) ∙ there))
          | inr own ↦ (
              let same = sym (Contains-one (get_or names k no_name) name own) in
              let distinct = subst (λ (l : List Link). AllPairs (λ a b. a.page ≢ b.page) l) so_far.names
              its.named.transaction.distinct in
              absurd (distinct k j no_name (omega (arith, low)) (omega (arith, as_long, lt))
              (sym (ap (λ (a : Link). a.page) same))))
        ]
      ]

  -- a page was written, and others are to come
  pub turning_more : ImageIsSound protocol →
      IfSome (next_of prev 0) (λ name. AddsOnly name (settlement_of state prev).noted new.noted) →
      new.machine ≡ writing old.machine.pages ws (k + 1) → k + 1 < length ws → Turning state old new ws (k + 1)
  turning_more laws notes after more =
      let adds = adds_next laws notes in
      let entries = ap (λ (m : ArrayState). m.entries) after in
      let x = one_named state new stands (entry_at ws (k + 1)) entries in
      let now = opened_as state new stands (entry_at ws (k + 1)) x.0 entries x.1 in
      let same : x.0.names ≡ names =
      same_names so_far.naming x.0 prev.namings new.namings so_far.namings x.1 tables.names ∙ so_far.names in
      let long : length x.0.names ≡ length ws = ap (length {A = Link}) same ∙ as_long in
      let within : k < length ws = omega (arith, more) in
      let there = subst (λ (l : List Link). HasLinked (found_in new.noted.notes) (get_or (linked l) k no_pair)) same
      (under_linked (state new.flash).image new.noted (entry_at ws (k + 1)) x.0 now.marked k (omega arith)
      (omega (arith, long, within))) in
      record {
        naming = x.0;
        namings = x.1;
        names = same;
        stands = stands;
        absent = absent_on adds;
        range = so_far.range;
        above = so_far.above;
        turns = turns_on within there adds;
        least = least_on within there;
        later = later_on within there;
      }

  -- ---- the last page

  module _ (last : k + 1 ≡ length ws)
      (stays : IfSome (next_of prev 0) (λ name.
      IsThere (settlement_of state prev).noted name →
      moment_of (state new.flash) ≡ moment_of (state prev.flash)))
      (brings : IfSome (open_of prev 0) (λ (e, x). BringsPage state prev new e x)) where
    abbrev name : Link
    name = name_at so_far.naming k

    name_is : name ≡ get_or names k no_name
    name_is = ap (λ (l : List Link). get_or l k no_name) so_far.names

    -- its record was not there yet
    not_there : IsThere (settlement_of state prev).noted name → moment_of (state new.flash)
        ≡ moment_of (state prev.flash) → (new.noted ≡ record (settlement_of state prev).noted { pins = new.noted.pins })
        → ⊥
    not_there there still noted =
        let now : is_present (found_in new.noted.notes) name ≡ true =
        ap (λ (n : IndexState). is_present (found_in n.notes) name) noted ∙ there in
        let held : is_present (records_in new.config.protocol (state new.flash).image) name ≡ true =
        ap (λ (l : List Found). is_present l name) (is.records sure) ∙ now in
        let before : is_present (records_in old.config.protocol (state prev.flash).image) name ≡ true =
        subst (λ (c : Config). is_present (records_in c.protocol (state prev.flash).image) name ≡ true) config_now
        (subst (λ (m : Moment). is_present (records_in new.config.protocol m.image) name ≡ true) still held) in
        let none = subst
        (λ (a : Link). is_present (records_in old.config.protocol (state prev.flash).image) a ≡ false) (sym name_is)
        (so_far.absent k (omega arith) (omega (arith, last))) in
        false≢true (sym none ∙ before)

    pub last_there : HasLinked (found_in new.noted.notes) pair
    last_there =
        let page : BringsPage state prev new (entry_at ws k) so_far.naming =
        subst (λ (o : Option (Entry × Naming)). IfSome o (λ (e, x). BringsPage state prev new e x)) open_now brings in
        let still : IsThere (settlement_of state prev).noted name →
        moment_of (state new.flash) ≡ moment_of (state prev.flash) =
        subst (λ (o : Option (Entry × Naming)). IfSome (option_map (λ (e, x). name_at x e.done) o) (λ a.
        IsThere (settlement_of state prev).noted a →
        moment_of (state new.flash) ≡ moment_of (state prev.flash))) open_now stays in
        let writes = page.absent (λ there. not_there there (still there) (page.there there).tables.noted) in
        let within : k < length names = omega (arith, as_long, last) in
        let asked : (name_at so_far.naming k, name_at so_far.naming (link_place (entry_at ws k)))
        ≡ (get_or names k no_name, get_or (next_names names) k no_name) =
        ap (λ (l : List Link). (get_or l k no_name, get_or l (link_place (entry_at ws k)) no_name)) so_far.names
        ∙ ap (λ (n : ℕ). (get_or names k no_name, get_or names (if k + 1 == n then 0 else k + 1) no_name))
        (sym as_long)
        ∙ ap (λ (a : Link). (get_or names k no_name, a)) (sym (rounded_at names k no_name within)) in
        subst (HasLinked (found_in new.noted.notes)) (asked ∙ sym (pair_at names k within))
        (written_linked state (with_settlement state prev) new
        (due_record prev.config.page_bytes (entry_at ws k) so_far.naming) writes stands)
