-- What each command costs.
use Rattle.cut_replay.proofs.Common.{◌≡◌, ◌⊎◌, ℕ, ◌+◌, ◌<◌, ◌≤◌, Bool, true, false, not, List, [], ◌∷◌, cond, length, Option, Some, None, Result, Ok, Err, refl, sym, ap, ◌∙◌, subst, inl, inr, arith, IfSome, Config, Protocol, FlashState, Moment, moment_of, mention, IndexState, ArrayState, DeviceState, HoldsAlways, Command, Reply}
use Rattle.std.proofs.Common.{◌-◌, ◌*◌, ◌==◌, eq-eqb, zero, suc, ap₂}
use Rattle.std.specs.Prelude.{MatchOption, min, drop, map, slice_index_or, if◌then◌else◌}
use Rattle.std.specs.List.{AllZip, find, zip}
use Rattle.std.specs.Option.{option_map}
use Rattle.std.proofs.lemmas.Bool.{ne_eqb, cases_eq, cond-true}
use Rattle.std.proofs.Math.ListN.{length-map}
use Rattle.std.proofs.Math.Nat.{mul-le-mul_right}
use Rattle.tx_types.specs.Batch.{PageWrite, no_write}
use Rattle.tx_types.specs.Config.{shape_of, blocks_of}
use Rattle.tx_types.specs.declared.record.Link.{Link}
use Rattle.flash_model.specs.Flash.{Contents, counted, counted_by}
use Rattle.flash_model.specs.Operations.{Load, fire, after}
use Rattle.record_list.specs.declared.found.Found.{Found}
use Rattle.judged_records.specs.Images.{records_in}
use Rattle.judged_records.specs.IndexState.{IsNoted}
use Rattle.judged_records.specs.Notes.{found_in}
use Rattle.collector.specs.Settling.{settlement}
use Rattle.collector.specs.declared.unsure.Unsure.{Unsure}
use Rattle.collector.specs.declared.unsure.Unsure.TheVariants as unsure
unfoldable use Rattle.collector.specs.Going.{blocks_to_go}
use Rattle.array_machine.specs.ArrayState.{Entry, entry_of, has_tag}
use Rattle.array_machine.specs.Step.{StepGives, settled, settled_entry}
use Rattle.array_machine.specs.declared.answers.Moved.{Moved}
use Rattle.array_machine.specs.declared.answers.Progress.{Progress}
use Rattle.array_machine.specs.declared.answers.StepError.{StepError}
use Rattle.array_machine.specs.declared.answers.StepError.TheVariants as failed
use Rattle.open_table.specs.OpenTransactionsState.{Naming, TransactionState, name_at, no_name, write_at}
use Rattle.tx_types.specs.declared.config.Slot.{Slot}
use Rattle.tx_engine.specs.Batches.{MovesDevice, StepsFirst, chosen_of, loads_of}
use Rattle.tx_engine.specs.Costs.{StepCosts, most_collected, most_to_go}
use Rattle.tx_engine.specs.DeviceCalls.{StepsDevice}
use Rattle.tx_engine.specs.DeviceState.{IsOpenAs, Stands}
use Rattle.tx_engine.specs.Exits.{is_there}
use Rattle.tx_engine.specs.Settling.{settlement_of, with_settlement}
use Rattle.tx_engine.proofs.OfLaws.GoingBlocks.{few_to_go}
use Rattle.host_protocol.specs.declared.command.Command.TheVariants as command
use Rattle.host_protocol.specs.declared.reply.Reply.TheVariants as reply
use Rattle.array_runs.specs.Run.{left_of, pages_left}
use Rattle.cut_replay.specs.FlashRun.{is_still}
use Rattle.cut_replay.specs.Costs.{CostsAtMost, CostsCommand, CostsPages, CostsStep, CostsTogether, blocks_going, next_version}
use Rattle.cut_replay.proofs.StepBlocks.{going_more, names_long, version_seen}
use Rattle.cut_replay.proofs.CollectionCosts.{known_config}

-- ---- costs of more pages

pub costs_still : (its : Config) (pages collections : ℕ) (old new : Moment) → new ≡ old →
    CostsAtMost its pages collections old new
costs_still its pages collections old new same = record {
  programs = (let e = ap (λ (m : Moment). m.programs) same in omega (arith, e));
  erases = (let e = ap (λ (m : Moment). m.erases) same in omega (arith, e));
}

then_programs : (q p1 p2 c1 c2 a b c : ℕ) → b ≤ a + p1 + c1 * q → c ≤ b + p2 + c2 * q →
    c ≤ a + (p1 + p2) + (c1 + c2) * q
then_programs q p1 p2 c1 c2 a b c first second = omega (arith, first, second)

costs_then : (its : Config) (p1 p2 c1 c2 : ℕ) (a b c : Moment) → CostsAtMost its p1 c1 a b → CostsAtMost its p2 c2 b c →
    CostsAtMost its (p1 + p2) (c1 + c2) a c
costs_then its p1 p2 c1 c2 a b c first second = record {
  programs = then_programs (its.pages_per_block - 1) p1 p2 c1 c2 a.programs b.programs c.programs first.programs
      second.programs;
  erases = (let low = first.erases in let high = second.erases in omega (arith, low, high));
}

more_programs : (q p p' c c' a b : ℕ) → p ≤ p' → c * q ≤ c' * q → b ≤ a + p + c * q → b ≤ a + p' + c' * q
more_programs q p p' c c' a b pages more low = omega (arith, pages, more, low)

costs_more : (its : Config) (p p' c c' : ℕ) (a b : Moment) → p ≤ p' → c ≤ c' → CostsAtMost its p c a b →
    CostsAtMost its p' c' a b
costs_more its p p' c c' a b pages collections h =
    let more : c * (its.pages_per_block - 1) ≤ c' * (its.pages_per_block - 1) =
    mul-le-mul_right (its.pages_per_block - 1) collections in
    record {
      programs = more_programs (its.pages_per_block - 1) p p' c c' a.programs b.programs pages more h.programs;
      erases = (let low = h.erases in omega (arith, low, collections));
    }

pub pages_more : (its : Config) (k k' : ℕ) (a b : Moment) → k ≤ k' → CostsPages its k a b → CostsPages its k' a b
pages_more its k k' a b le h =
    costs_more its k k' (k * most_collected its) (k' * most_collected its) a b le
    (mul-le-mul_right (most_collected its) le) h

-- pages after a page
sum_of : (k j m c : ℕ) → (k + j) * c ≤ m * c → k * c + j * c ≤ m * c
sum_of k j m c le = omega (arith, le)

pub pages_then : (its : Config) (k j m : ℕ) (a b c : Moment) → k + j ≤ m → CostsPages its k a b → CostsPages its j b c →
    CostsPages its m a c
pages_then its k j m a b c le first second =
    costs_more its (k + j) m (k * most_collected its + j * most_collected its) (m * most_collected its) a c le
    (sum_of k j m (most_collected its) (mul-le-mul_right (most_collected its) le))
    (costs_then its k j (k * most_collected its) (j * most_collected its) a b c first second)

-- ---- a step

-- where a transaction is open it has a page to write, whose costs are known
found_or : (b : Bool) (e : Entry) (x : Naming) (o : Option (Entry × Naming)) (p : Option Entry)
    (P : Entry → Link → Type 0) (Q : Link → Type 0) → P e (name_at x e.done) →
    (IfSome (option_map (λ (e, x). name_at x e.done) o) Q → IfSome p (λ e. (name : Link) × P e name × Q name)) →
    IfSome (option_map (λ (e, x). name_at x e.done) (cond b (Some (e, x)) o)) Q →
    IfSome (cond b (Some e) p) (λ e. (name : Link) × P e name × Q name)
found_or true e x o p P Q is rest h = (name_at x e.done, is, h)
found_or false e x o p P Q is rest h = rest h

open_entry : (tag : ℕ) (R : Entry → Naming → Type 0) (P : Entry → Link → Type 0) (Q : Link → Type 0) →
    ((e : Entry) → (x : Naming) → R e x → P e (name_at x e.done)) →
    (es : List Entry) (xs : List Naming) → AllZip R es xs →
    IfSome (option_map (λ (e, x). name_at x e.done) (find (λ (e, x). has_tag tag e) (zip es xs))) Q →
    IfSome (entry_of tag es) (λ e. (name : Link) × P e name × Q name)
open_entry tag R P Q is [] xs all h = tt
open_entry tag R P Q is (e ∷ es) [] all h = absurd all
open_entry tag R P Q is (e ∷ es) (x ∷ xs) all h =
    found_or (has_tag tag e) e x (find (λ (e, x). has_tag tag e) (zip es xs)) (entry_of tag es) P Q
    (is e x all.0) (open_entry tag R P Q is es xs all.1) h

-- the page that a name is of is the one that is written under it
named_page : (names : List Link) (writes : List PageWrite) (k : ℕ) → map (λ name. name.page) names
    ≡ map (λ w. w.page) writes → k < length writes →
    (slice_index_or names k no_name).page ≡ (slice_index_or writes k no_write).page
named_page [] [] k same low = absurd (omega (arith, low))
named_page [] (w ∷ ws) k same low = cc
named_page (name ∷ names) [] k same low = absurd (omega (arith, low))
named_page (name ∷ names) (w ∷ ws) zero same low = ap (λ (l : List ℕ). slice_index_or l 0 0) same
named_page (name ∷ names) (w ∷ ws) (suc k) same low =
    named_page names ws k (ap (drop 1) same) (omega (arith, low))

-- a page is left, and how high its name is, where a page was written before it
record IsDue (list : List Found) (e : Entry) (name : Link) : Type 0 where
  within : e.done < length e.writes
  page : name.page ≡ (write_at e e.done).page
  least : (k : ℕ) → k + 1 ≡ e.done → name.version ≤ mention list name.page

is_due : (image : List Contents) (n : IndexState) → IsNoted n.config.protocol n → (e : Entry) (x : Naming) →
    IsOpenAs image n e x → IsDue (found_in n.notes) e (name_at x e.done)
is_due image n noted e x is = record {
  within = is.named.within;
  page = named_page x.names e.writes e.done is.named.pages is.named.within;
  least = λ k next. version_seen image n e x e.mark is.marked noted k next
      (subst (λ m. e.done < m) (sym (names_long x.names e.writes is.named.pages)) is.named.within);
}

-- so the records that must go are those below its version
due_version : (list : List Found) (e : Entry) (name : Link) → IsDue list e name →
    (name.version ≤ next_version list e) ⊎ (mention list name.page < next_version list e)
due_version list e name due =
    subst (λ (page : ℕ). (name.version ≤ mention list page + (if e.done == 0 then 1 else 0))
    ⊎ (mention list name.page < mention list page + (if e.done == 0 then 1 else 0))) due.page
    (elim (cases_eq e.done 0) [
      | inl none ↦ (
          let one : ◌≡◌ {A = ℕ} (if e.done == 0 then 1 else 0) 1 =
          cond-true (e.done == 0) 1 0 (eq-eqb e.done 0 none) in
          inr (omega (arith, one)))
      | inr some ↦ (
          let least = due.least (e.done - 1) (omega (arith, some)) in
          inl (omega (arith, least)))
    ])

one_page : (b m q old new : ℕ) → (b + 1) * q ≤ (m + 1) * q → new ≤ old + (b + 1) * q + 1 →
    new ≤ old + 1 + (m + 1) * q
one_page b m q old new more low = omega (arith, more, low)

module _ {F : Type 0} (state : F → FlashState) (protocol : Protocol) (old new : DeviceState F)
    (always : HoldsAlways state protocol old) where
  abbrev m0 : Moment
  m0 = moment_of (state old.flash)

  abbrev m1 : Moment
  m1 = moment_of (state new.flash)

  page_costs : (name : Link) → StepCosts state (with_settlement state old) new name → CostsPages old.config 1 m0 m1
  page_costs name h =
      let same = known_config state protocol old always in
      let few : blocks_to_go (settlement_of state old).noted name.page name.version
      ≤ most_to_go old.config.protocol (blocks_of (shape_of old.config)) =
      subst (λ (c : Config). blocks_to_go (settlement_of state old).noted name.page name.version
      ≤ most_to_go c.protocol (blocks_of (shape_of c))) same
      (few_to_go (settlement_of state old).noted name.page name.version) in
      let most = most_to_go old.config.protocol (blocks_of (shape_of old.config)) in
      let going = blocks_to_go (settlement_of state old).noted name.page name.version in
      let more : (going + 1) * (old.config.pages_per_block - 1) ≤ (most + 1) * (old.config.pages_per_block - 1) =
      mul-le-mul_right (old.config.pages_per_block - 1) (omega (arith, few)) in
      costs_more old.config 1 1 (most_collected old.config) (1 * most_collected old.config) m0 m1 (omega arith)
      (omega arith)
      (record {
        programs = one_page going most (old.config.pages_per_block - 1) m0.programs m1.programs more h.programs;
        erases = (let low = h.erases in omega (arith, low, few));
      })

  by_entry : (tag : ℕ) (result : Result Progress StepError) (there : Bool) → (o : Option Entry) →
      (result ≡ Err failed.Unknown → new ≡ old) →
      IfSome o (λ e. (name : Link) × IsDue (found_in old.noted.notes) e name
      × StepCosts state (with_settlement state old) new name) →
      MatchOption o ((result ≡ Err failed.Unknown) × (new.machine ≡ old.machine))
      (λ e. StepGives old.machine (settled there old.machine) tag (settled_entry there e) result new.machine) →
      CostsPages old.config (min 1 (left_of o)) m0 m1
  by_entry tag result there None unknown costs steps =
      costs_still old.config (min 1 0) (min 1 0 * most_collected old.config) m0 m1
      (ap (λ (s : DeviceState F). moment_of (state s.flash)) (unknown steps.0))
  by_entry tag result there (Some e) unknown costs steps =
      let low = costs.1.within in
      pages_more old.config 1 (min 1 (length e.writes - e.done)) m0 m1 (omega (arith, low))
      (page_costs costs.0 costs.2)

  -- what is so of the next page of an open transaction
  due_costs : (tag : ℕ) (result : Result Progress StepError) → Stands state old → StepsDevice state old new tag result →
      IfSome (entry_of tag old.machine.entries) (λ e. (name : Link) × IsDue (found_in old.noted.notes) e name
      × StepCosts state (with_settlement state old) new name)
  due_costs tag result stands h =
      open_entry tag (IsOpenAs (state old.flash).image old.noted) (IsDue (found_in old.noted.notes))
      (λ name. StepCosts state (with_settlement state old) new name)
      (is_due (state old.flash).image old.noted stands.matches.noted) old.machine.entries old.namings stands.each h.costs

  pub step_costs : (tag : ℕ) (result : Result Progress StepError) → Stands state old →
      StepsDevice state old new tag result → CostsPages old.config (min 1 (pages_left tag old.machine)) m0 m1
  step_costs tag result stands h =
      by_entry tag result (is_there state old) (entry_of tag old.machine.entries) h.unknown
      (due_costs tag result stands h) h.steps

  -- where nothing was unsure the image has the records that are noted
  going_known : (name : Link) → old.unsure ≡ unsure.Nothing →
      blocks_to_go (settlement_of state old).noted name.page name.version
      ≡ blocks_going old.config (records_in old.config.protocol (state old.flash).image) name.page name.version
  unfolding blocks_to_go
  going_known name sure =
      ap (λ (u : Unsure). blocks_going (settlement old.noted old.table (state old.flash).image u).noted.config
      (found_in (settlement old.noted old.table (state old.flash).image u).noted.notes) name.page name.version) sure
      ∙ ap₂ (λ (c : Config) (l : List Found). blocks_going c l name.page name.version) always.its
      (sym (always.records sure))

  direct_costs : (name : Link) → StepCosts state (with_settlement state old) new name → old.unsure ≡ unsure.Nothing →
      CostsAtMost old.config 1 (blocks_going old.config (records_in old.config.protocol (state old.flash).image)
      name.page name.version + 1) m0 m1
  direct_costs name h sure =
      subst (λ n. CostsAtMost old.config 1 (n + 1) m0 m1) (going_known name sure) (record {
        programs = one_page (blocks_to_go (settlement_of state old).noted name.page name.version)
            (blocks_to_go (settlement_of state old).noted name.page name.version) (old.config.pages_per_block - 1)
            m0.programs m1.programs (omega arith) h.programs;
        erases = (let low = h.erases in omega (arith, low));
      })

  abbrev known : List Found
  known = records_in old.config.protocol (state old.flash).image

  entry_direct : (o : Option Entry) → old.unsure ≡ unsure.Nothing →
      IfSome o (λ e. (name : Link) × IsDue (found_in old.noted.notes) e name
      × StepCosts state (with_settlement state old) new name) →
      IfSome o (λ e. CostsAtMost old.config 1
      (blocks_going old.config known (write_at e e.done).page (next_version known e) + 1) m0 m1)
  entry_direct None sure costs = tt
  entry_direct (Some e) sure costs =
      let name = costs.0 in
      let due : IsDue known e name =
      subst (λ (l : List Found). IsDue l e name) (sym (always.records sure)) costs.1 in
      let more = going_more old.config known name.page name.version (next_version known e)
      (due_version known e name due) in
      subst (λ page. CostsAtMost old.config 1 (blocks_going old.config known page (next_version known e) + 1) m0 m1)
      due.page
      (costs_more old.config 1 1 (blocks_going old.config known name.page name.version + 1)
      (blocks_going old.config known name.page (next_version known e) + 1) m0 m1 (omega arith) (omega (arith, more))
      (direct_costs name costs.2 sure))

  pub step_direct : (tag : ℕ) (result : Result Progress StepError) → Stands state old →
      StepsDevice state old new tag result → old.unsure ≡ unsure.Nothing →
      CostsStep old.config (command.Step tag) old.machine m0 m1
  step_direct tag result stands h sure =
      entry_direct (entry_of tag old.machine.entries) sure (due_costs tag result stands h)

  -- ---- several at once

  counted_some : (n : ℕ) → 2 ≤ n → (if not (n == 0) then counted m0.started else m0.started) ≡ counted m0.started
  counted_some n some =
      ap (λ (b : Bool). if not b then counted m0.started else m0.started)
      (ne_eqb n 0 (λ none. absurd (omega (arith, some, none))))

  fired_costs : (loads : List Load) (moved : ℕ) → length loads ≡ moved →
      m1 ≡ after (state old.flash).shape m0 (fire loads) → CostsTogether old.config moved m0 m1
  fired_costs loads moved long is =
      let p : m1.programs ≡ counted_by (length loads) m0.programs = ap (λ (m : Moment). m.programs) is in
      let e : m1.erases ≡ m0.erases = ap (λ (m : Moment). m.erases) is in
      record {
        alone = λ few. record {
          programs = omega (arith, p, long);
          erases = omega (arith, e);
        };
        programs = λ many. p ∙ ap (λ n. counted_by n m0.programs) long;
        erases = λ many. e;
        started = λ many. ap (λ (m : Moment). m.started) is
            ∙ counted_some (length loads) (omega (arith, many, long));
      }

  first_costs : (answer : Moved) → Stands state old → MovesDevice state old new answer → (es : List Entry) →
      old.machine.entries ≡ es → StepsFirst state old new answer es → CostsTogether old.config answer.moved m0 m1
  first_costs answer stands h [] is first =
      let none : answer.moved ≡ 0 = h.steps.none.1 is in
      record {
        alone = λ few. costs_still old.config answer.moved (answer.moved * most_collected old.config) m0 m1
            (h.nothing is).0;
        programs = λ many. absurd (omega (arith, many, none));
        erases = λ many. absurd (omega (arith, many, none));
        started = λ many. absurd (omega (arith, many, none));
      }
  first_costs answer stands h (e ∷ es) is first =
      let one = first.0 in
      let costs = step_costs e.tag (Ok first.1.0) stands first.1.1 in
      record {
        alone = λ few. pages_more old.config (min 1 (pages_left e.tag old.machine)) answer.moved m0 m1
            (omega (arith, one)) costs;
        programs = λ many. absurd (omega (arith, many, one));
        erases = λ many. absurd (omega (arith, many, one));
        started = λ many. absurd (omega (arith, many, one));
      }

  by_chosen : (answer : Moved) → Stands state old → MovesDevice state old new answer →
      (chosen : List (Slot × TransactionState)) → chosen_of state old ≡ chosen →
      CostsTogether old.config answer.moved m0 m1
  by_chosen answer stands h [] is =
      first_costs answer stands h old.machine.entries refl (h.alone is)
  by_chosen answer stands h (x ∷ xs) is =
      let both = h.together (λ none. (let no : x ∷ xs ≡ [] = sym is ∙ none in absurd cc)) in
      let loads = loads_of (with_settlement state old).noted (chosen_of state old) in
      fired_costs loads answer.moved (length-map (chosen_of state old) _ ∙ sym both.0) both.1.does.1

  pub moves_cost : (answer : Moved) → Stands state old → MovesDevice state old new answer →
      CostsTogether old.config answer.moved m0 m1
  moves_cost answer stands h = by_chosen answer stands h (chosen_of state old) refl

-- ---- commands

-- one that asks for no program and no erase
pub still_costs : (its : Config) (c : Command) (s : ArrayState) (r : Reply) (old new : Moment) → is_still c ≡ true →
    CostsCommand its c s r old new
still_costs its (command.Read page) s r old new still = tt
still_costs its (command.Write tag batch) s r old new still = tt
still_costs its (command.Step tag) s r old new still = cc
still_costs its (command.Finish tag) s r old new still = cc
still_costs its (command.Abort tag) s r old new still = tt
still_costs its command.StepAll s r old new still = cc
still_costs its command.Collect s r old new still = cc
still_costs its command.Stats s r old new still = tt
still_costs its command.Explain s r old new still = tt
still_costs its (command.Cut count what) s r old new still = tt
still_costs its (command.Fault count what) s r old new still = tt
still_costs its (command.BadRead count) s r old new still = tt

-- a fault by which power went off
pub cut_costs : (its : Config) (c : Command) (s : ArrayState) (old new : Moment) →
    CostsCommand its c s reply.Fault old new → CostsCommand its c s reply.Cut old new
cut_costs its (command.Read page) s old new h = h
cut_costs its (command.Write tag batch) s old new h = h
cut_costs its (command.Step tag) s old new h = h
cut_costs its (command.Finish tag) s old new h = h
cut_costs its (command.Abort tag) s old new h = h
cut_costs its command.StepAll s old new h = h
cut_costs its command.Collect s old new h = record {
  programs = h.programs;
  erases = h.erases;
  nothing = λ is. (let no : reply.Cut ≡ reply.Nothing = is in absurd cc);
}
cut_costs its command.Stats s old new h = h
cut_costs its command.Explain s old new h = h
cut_costs its (command.Cut count what) s old new h = h
cut_costs its (command.Fault count what) s old new h = h
cut_costs its (command.BadRead count) s old new h = h
