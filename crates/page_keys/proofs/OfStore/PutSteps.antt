-- What the steps of a put cost.
use Rattle.page_keys.proofs.Common.{◌≡◌, ℕ, ◌+◌, ◌-◌, ◌≤◌, Bool, true, false, List, [], ◌∷◌, Option, Some, option_map, refl, ap, subst, ◌∙◌, arith, find, if◌then◌else◌, IfSome, PageWrite, Config, Protocol, shape_of, FlashState, Moment, moment_of, IndexState, HoldsAlways, ArrayState, DeviceState, writing}
use Rattle.std.proofs.Common.{◌*◌}
use Rattle.std.specs.List.{zip}
use Rattle.std.proofs.Math.Nat.{mul-le-mul_right}
use Rattle.tx_types.specs.Config.{blocks_of}
use Rattle.flash_model.specs.Flash.{Contents, blank, damaged, complete, slot_at}
use Rattle.tx_types.specs.declared.record.Link.{Link}
use Rattle.judged_records.specs.IndexState.{erased, lost, programmed}
use Rattle.collector.specs.Collecting.{is_blank_block}
use Rattle.collector.specs.Settling.{Settlement, block_reads_as_noted, block_settled, copy_settled, own_settled, settlement, unchanged, victim_settled}
use Rattle.collector.specs.declared.unsure.Settled.TheVariants as settled
use Rattle.collector.specs.declared.unsure.Unsure.{Unsure}
use Rattle.collector.specs.declared.unsure.Unsure.TheVariants as unsure
unfoldable use Rattle.collector.specs.Going.{blocks_to_go}
use Rattle.array_machine.specs.ArrayState.{Entry, has_tag}
use Rattle.open_table.specs.OpenTransactionsState.{Naming, name_at}
use Rattle.tx_engine.specs.Costs.{CostsStep, StepCosts, most_to_go}
use Rattle.tx_engine.specs.Settling.{settlement_of, with_settlement}
use Rattle.tx_engine.specs.Writing.{next_of, open_of}
use Rattle.tx_engine.proofs.OfLaws.GoingBlocks.{few_to_go}
use Rattle.page_keys.specs.PutCosts.{CostsPages}
use Rattle.page_keys.proofs.OfStore.Turns.{Turning, entry_at}

-- ---- the configuration stays where the place was read whose contents were not known

block_config : (n : IndexState) (block : ℕ) (b : Bool) → (if b then erased n block else lost n block).config ≡ n.config
block_config n block true = refl
block_config n block false = refl

copy_config : (n : IndexState) (from to : ℕ) (contents : Contents) → (copy_settled n from to contents).config ≡ n.config
copy_config n from to blank = refl
copy_config n from to damaged = refl
copy_config n from to (complete bytes spare) = refl

either_config : (b : Bool) (n : IndexState) (x y : Settlement) → x.noted.config ≡ n.config → y.noted.config ≡ n.config →
    (if b then x else y).noted.config ≡ n.config
either_config true n x y ex ey = ex
either_config false n x y ex ey = ey

module _ {F : Type 0} (s : DeviceState F) where
  own_config : (at : ℕ) (done : IndexState → IndexState) (contents : Contents) →
      (done s.noted).config ≡ s.noted.config →
      (own_settled s.noted s.table at done contents).noted.config ≡ s.noted.config
  own_config at done blank e = refl
  own_config at done damaged e = refl
  own_config at done (complete bytes spare) e = e

  settled_config : (image : List Contents) (u : Unsure) →
      (settlement s.noted s.table image u).noted.config ≡ s.noted.config
  settled_config image unsure.Nothing = refl
  settled_config image (unsure.Own at rec) = own_config at.0 (λ m. programmed m at.0 rec) (slot_at image at.0) refl
  settled_config image (unsure.Copy from to) = copy_config s.noted from.0 to.0 (slot_at image to.0)
  settled_config image unsure.SpareErase =
      either_config (block_reads_as_noted s.noted image s.table.spare) s.noted (unchanged s.noted s.table)
      (record { noted = block_settled s.noted image s.table.spare; table = s.table; answer = settled.Other }) refl
      (block_config s.noted s.table.spare (is_blank_block s.noted image s.table.spare))
  settled_config image (unsure.VictimErase block) =
      either_config (block_reads_as_noted s.noted image block.0) s.noted (unchanged s.noted s.table)
      (victim_settled s.noted s.table image block.0) refl
      (block_config s.noted block.0 (is_blank_block s.noted image block.0))

-- ---- costs of pages

pub costs_none : {F : Type 0} (state : F → FlashState) (its : Config) (old new : F) → new ≡ old →
    CostsPages its 0 (moment_of (state old)) (moment_of (state new))
costs_none {F = F} state its old new same = record {
  programs = (let e = ap (λ (f : F). (moment_of (state f)).programs) same in omega (arith, e));
  erases = (let e = ap (λ (f : F). (moment_of (state f)).erases) same in omega (arith, e));
}

more_of : (a b x y : ℕ) → x ≤ y → b ≤ a + x → b ≤ a + y
more_of a b x y more low = omega (arith, more, low)

-- more pages may cost more
pub costs_more : (its : Config) (k m : ℕ) (old new : Moment) → k ≤ m → CostsPages its k old new →
    CostsPages its m old new
costs_more its k m old new le h =
    let programs = most_to_go its.protocol (blocks_of (shape_of its)) + 1 in
    record {
      programs = more_of old.programs new.programs _ _
          (mul-le-mul_right (programs * (its.pages_per_block - 1) + 1) le) h.programs;
      erases = more_of old.erases new.erases _ _ (mul-le-mul_right (programs * 2) le) h.erases;
    }

one_more : (k q a b c : ℕ) → b ≤ a + k * q → c ≤ b + q → c ≤ a + (k + 1) * q
one_more k q a b c before more = omega (arith, before, more)

one_page : (b m q old new : ℕ) → (b + 1) * q ≤ (m + 1) * q → new ≤ old + (b + 1) * q + 1 →
    new ≤ old + ((m + 1) * q + 1)
one_page b m q old new more low = omega (arith, more, low)

-- ---- a step of the one transaction that is open

module _ {F : Type 0} (state : F → FlashState) (protocol : Protocol) (old prev new : DeviceState F)
    (ws : List PageWrite) (k : ℕ) (so_far : Turning state old prev ws k) (was : HoldsAlways state protocol prev)
    (config : prev.config ≡ old.config) (machine : prev.machine ≡ writing old.machine.pages ws k)
    (costs : CostsPages old.config k (moment_of (state old.flash)) (moment_of (state prev.flash))) where
  abbrev m1 : Moment
  m1 = moment_of (state prev.flash)

  abbrev m2 : Moment
  m2 = moment_of (state new.flash)

  named_costs : (name : Link) → StepCosts state (with_settlement state prev) new name →
      CostsPages old.config (k + 1) (moment_of (state old.flash)) m2
  named_costs name h =
      let known : (settlement_of state prev).noted.config ≡ old.config =
      settled_config prev (state prev.flash).image prev.unsure ∙ was.its ∙ config in
      let going = blocks_to_go (settlement_of state prev).noted name.page name.version in
      let most = most_to_go old.config.protocol (blocks_of (shape_of old.config)) in
      let slots = old.config.pages_per_block - 1 in
      let few : going ≤ most =
      subst (λ (c : Config). blocks_to_go (settlement_of state prev).noted name.page name.version
      ≤ most_to_go c.protocol (blocks_of (shape_of c))) known
      (few_to_go (settlement_of state prev).noted name.page name.version) in
      let more : (going + 1) * slots ≤ (most + 1) * slots = mul-le-mul_right slots (omega (arith, few)) in
      let programs : m2.programs ≤ m1.programs + (going + 1) * slots + 1 =
      subst (λ (c : Config). m2.programs ≤ m1.programs + (going + 1) * (c.pages_per_block - 1) + 1) config
      h.programs in
      let erases : m2.erases ≤ m1.erases + (most + 1) * 2 = (let low = h.erases in omega (arith, low, few)) in
      record {
        programs = one_more k ((most + 1) * slots + 1) (moment_of (state old.flash)).programs m1.programs m2.programs
            costs.programs (one_page going most slots m1.programs m2.programs more programs);
        erases = one_more k ((most + 1) * 2) (moment_of (state old.flash)).erases m1.erases m2.erases costs.erases
            erases;
      }

  open_now : open_of prev 0 ≡ Some (entry_at ws k, so_far.naming)
  open_now =
      ap (λ (es : List Entry). find (λ (e, x). has_tag 0 e) (zip es prev.namings))
      (ap (λ (m : ArrayState). m.entries) machine)
      ∙ ap (λ (xs : List Naming). find (λ (e, x). has_tag 0 e) (zip (entry_at ws k ∷ []) xs)) so_far.namings

  next_now : next_of prev 0 ≡ Some (name_at so_far.naming k)
  next_now = ap (λ (o : Option (Entry × Naming)). option_map (λ (e, x). name_at x e.done) o) open_now

  pub step_costs : CostsStep state prev new 0 →
      CostsPages old.config (k + 1) (moment_of (state old.flash)) m2
  step_costs h =
      named_costs (name_at so_far.naming k)
      (subst (λ (o : Option Link). IfSome o (StepCosts state (with_settlement state prev) new)) next_now h)
