-- What a collection costs, done or broken.
use Rattle.cut_replay.proofs.Common.{◌≡◌, ℕ, ◌+◌, ◌<◌, ◌≤◌, Bool, true, false, List, [], ◌∷◌, ◌++◌, length, Result, Ok, Err, refl, ap, ◌∙◌, subst, inl, inr, arith, cases_Bool, Config, Protocol, Shape, FlashState, Moment, moment_of, IndexState, DeviceState, HoldsAlways}
use Rattle.std.proofs.Common.{◌-◌, ◌*◌, ◌||◌}
use Rattle.std.specs.List.{range_with_len}
use Rattle.std.specs.Prelude.{if◌then◌else◌, IfOk, OnErr, count_by}
use Rattle.std.proofs.Math.ListN.{length-append}
use Rattle.std.proofs.lemmas.Bool.{not-true, or_parts}
use Rattle.list_lemmas.proofs.Counts.{count_some}
use Rattle.list_lemmas.proofs.Ranges.{filter_fewer, in_range}
use Rattle.flash_model.specs.Flash.{Contents, blank, damaged, complete, slot_at}
use Rattle.flash_model.specs.Moves.{Does}
use Rattle.flash_model.specs.Operations.{Operation, erase}
use Rattle.record_list.specs.Written.{is_slot}
use Rattle.judged_records.specs.Notes.{note_at}
use Rattle.judged_records.specs.IndexState.{erased, lost, programmed, needed_of, is_blank, is_garbage_at, shut_or_part}
use Rattle.judged_records.proofs.OfNotes.NotedFacts.{spare_garbage, other_garbage}
use Rattle.die_alloc.specs.BlocksState.{BlocksState, block_state}
use Rattle.collector.specs.BreakingOff.{BreaksOff, CopiedFirst, RoomBreaksOff, start_of}
use Rattle.collector.specs.Collecting.{HasUnneeded, cleaning, copies, is_blank_block, needed_slots, noted_cleaned}
use Rattle.collector.specs.Settling.{Settlement, block_reads_as_noted, block_settled, copy_settled, own_settled, settlement, unchanged, victim_settled}
use Rattle.collector.specs.Victim.{IsVictim, is_shut}
use Rattle.collector.specs.declared.unsure.Settled.TheVariants as settled
use Rattle.collector.specs.declared.unsure.Unsure.{Unsure}
use Rattle.collector.specs.declared.unsure.Unsure.TheVariants as unsure
use Rattle.collector.proofs.OfRoom.GoingCounts.{has_unneeded}
use Rattle.array_machine.specs.declared.answers.Collected.{Collected}
use Rattle.array_machine.specs.declared.answers.Collected.TheVariants as collected
use Rattle.array_machine.specs.declared.answers.Fault.{Fault}
use Rattle.tx_engine.specs.Breaking.{CollectBreaks}
use Rattle.tx_engine.specs.Collections.{CollectsTables}
use Rattle.tx_engine.specs.Settling.{settlement_of}
use Rattle.host_protocol.specs.declared.reply.Reply.TheVariants as reply
use Rattle.array_runs.specs.Run.{collect_reply}
use Rattle.cut_replay.specs.Costs.{CostsCollection}
use Rattle.cut_replay.proofs.Counting.{programs_in, erases_in, programs_append, erases_append, counts}

-- ---- the configuration stays where the place was read whose contents were not known

block_config : (n : IndexState) (block : ℕ) (b : Bool) → (if b then erased n block else lost n block).config ≡ n.config
block_config n block true = refl
block_config n block false = refl

own_config : (n : IndexState) (t : BlocksState) (at : ℕ) (done : IndexState → IndexState) (contents : Contents) →
    (done n).config ≡ n.config → (own_settled n t at done contents).noted.config ≡ n.config
own_config n t at done blank e = refl
own_config n t at done damaged e = refl
own_config n t at done (complete bytes spare) e = e

copy_config : (n : IndexState) (from to : ℕ) (contents : Contents) → (copy_settled n from to contents).config ≡ n.config
copy_config n from to blank = refl
copy_config n from to damaged = refl
copy_config n from to (complete bytes spare) = refl

either_config : (b : Bool) (n : IndexState) (x y : Settlement) → x.noted.config ≡ n.config → y.noted.config ≡ n.config →
    (if b then x else y).noted.config ≡ n.config
either_config true n x y ex ey = ex
either_config false n x y ex ey = ey

pub settled_config : (n : IndexState) (t : BlocksState) (image : List Contents) (u : Unsure) →
    (settlement n t image u).noted.config ≡ n.config
settled_config n t image unsure.Nothing = refl
settled_config n t image (unsure.Own at rec) = own_config n t at.0 (λ m. programmed m at.0 rec)
    (slot_at image at.0) refl
settled_config n t image (unsure.Copy from to) = copy_config n from.0 to.0 (slot_at image to.0)
settled_config n t image unsure.SpareErase =
    either_config (block_reads_as_noted n image t.spare) n (unchanged n t)
    (record { noted = block_settled n image t.spare; table = t; answer = settled.Other }) refl
    (block_config n t.spare (is_blank_block n image t.spare))
settled_config n t image (unsure.VictimErase block) =
    either_config (block_reads_as_noted n image block.0) n (unchanged n t) (victim_settled n t image block.0) refl
    (block_config n block.0 (is_blank_block n image block.0))

-- ---- fewer records are copied than a block has slots

garbage_unneeded : (n : IndexState) (shut : Bool) (slot : ℕ) → is_garbage_at n (shut_or_part shut) slot ≡ true →
    needed_of n slot ≡ false
garbage_unneeded n true slot e = not-true (needed_of n slot) e
garbage_unneeded n false slot e =
    (or_parts (is_blank (note_at n.notes slot)) (needed_of n slot)
    (not-true (is_blank (note_at n.notes slot) || needed_of n slot) e)).1

victim_unneeded : (n : IndexState) (t : BlocksState) (block : ℕ) → IsVictim n t block → HasUnneeded n block
victim_unneeded n t block v = elim (cases_Bool (is_slot block n.spare)) [
  | inl spare ↦ (
      let none = spare_garbage n block (is_shut (block_state t block)) spare in
      let more = v.some in
      absurd (omega (arith, none, more)))
  | inr other ↦ (
      let more : 0 < count_by (is_garbage_at n (shut_or_part (is_shut (block_state t block))))
      (range_with_len (block * n.config.pages_per_block) n.config.pages_per_block) =
      subst (λ k. 0 < k) (other_garbage n block (is_shut (block_state t block)) other) v.some in
      let one = count_some (is_garbage_at n (shut_or_part (is_shut (block_state t block))))
      (block * n.config.pages_per_block) n.config.pages_per_block more in
      has_unneeded n block one.at (in_range (block * n.config.pages_per_block) n.config.pages_per_block one.at
      one.low one.high)
      (garbage_unneeded n (is_shut (block_state t block)) one.at one.passes))
]

few_needed : (n : IndexState) (t : BlocksState) (block : ℕ) → IsVictim n t block →
    length (needed_slots n block) < n.config.pages_per_block
few_needed n t block v =
    filter_fewer (needed_of n) (block * n.config.pages_per_block) n.config.pages_per_block (victim_unneeded n t block v)

-- ---- its operations

programs_copies : (page_bytes : ℕ) (image : List Contents) (to : ℕ) (slots : List ℕ) →
    programs_in (copies page_bytes image to slots) ≡ length slots
programs_copies page_bytes image to [] = refl
programs_copies page_bytes image to (from ∷ rest) =
    (let h = programs_copies page_bytes image (to + 1) rest in omega (arith, h))

erases_copies : (page_bytes : ℕ) (image : List Contents) (to : ℕ) (slots : List ℕ) →
    erases_in (copies page_bytes image to slots) ≡ 0
erases_copies page_bytes image to [] = refl
erases_copies page_bytes image to (from ∷ rest) = erases_copies page_bytes image (to + 1) rest

erases_once : (b : Bool) (spare : ℕ) → erases_in (if b then [] else erase spare ∷ []) ≤ 1
erases_once true spare = omega arith
erases_once false spare = omega arith

programs_none : (b : Bool) (spare : ℕ) → programs_in (if b then [] else erase spare ∷ []) ≡ 0
programs_none true spare = refl
programs_none false spare = refl

-- so many programs at most, and so many erases
record Within (programs erases : ℕ) (old new : Moment) : Type 0 where
  programmed : new.programs ≤ old.programs + programs
  erased : new.erases ≤ old.erases + erases

still_within : (programs erases : ℕ) (old new : Moment) → new ≡ old → Within programs erases old new
still_within programs erases old new same = record {
  programmed = (let e = ap (λ (m : Moment). m.programs) same in omega (arith, e));
  erased = (let e = ap (λ (m : Moment). m.erases) same in omega (arith, e));
}

module _ (n : IndexState) (image : List Contents) (shape : Shape) (spare start : ℕ) (old : Moment) where
  -- the spare is made blank
  cleaned_within : (new : Moment) → Does shape old (cleaning n image spare) new → Within 0 1 old new
  cleaned_within new does =
      let c = counts shape old new (cleaning n image spare) does in
      let p = programs_none (is_blank_block n image spare) spare in
      let e = erases_once (is_blank_block n image spare) spare in
      record {
        programmed = (let low = c.programs in omega (arith, low, p));
        erased = (let low = c.erases in omega (arith, low, e));
      }

  module _ (page_bytes most : ℕ) (slots : List ℕ) (few : length slots < most) where
    abbrev made : List Operation
    made = copies page_bytes image start slots

    -- and these slots are copied
    copied_within : (new : Moment) → Does shape old (cleaning n image spare ++ made) new → Within (most - 1) 1 old new
    copied_within new does =
        let c = counts shape old new (cleaning n image spare ++ made) does in
        let p = programs_none (is_blank_block n image spare) spare in
        let e = erases_once (is_blank_block n image spare) spare in
        let ps = programs_append (cleaning n image spare) made in
        let es = erases_append (cleaning n image spare) made in
        let pc = programs_copies page_bytes image start slots in
        let ec = erases_copies page_bytes image start slots in
        record {
          programmed = (let low = c.programs in omega (arith, low, p, ps, pc, few));
          erased = (let low = c.erases in omega (arith, low, e, es, ec));
        }

    -- and the block is erased
    erased_within : (block : ℕ) (new : Moment) →
        Does shape old (cleaning n image spare ++ made ++ erase block ∷ []) new → Within (most - 1) 2 old new
    erased_within block new does =
        let c = counts shape old new (cleaning n image spare ++ made ++ erase block ∷ []) does in
        let p = programs_none (is_blank_block n image spare) spare in
        let e = erases_once (is_blank_block n image spare) spare in
        let ps = programs_append (cleaning n image spare) made in
        let es = erases_append (cleaning n image spare) made in
        let pl = programs_append (cleaning n image spare ++ made) (erase block ∷ []) in
        let el = erases_append (cleaning n image spare ++ made) (erase block ∷ []) in
        let pc = programs_copies page_bytes image start slots in
        let ec = erases_copies page_bytes image start slots in
        record {
          programmed = (let low = c.programs in omega (arith, low, p, ps, pl, pc, few));
          erased = (let low = c.erases in omega (arith, low, e, es, el, ec));
        }

-- ---- it breaks off

torn_within : (programs erases : ℕ) (old mid new : Moment) → new.programs ≡ mid.programs → new.erases ≡ mid.erases →
    Within programs erases old mid → Within programs erases old new
torn_within programs erases old mid new same_programs same_erases h = record {
  programmed = (let low = h.programmed in omega (arith, low, same_programs));
  erased = (let low = h.erased in omega (arith, low, same_erases));
}

module _ (n : IndexState) (old new : FlashState) (spare block : ℕ) (n' : IndexState)
    (few : length (needed_slots (noted_cleaned n spare) block) < n.config.pages_per_block) where
  first_few : (first rest : List ℕ) → needed_slots (noted_cleaned n spare) block ≡ first ++ rest →
      length first < n.config.pages_per_block
  first_few first rest order =
      let long : length (needed_slots (noted_cleaned n spare) block) ≡ length (first ++ rest) = ap length order in
      omega (arith, long, length-append first rest, few)

  first_within : (first rest : List ℕ) (now : Moment) →
      CopiedFirst (noted_cleaned n spare) old (cleaning n old.image spare) spare block first rest now n' →
      Within (n.config.pages_per_block - 1) 1 (moment_of old) now
  first_within first rest now h =
      copied_within n old.image old.shape spare (start_of n spare) (moment_of old) n.config.page_bytes
      n.config.pages_per_block first (first_few first rest h.order) now h.done

  broke_within : (u : Unsure) → BreaksOff n old new spare block n' u →
      Within (n.config.pages_per_block - 1) 1 (moment_of old) (moment_of new)
  broke_within unsure.SpareErase h =
      torn_within (n.config.pages_per_block - 1) 1 (moment_of old) (moment_of old) (moment_of new) h.0.torn.programs
      h.0.torn.erases (still_within (n.config.pages_per_block - 1) 1 (moment_of old) (moment_of old) refl)
  broke_within unsure.Nothing h = first_within h.first (h.from ∷ h.later) (moment_of new) h.copied
  broke_within (unsure.Copy from to) h =
      torn_within (n.config.pages_per_block - 1) 1 (moment_of old) h.between (moment_of new) h.torn.0.programs
      h.torn.0.erases (first_within h.first (from.0 ∷ h.later) h.between h.copied)
  broke_within (unsure.VictimErase b) h =
      torn_within (n.config.pages_per_block - 1) 1 (moment_of old) h.1.between (moment_of new) h.1.torn.programs
      h.1.torn.erases (first_within (needed_slots (noted_cleaned n spare) block) [] h.1.between h.1.copied)
  broke_within (unsure.Own at rec) h = absurd h

room_within : (n : IndexState) (t : BlocksState) (old new : FlashState) (n' : IndexState) (u : Unsure) →
    RoomBreaksOff n t old new n' u → Within (n.config.pages_per_block - 1) 1 (moment_of old) (moment_of new)
room_within n t old new n' u (inl h) =
    torn_within (n.config.pages_per_block - 1) 1 (moment_of old) (moment_of old) (moment_of new) h.1.torn.programs
    h.1.torn.erases (still_within (n.config.pages_per_block - 1) 1 (moment_of old) (moment_of old) refl)
room_within n t old new n' u (inr h) =
    broke_within n old new t.spare h.0 n' (few_needed (noted_cleaned n t.spare) t h.0 h.1) u h.2

-- ---- a call

module _ {F : Type 0} (state : F → FlashState) (old new : DeviceState F) where
  abbrev found : Settlement
  found = settlement_of state old

  abbrev m0 : Moment
  m0 = moment_of (state old.flash)

  abbrev m1 : Moment
  m1 = moment_of (state new.flash)

  breaks_within : CollectBreaks state old new → Within (found.noted.config.pages_per_block - 1) 1 m0 m1
  breaks_within (inl h) = still_within (found.noted.config.pages_per_block - 1) 1 m0 m1 h.moment
  breaks_within (inr h) =
      subst (λ (m : Moment). Within (found.noted.config.pages_per_block - 1) 1 m m1) h.moment
      (room_within found.noted found.table h.between (state new.flash) new.noted new.unsure h.breaks)

  nothing_within :
      CollectsTables (state old.flash) (state new.flash) found.noted new.noted found.table new.table collected.Nothing →
      Within 0 1 m0 m1
  nothing_within h =
      cleaned_within found.noted (state old.flash).image (state old.flash).shape found.table.spare 0 m0 m1 h.does

  collected_within : (answer : Collected) →
      CollectsTables (state old.flash) (state new.flash) found.noted new.noted found.table new.table answer →
      Within (found.noted.config.pages_per_block - 1) 2 m0 m1
  collected_within collected.One h =
      erased_within found.noted (state old.flash).image (state old.flash).shape found.table.spare
      (found.table.spare * found.noted.config.pages_per_block) m0 found.noted.config.page_bytes
      found.noted.config.pages_per_block (needed_slots (noted_cleaned found.noted found.table.spare) h.victim)
      (few_needed (noted_cleaned found.noted found.table.spare) found.table h.victim h.is_victim) h.victim m1 h.does
  collected_within collected.Nothing h =
      let c = nothing_within h in record {
        programmed = (let low = c.programmed in omega (arith, low));
        erased = (let low = c.erased in omega (arith, low));
      }

  module _ (its : Config) (same : found.noted.config ≡ its) where
    pub collect_costs : (result : Result Collected Fault) →
        IfOk result (CollectsTables (state old.flash) (state new.flash) found.noted new.noted found.table new.table) →
        OnErr result (CollectBreaks state old new) → CostsCollection its (collect_reply result) m0 m1
    collect_costs (Ok collected.One) tables breaks =
        let c = subst (λ (x : Config). Within (x.pages_per_block - 1) 2 m0 m1) same
        (collected_within collected.One tables) in
        record {
          programs = c.programmed;
          erases = c.erased;
          nothing = λ is. (let no : reply.Collected ≡ reply.Nothing = is in absurd cc);
        }
    collect_costs (Ok collected.Nothing) tables breaks =
        let c = subst (λ (x : Config). Within (x.pages_per_block - 1) 2 m0 m1) same
        (collected_within collected.Nothing tables) in
        let least = nothing_within tables in
        let programs = least.programmed in
        record {
          programs = c.programmed;
          erases = c.erased;
          nothing = λ is. (omega (arith, programs), least.erased);
        }
    collect_costs (Err fault) tables breaks =
        let c = subst (λ (x : Config). Within (x.pages_per_block - 1) 1 m0 m1) same (breaks_within breaks) in
        record {
          programs = c.programmed;
          erases = c.erased;
          nothing = λ is. (let no : reply.Fault ≡ reply.Nothing = is in absurd cc);
        }

-- by the tables that the device knows once the place was read
pub known_config : {F : Type 0} (state : F → FlashState) (protocol : Protocol) (s : DeviceState F) →
    HoldsAlways state protocol s → (settlement_of state s).noted.config ≡ s.config
known_config state protocol s always = settled_config s.noted s.table (state s.flash).image s.unsure ∙ always.its
