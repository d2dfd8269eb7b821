-- What the steps of a put keep of a device.
use Rattle.page_keys.proofs.Common.{◌≡◌, ℕ, ◌<◌, length, arith, Config, Protocol, HoldsAlways, put, idle, Bool, true, false, List, [], ◌∷◌, ◌++◌, if◌then◌else◌, Option, Some, None, Ok, Err, refl, sym, ap, subst, ◌∙◌, PageWrite, FlashState, Carries, moment_of, Carries-nothing, Carries-then, ArrayState, IsSeen, DeviceState, first_refusals, spent_page, SubmitError, array_in, Represents, is_spent, StepsAs, Moved, writing}
use Rattle.flash_model.proofs.MoveLemmas.{FlashMoves-nothing, FlashMoves-then}
use Rattle.array_machine.specs.ArrayState.{Entry, new_entry}
use Rattle.tx_engine.specs.Exits.{Exits}
use Rattle.array_machine.specs.Submit.{Limits, Submits, or_else, answer, opened, refusal}
use Rattle.array_machine.specs.declared.answers.SubmitError.TheVariants as submit
use Rattle.tx_engine.specs.Exits.{is_step_fault}
use Rattle.array_machine.specs.declared.answers.StepError.{StepError}
use Rattle.array_machine.specs.declared.answers.StepError.TheVariants as failed
use Rattle.std.specs.Prelude.{All, map}
use Rattle.tx_types.specs.declared.record.Link.{Link}
use Rattle.record_list.specs.Records.{mention}
use Rattle.judged_records.specs.Images.{records_in}
use Rattle.open_table.specs.OpenTransactionsState.{next_name}
use Rattle.array_machine.specs.declared.mark.Mark.{Mark}
use Rattle.page_keys.specs.BucketWrites.{WritesFirst}
use Rattle.page_keys.specs.PutCosts.{CostsPages}
use Rattle.page_keys.specs.Writing.{Breaks, seen_more}
use Rattle.page_keys.proofs.OfPut.PutGiven.{stands_idle}
use Rattle.page_keys.proofs.writing.write.Answers.Steps.{not_unknown, fault_leaves, fault_marks}

module _ {F : Type 0} (state : F → FlashState) where
  pub moved_nothing : (s t : DeviceState F) → t.config ≡ s.config → t.flash ≡ s.flash →
      Moved state s t false
  moved_nothing s t config flash = record {
    config = config;
    moves = FlashMoves-nothing (state s.flash) (state t.flash) false (ap (λ (f : F). moment_of (state f)) flash);
    carries = subst (λ (f : F). Carries (state s.flash) (state f) false) (sym flash)
        (Carries-nothing (state s.flash));
  }

  pub moved_then : (a b c : DeviceState F) (broken : Bool) → Moved state a b false →
      Exits state b c broken → Moved state a c broken
  moved_then a b c broken first second = record {
    config = second.tables.config ∙ first.config;
    moves = FlashMoves-then (state a.flash) (state b.flash) (state c.flash) broken first.carries.shape
        first.moves second.moves;
    carries = Carries-then (state a.flash) (state b.flash) (state c.flash) broken first.carries second.carries;
  }

-- at the end the image has the array with all writes
pub array_done : {F : Type 0} (state : F → FlashState) (protocol : Protocol) (old new : DeviceState F)
    (ws : List PageWrite) → HoldsAlways state protocol new → new.machine ≡ idle (put old.machine.pages ws) →
    new.config ≡ old.config →
    array_in old.config.protocol old.config.logical (state new.flash).image ≡ put old.machine.pages ws
array_done state protocol old new ws always machine config =
    let here = stands_idle new.machine _ (ap (λ (m : ArrayState). m.entries) machine) always.array in
    subst (λ (c : Config). array_in c.protocol c.logical (state new.flash).image ≡ put old.machine.pages ws) config
    (here ∙ ap (λ (m : ArrayState). m.pages) machine)

-- a fault in a step leaves the array of the image, or that with all writes
pub breaks_off : {F : Type 0} (state : F → FlashState) (old mid new : DeviceState F)
    (ws : List PageWrite) (k : ℕ) (there : Bool) (e : StepError) →
    ((seen : ℕ → ℕ) → IsSeen seen old → IsSeen (seen_more seen ws) new) →
    mid.machine ≡ writing old.machine.pages ws k →
    spent_page (is_spent old.noted.mentions) ws ≡ None → Moved state old mid false →
    StepsAs there mid.machine new.machine 0 (Err e) →
    Exits state mid new (is_step_fault (Err e)) →
    Represents new.machine
    (array_in new.config.protocol new.config.logical (state new.flash).image) →
    All (λ (name : Link). mention (records_in old.config.protocol (state old.flash).image) name.page < name.version)
    (map (next_name old.noted) ws) →
    CostsPages old.config (length ws) (moment_of (state old.flash)) (moment_of (state new.flash)) →
    ((mark : Mark) → new.machine.entries ≡ record { tag = 0; writes = ws; done = k; mark = mark } ∷ [] →
    Exits state mid new true →
    WritesFirst old.config (map (next_name old.noted) ws) (moment_of (state old.flash))
    (moment_of (state new.flash))) →
    Breaks state old new ws
breaks_off state old mid new ws k there failed.Unknown seen machine unspent moved steps exits stands above costs
    first =
    absurd (not_unknown old.machine.pages ws k new.machine there
    (subst (λ (m : ArrayState). StepsAs there m new.machine 0 (Err failed.Unknown)) machine steps))
breaks_off state old mid new ws k there failed.Fault seen machine unspent moved steps exits stands above costs first =
    let fault = subst (λ (m : ArrayState). StepsAs there m new.machine 0 (Err failed.Fault)) machine steps in
    let marks = fault_marks old.machine.pages ws k new.machine there fault in
    record {
      unspent = unspent;
      moved = moved_then state old mid new true moved exits;
      seen = seen;
      left = fault_leaves old.machine.pages ws k new.machine _ stands there fault;
      above = above;
      first = first marks.0 marks.1 exits;
      costs = costs;
    }

-- only a spent page is named
spent_head : (b : Bool) (page : ℕ) (rest : Option SubmitError) (e : SubmitError) →
    or_else (if b then Some (submit.Spent page) else None) rest ≡ Some e →
    (rest ≡ Some e → (p : ℕ) × (e ≡ submit.Spent p)) → (p : ℕ) × (e ≡ submit.Spent p)
spent_head true page rest e h later = (page, cc)
spent_head false page rest e h later = later h

only_spent_page : (spent : ℕ → Bool) (ws : List PageWrite) (e : SubmitError) →
    spent_page spent ws ≡ Some e → (p : ℕ) × (e ≡ submit.Spent p)
only_spent_page spent [] e is = cc
only_spent_page spent (w ∷ ws) e is =
    spent_head (spent w.page) w.page (spent_page spent ws) e is (only_spent_page spent ws e)

-- a batch that only a spent page may refuse, where nothing is open
module _ (limits : Limits) (spent : ℕ → Bool) (old new : ArrayState) (ws : List PageWrite)
    (closed : old.entries ≡ []) (fits : first_refusals limits [] 0 ws ≡ None) where
  its_refusal : refusal limits spent old.entries 0 ws ≡ spent_page spent ws
  its_refusal =
      ap (λ (es : List Entry). refusal limits spent es 0 ws) closed
      ∙ ap (λ (o : Option SubmitError). or_else o (spent_page spent ws)) fits

  accepted_of : (o : Option SubmitError) (u : Unit {0}) → Ok u ≡ answer o → o ≡ None
  accepted_of None u h = refl
  accepted_of (Some e) u h = cc

  refused_of : (o : Option SubmitError) (e : SubmitError) → Err e ≡ answer o → o ≡ Some e
  refused_of None e h = cc
  refused_of (Some x) e h = cc

  pub accepted : (u : Unit {0}) → Submits limits spent old new 0 ws (Ok u) →
      (spent_page spent ws ≡ None)
      × (new ≡ record old { entries = new_entry 0 ws ∷ [] })
  accepted u submits =
      let none = accepted_of _ u submits.answers in (
        sym its_refusal ∙ none,
        submits.opens ∙ ap (λ (o : Option SubmitError). opened o 0 ws old) none
            ∙ ap (λ (es : List Entry). record old { entries = es ++ new_entry 0 ws ∷ [] }) closed,
      )

  pub named_spent : (e : SubmitError) → Submits limits spent old new 0 ws (Err e) →
      ((p : ℕ) × (e ≡ submit.Spent p)) × (spent_page spent ws ≡ Some e) × (new ≡ old)
  named_spent e submits =
      let some = refused_of _ e submits.answers in
      let page = sym its_refusal ∙ some in (
        only_spent_page spent ws e page,
        page,
        submits.opens ∙ ap (λ (o : Option SubmitError). opened o 0 ws old) some,
      )

-- a batch that is not refused has a write
pub some_write : (limits : Limits) (ws : List PageWrite) → first_refusals limits [] 0 ws ≡ None →
    0 < length ws
some_write limits [] fits = cc
some_write limits (w ∷ ws) fits = omega arith
