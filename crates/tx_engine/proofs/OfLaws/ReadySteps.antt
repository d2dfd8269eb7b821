-- A step of a device that is ready for it.
use Rattle.tx_engine.proofs.Common.{◌≡◌, ◌⊎◌, ℕ, List, [], ◌∷◌, Some, Result, Ok, Err, ap, subst, inl, inr, arith, option_map, is_present, cases_Bool, both_ways, Link, FlashState, Does, Moment, moment_of, program, spelling, found_in, IsThere, Unsure, Settlement, settlement, settlement_of, with_settlement, Entry, Progress, StepError, StepCosts, StepsDevice, DeviceState, Naming, name_at, BringsPage, due_record}
use Rattle.std.specs.Prelude.{IfSome, OnOk}
use Rattle.collector.specs.declared.unsure.Unsure.TheVariants as unsure
use Rattle.tx_engine.specs.Readying.{IsReadyToWrite}
use Rattle.tx_engine.specs.ReadySteps.{ReadyStepLaw, TakesOneProgram}
use Rattle.tx_engine.specs.Writing.{WritesRecord, open_of}

module _ {F : Type 0} (state : F → FlashState) (old new : DeviceState F) (tag : ℕ)
    (result : Result Progress StepError) (e : Entry) (x : Naming) (opened : open_of old tag ≡ Some (e, x))
    (sure : old.unsure ≡ unsure.Nothing) (h : StepsDevice state old new tag result) where
  abbrev name : Link
  name = name_at x e.done

  -- what is known of a settled device is what it has
  abbrev known_with : Unsure → Settlement
  known_with u = settlement old.noted old.table (state old.flash).image u

  abbrev with_known : Unsure → DeviceState F
  with_known u = record old { noted = (known_with u).noted; table = (known_with u).table }

  abbrev DoesNothing : Type 0
  DoesNothing = moment_of (state new.flash) ≡ moment_of (state old.flash)

  abbrev DoesOne : Type 0
  DoesOne = (at : ℕ) × (bytes : List ℕ) × (spare_area : List ℕ)
      × Does (state old.flash).shape (moment_of (state old.flash)) (program at bytes spare_area ∷ [])
      (moment_of (state new.flash))

  costs : StepCosts state old new name
  costs = subst (λ u. StepCosts state (with_known u) new name) sure
      (subst (λ o. IfSome (option_map (λ (e, x). name_at x e.done) o) (StepCosts state (with_settlement state old) new))
      opened h.costs)

  found : IsThere old.noted name → DoesNothing
  found = subst (λ u. IsThere (known_with u).noted name → DoesNothing) sure
      (subst (λ o. IfSome (option_map (λ (e, x). name_at x e.done) o)
      (λ name. IsThere (settlement_of state old).noted name → DoesNothing)) opened h.found)

  brings : OnOk result (BringsPage state old new e x)
  brings = subst (λ o. OnOk result (IfSome o (λ (e, x). BringsPage state old new e x))) opened h.brings

  writes : BringsPage state old new e x → (IsThere old.noted name → ⊥) →
      WritesRecord state old new (due_record old.config.page_bytes e x)
  writes b = subst (λ u. (IsThere (known_with u).noted name → ⊥) →
      WritesRecord state (with_known u) new (due_record old.config.page_bytes e x)) sure b.absent

  still : (r : Result Progress StepError) → DoesNothing → OnOk r (DoesNothing ⊎ DoesOne)
  still (Ok progress) same = inl same
  still (Err error) same = tt

  one : (IsThere old.noted name → ⊥) → IsReadyToWrite old.noted old.table name → (r : Result Progress StepError) →
      OnOk r (BringsPage state old new e x) → OnOk r (DoesNothing ⊎ DoesOne)
  one absent ready (Ok progress) b =
      let w = writes b absent in
      let bytes = (due_record old.config.page_bytes e x).text.bytes in
      let area = spelling w.open_noted.config.protocol w.rec in
      inr (
        w.at.0,
        bytes,
        area,
        subst (λ m. Does (state old.flash).shape m (program w.at.0 bytes area ∷ []) (moment_of (state new.flash)))
            (w.direct ready.none ready.room) w.does,
      )
  one absent ready (Err error) b = tt

  pub takes_one : ((IsThere old.noted name → ⊥) → IsReadyToWrite old.noted old.table name) →
      TakesOneProgram state old new result
  takes_one ready = elim (cases_Bool (is_present (found_in old.noted.notes) name)) [
    | inl here ↦ (
        let same = found here in
        let p = ap (λ (m : Moment). m.programs) same in
        record {
          programs = omega (arith, p);
          erases = ap (λ (m : Moment). m.erases) same;
          does = still result same;
        })
    | inr gone ↦ (
        let absent : IsThere old.noted name → ⊥ =
        λ here. both_ways (is_present (found_in old.noted.notes) name) gone here in
        let its = ready absent in
        let direct = costs.direct its.none its.room in
        record { programs = direct.0; erases = direct.1; does = one absent its result brings })
  ]

pub ready_step_law : {F : Type 0} (state : F → FlashState) → ReadyStepLaw state
ready_step_law state old new tag result e x opened sure ready h =
    takes_one state old new tag result e x opened sure h ready
