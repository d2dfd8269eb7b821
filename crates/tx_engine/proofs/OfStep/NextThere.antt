-- Whether the record of the next page of an open transaction is there, on a settled device.
use Rattle.tx_engine.proofs.Common.{◌≡◌, ℕ, ◌<◌, ◌≤◌, true, false, length, ◌∙◌, subst, inl, inr, arith, both_ways, lt-ltb, Link, FlashState, is_present, found_in, IndexState, current_of, noted_present, IsThere, Entry, Whole, OpenTransactionsState, no_transaction, transaction_at, AddsOnly, CountsOn, must_program, Naming, Stands, IsAsMarked, IsUnderWay, name_at, no_name, StoreState, device_in}
use Rattle.collector.specs.declared.unsure.Unsure.TheVariants as unsure
use Rattle.tx_engine.proofs.OfStep.AdvanceExits.{due_plain, not_due_ready}
use Rattle.tx_engine.proofs.OfDevice.Arrays.{as_many_names}
use Rattle.tx_engine.proofs.OfDevice.Kept.{BlocksInvariant}
use Rattle.tx_engine.proofs.OfStep.NextRecord.{due_absent}
use Rattle.tx_engine.proofs.OfWrite.WriteAfter.{settled_kept}

module _ {F : Type 0} (state : F → FlashState) (S : StoreState F) (O : OpenTransactionsState) (i : ℕ)
    (h : Stands state (device_in state S O))
    (sure : S.unsure ≡ unsure.Nothing) (within : i < length O.all) where
  abbrev e : Entry
  e = (transaction_at O i).entry

  abbrev x : Naming
  x = (transaction_at O i).naming

  abbrev name : Link
  name = name_at x e.done

  kept : BlocksInvariant (state S.flash) S.noted S.table unsure.Nothing O
  kept = settled_kept state S O h sure

  inside : e.done < length x.names
  inside = let named = (kept.each i no_transaction within).named in
      omega (arith, named.within, as_many_names x.names e.writes named.pages)

  -- its names are current where it is whole, and so they are there
  whole_there : e.mark ≡ Whole → IsThere S.noted name
  whole_there whole =
      let current : current_of S.noted name.page ≡ name.version =
      (subst (IsAsMarked (state S.flash).image S.noted e x) whole (kept.each i no_transaction within).marked) e.done
      no_name inside in
      let range = (kept.each i no_transaction within).named.transaction.in_range e.done no_name inside in
      let positive : 1 ≤ name.version = range.1 in
      elim (noted_present S.noted.config.protocol S.noted kept.matches.noted name.page) [
        | inl none ↦ absurd (omega (arith, none, current, positive))
        | inr here ↦ subst (λ v. is_present (found_in S.noted.notes) (record { page = name.page; version = v })
            ≡ true) current here
      ]

  ready_there : CountsOn (transaction_at O i) → IsThere S.noted name
  ready_there (inl whole) = whole_there whole
  ready_there (inr (plain, behind)) =
      let under : IsUnderWay (state S.flash).image S.noted e x =
      subst (IsAsMarked (state S.flash).image S.noted e x) plain
      (kept.each i no_transaction within).marked in
      under.noted e.done inside ∙ lt-ltb e.done x.noted_count behind

  -- what is not due is there, and what is due is not
  pub not_due_there : must_program (transaction_at O i) ≡ false → IsThere S.noted name
  not_due_there due = ready_there (not_due_ready state S O i h sure within due)

  pub due_not_there : must_program (transaction_at O i) ≡ true → IsThere S.noted name → ⊥
  due_not_there due here =
      let its = due_plain state S O i h sure within due in
      both_ways (is_present (found_in S.noted.notes) name) (due_absent (state S.flash) S.noted S.table O i kept within
      its.0 its.1) here

-- pins alone add no name
pub adds_pinned : (own : Link) (a b c : IndexState) → AddsOnly own a b → c ≡ record b { pins = c.pins } →
    AddsOnly own a c
adds_pinned own a b c first same name here = first name (subst (λ (m : IndexState). IsThere m name) same here)
