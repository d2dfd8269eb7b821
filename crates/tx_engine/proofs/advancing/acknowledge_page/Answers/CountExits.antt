-- A page more of an open transaction is counted, the record of which is noted.
use Rattle.tx_engine.proofs.Common.{◌≡◌, ℕ, ◌+◌, ◌<◌, false, length, get_or, refl, sym, ap, ◌∙◌, subst, inl, inr, arith, slice_set, cases_eq, length-set, get_or-set_same, get_or-set_other, map-set_same, FlashState, Carries-nothing, FlashMoves-nothing, array_known, Plain, Exits, Stands, IsNamed, IsUnderWay, IsAsMarked, OpenTransactionsState, TransactionState, no_transaction, transaction_at, with_transaction, with_done, Counts, StoreState, device_in}
use Rattle.collector.specs.declared.unsure.Unsure.TheVariants as unsure
use Rattle.array_machine.specs.declared.answers.Progress.TheVariants as progress
use Rattle.tx_engine.proofs.OfDevice.Arrays.{as_many_names}
use Rattle.tx_engine.proofs.OfDevice.Kept.{BlocksInvariant, IsTransaction, IsCalm, HasSameParts, kept_with, to_stands}
use Rattle.tx_engine.proofs.OfDevice.HeldRecords.{held_same}
use Rattle.tx_engine.proofs.OfSettle.NextNoted.{names_before}
use Rattle.open_table.proofs.OfTransactions.OpenList.{first_of_own, with_first}
use Rattle.tx_engine.proofs.OfSettle.SettledLists.{calm_all, calm_at}
use Rattle.tx_engine.proofs.OfWrite.WriteAfter.{settled_kept}

module _ {F : Type 0} (state : F → FlashState) (S : StoreState F) (O O' : OpenTransactionsState) (i : ℕ)
    (h : Stands state (device_in state S O))
    (sure : S.unsure ≡ unsure.Nothing) (within : i < length O.all)
    (plain : (transaction_at O i).entry.mark ≡ Plain)
    (ready : (transaction_at O i).entry.done < (transaction_at O i).naming.noted_count)
    (opens : O' ≡ with_transaction O i (with_done (transaction_at O i) ((transaction_at O i).entry.done + 1))) where
  abbrev o : TransactionState
  o = transaction_at O i

  abbrev more : TransactionState
  more = with_done o (o.entry.done + 1)

  kept : BlocksInvariant (state S.flash) S.noted S.table unsure.Nothing O
  kept = settled_kept state S O h sure

  under : IsUnderWay (state S.flash).image S.noted o.entry o.naming
  under = subst (IsAsMarked (state S.flash).image S.noted o.entry o.naming) plain
      (kept.each i no_transaction within).marked

  named : IsNamed S.noted.config.page_bytes S.noted.config.logical o.entry o.naming
  named = (kept.each i no_transaction within).named

  one_left : o.entry.done + 1 < length o.entry.writes
  one_left = let long = as_many_names o.naming.names o.entry.writes named.pages in omega (arith, under.short, ready)

  more_transaction : IsTransaction (state S.flash).image S.noted more
  more_transaction = record {
    named = record { pages = named.pages; within = one_left; whole = named.whole; transaction = named.transaction };
    marked = subst (IsAsMarked (state S.flash).image S.noted more.entry o.naming) (sym plain)
        (record {
          in_progress = under.in_progress;
          least = omega (arith, ready);
          most = omega (arith, under.most);
          short = under.short;
          noted = under.noted;
          texts = under.texts;
        });
  }

  more_calm : (j : ℕ) → j < length (slice_set O.all i more) →
      IsCalm (get_or (slice_set O.all i more) j no_transaction).entry
  more_calm j inside = elim (cases_eq j i) [
    | inl is ↦ subst (λ (x : TransactionState). IsCalm x.entry)
        (sym (get_or-set_same O.all i more no_transaction within)
        ∙ ap (λ a. get_or (slice_set O.all i more) a no_transaction) (sym is))
        (calm_at O.all kept.doubt i within)
    | inr other ↦ subst (λ (x : TransactionState). IsCalm x.entry)
        (sym (get_or-set_other O.all i j more no_transaction other))
        (calm_at O.all kept.doubt j (subst (λ len. j < len) (length-set O.all i more) inside))
  ]

  parts : HasSameParts o more
  parts = record { tag = refl; writes = refl; names = refl }

  pub counted_stands : Stands state (device_in state S O')
  counted_stands =
      subst (λ t. Stands state (device_in state S t)) (sym opens)
      (to_stands state S (with_transaction O i more)
      (subst (λ u. BlocksInvariant (state S.flash) S.noted S.table u (with_transaction O i more)) (sym sure)
      (kept_with (state S.flash) (state S.flash) S.noted S.noted S.table S.table unsure.Nothing unsure.Nothing O i more
      kept within parts kept.matches refl refl
      (λ j inside other. kept.each j no_transaction inside) more_transaction
      (calm_all (slice_set O.all i more) more_calm))))

  pub counted_machine : (done all : ℕ) → done ≡ o.entry.done + 1 → all ≡ length o.entry.writes →
      Counts (device_in state S O).machine o.entry.tag o.entry (progress.Wrote done all) (device_in state S O').machine
  counted_machine done all is_done is_all = (
    plain,
    one_left,
    is_done,
    is_all,
    ap (λ t. (device_in state S t).machine) opens
        ∙ ap (λ es. record { pages = array_known S.noted (state S.flash).image; entries = es })
        (sym (with_first o.entry.tag O.all i more (first_of_own O.all i kept.tags within))),
  )

  pub counted_exits : Exits state (device_in state S O) (device_in state S O') false
  counted_exits = subst (λ t. Exits state (device_in state S O) (device_in state S t) false) (sym opens) (record {
    tables = record {
      config = refl;
      versions = λ page low. inr (refl, refl);
      mentions = λ page low. inl refl;
      names = names_before O.all (slice_set O.all i more) (map-set_same (λ (x : TransactionState). x.naming.names) O.all
          i more no_transaction refl);
      kept = refl;
    };
    moves = FlashMoves-nothing (state S.flash) (state S.flash) false refl;
    carries = Carries-nothing (state S.flash);
    held = held_same S.noted.config.protocol S.noted.config.logical (state S.flash).image (state S.flash).image refl;
  })
