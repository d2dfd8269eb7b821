-- A device that settled, and of which an open transaction goes then.
use Rattle.tx_engine.proofs.Common.{◌≡◌, ◌≢◌, ◌⊎◌, ℕ, ◌<◌, Bool, false, List, length, map, get_or, Option, Some, None, Result, Ok, Err, refl, sym, ap, ap₂, ◌∙◌, subst, inl, inr, arith, eqb-true, position, remove, Any, length-map, get_or-map, All-from_get_or, All-map, all_remove, PageWrite, FlashState, Carries-nothing, FlashMoves-nothing, current_of, ArrayState, Entry, entry_of, has_tag, without, page_at, Mark, Plain, Doubt, Whole, Exits, VersionsRise, DeviceState, Naming, Stands, settled, settled_entry, StepError, OpenTransactionsState, TransactionState, no_transaction, transaction_at, entries_of, namings_of, StoreState, device_in}
use Rattle.std.specs.Prelude.{MatchOption}
use Rattle.list_lemmas.proofs.Positions.{position-all}
use Rattle.array_machine.specs.Step.{AbortsAs, AbortGives}
use Rattle.array_machine.specs.declared.answers.Aborted.{Aborted}
use Rattle.array_machine.specs.declared.answers.Aborted.TheVariants as aborted
use Rattle.array_machine.specs.declared.answers.StepError.TheVariants as failed
use Rattle.tx_engine.proofs.OfDevice.Kept.{from_stands}
use Rattle.open_table.proofs.OfTransactions.OpenList.{first_position, first_of_own, entry_first, entry_none, without_first}
use Rattle.tx_engine.proofs.OfDevice.ExitsThen.{NamedBefore}
use Rattle.tx_engine.proofs.OfDevice.HeldRecords.{held_same}
use Rattle.tx_engine.proofs.OfAbort.Removal.{current_pins}
use Rattle.tx_engine.proofs.OfSubmit.Submitted.{repinned, array_aside}

-- the entry of a tag, by its index
pub entry_found : (tag : ℕ) (o : OpenTransactionsState) (i : ℕ) → position (λ o. has_tag tag o.entry) o.all ≡ Some i →
    (i < length o.all) × (entry_of tag (entries_of o) ≡ Some (transaction_at o i).entry)
    × (tag ≡ (transaction_at o i).entry.tag)
entry_found tag o i is =
    let first = first_position tag o.all i is in
    (first.within, entry_first tag o.all i first, sym (eqb-true (transaction_at o i).entry.tag tag first.tagged))

pub entry_missing : (tag : ℕ) (o : OpenTransactionsState) → position (λ o. has_tag tag o.entry) o.all ≡ None →
    entry_of tag (entries_of o) ≡ None
entry_missing tag o is =
    entry_none tag o.all
    (All-from_get_or (λ (x : TransactionState). has_tag tag x.entry ≡ false) o.all no_transaction
    (position-all (λ (x : TransactionState). has_tag tag x.entry) o.all no_transaction is))

-- an open transaction, once all settled
pub entry_settled : (there : Bool) (o o' : OpenTransactionsState) (i : ℕ) →
    entries_of o' ≡ map (settled_entry there) (entries_of o) → i < length o.all →
    (i < length o'.all) × ((transaction_at o' i).entry ≡ settled_entry there (transaction_at o i).entry)
entry_settled there o o' i same within =
    let long : length o'.all ≡ length o.all =
    sym (length-map o'.all (λ (x : TransactionState). x.entry)) ∙ ap length same
    ∙ length-map (entries_of o) (settled_entry there)
    ∙ length-map o.all (λ (x : TransactionState). x.entry) in
    let within' : i < length o'.all = omega arith in
    let inside : i < length (entries_of o) = subst (λ n. i < n)
    (sym (length-map o.all (λ (x : TransactionState). x.entry))) within in (
      within',
      sym (get_or-map (λ (x : TransactionState). x.entry) o'.all i no_transaction no_transaction.entry within')
          ∙ ap (λ es. get_or es i no_transaction.entry) same
          ∙ get_or-map (settled_entry there) (entries_of o) i no_transaction.entry no_transaction.entry inside
          ∙ ap (settled_entry there) (get_or-map (λ (x : TransactionState). x.entry) o.all i no_transaction
          no_transaction.entry within),
    )

-- it goes
module _ {F : Type 0} (state : F → FlashState) (S S' : StoreState F) (O O' : OpenTransactionsState) (i : ℕ)
    (pins : S' ≡ record S { noted = record S.noted { pins = S'.noted.pins } })
    (gone : O' ≡ record O { all = remove O.all i }) where
  abbrev pub closed : StoreState F
  closed = record S { noted = repinned S.noted S'.noted.pins }

  abbrev pub fewer : OpenTransactionsState
  fewer = record O { all = remove O.all i }

  closed_is : device_in state S' O' ≡ device_in state closed fewer
  closed_is = ap₂ (λ (T : StoreState F) (o : OpenTransactionsState). device_in state T o) pins gone

  pub closed_machine : Stands state (device_in state S O) → i < length O.all → (tag : ℕ) →
      tag ≡ (transaction_at O i).entry.tag →
      (device_in state S' O').machine ≡ record (device_in state S O).machine { entries = without tag (entries_of O) }
  closed_machine h within tag is =
      ap (λ (s : DeviceState F). s.machine) closed_is
      ∙ ap₂ (λ (ps : List (Option (List ℕ))) (es : List Entry). record { pages = ps; entries = es })
      (array_aside S.noted S'.noted.pins (state S.flash).image)
      (sym (without_first (transaction_at O i).entry.tag O.all i
      (first_of_own O.all i (from_stands state S O h).tags within))
      ∙ ap (λ t. without t (entries_of O)) (sym is))

  names_fewer : NamedBefore (namings_of O) (namings_of fewer)
  names_fewer = All-map (λ (x : Naming). Any (λ (before : Naming). before.names ≡ x.names) (namings_of O))
      (λ (o : TransactionState). o.naming) (remove O.all i)
      (all_remove (λ (o : TransactionState). Any (λ (before : Naming). before.names ≡ o.naming.names) (namings_of O))
      O.all i
      (All-from_get_or (λ (o : TransactionState). Any (λ (before : Naming). before.names ≡ o.naming.names)
      (namings_of O)) O.all no_transaction (λ k inside. (
        k,
        (transaction_at O k).naming,
        subst (λ n. k < n) (sym (length-map O.all (λ (x : TransactionState). x.naming))) inside,
        get_or-map (λ (x : TransactionState). x.naming) O.all k no_transaction (transaction_at O k).naming inside,
        refl,
      ))))

  pub closed_exits : Exits state (device_in state S O) (device_in state S' O') false
  closed_exits = subst (λ (t : DeviceState F). Exits state (device_in state S O) t false) (sym closed_is) (record {
    tables = record {
      config = refl;
      versions = λ page low. inr (
        current_pins S.noted S'.noted.pins page,
        ap (λ (ps : List (Option (List ℕ))). page_at ps page) (array_aside S.noted S'.noted.pins (state S.flash).image),
      );
      mentions = λ page low. inl refl;
      names = names_fewer;
      kept = refl;
    };
    moves = FlashMoves-nothing (state S.flash) (state S.flash) false refl;
    carries = Carries-nothing (state S.flash);
    held = held_same S.noted.config.protocol S.noted.config.logical (state S.flash).image (state S.flash).image refl;
  })

  pub closed_current : (page : ℕ) → current_of S'.noted page ≡ current_of S.noted page
  closed_current page = ap (λ (T : StoreState F). current_of T.noted page) pins
      ∙ current_pins S.noted S'.noted.pins page

-- versions that stay after others rose
pub rises_on : {F : Type 0} (a b c : DeviceState F) (ws : List PageWrite) → VersionsRise a b ws →
    ((page : ℕ) → current_of c.noted page ≡ current_of b.noted page) → VersionsRise a c ws
rises_on a b c ws first same = record {
  rises = λ k d h. let up = first.rises k d h in subst (λ v. current_of a.noted (get_or ws k d).page < v)
      (sym (same (get_or ws k d).page)) up;
  stays = λ page low others. same page ∙ first.stays page low others;
}

-- an abort of the transaction that was found, if there is one
abbrev pub AbortsFor : Bool → ArrayState → ArrayState → ℕ → Option Entry → Result Aborted StepError → Type 0
AbortsFor there old new tag o result =
    MatchOption o ((result ≡ Err failed.Unknown) × (new ≡ old))
    (λ e. AbortGives old (settled there old) tag (settled_entry there e) result new)

-- an abort of a tag that no open transaction has
pub abort_missing : (there : Bool) (old : ArrayState) (tag : ℕ) → entry_of tag old.entries ≡ None →
    AbortsAs there old old tag (Err failed.Unknown)
abort_missing there old tag is = subst (λ o. AbortsFor there old old tag o (Err failed.Unknown)) (sym is) (refl, refl)

-- an abort where settling failed
pub abort_failed : (there : Bool) (old new : ArrayState) (tag : ℕ) (e : Entry) →
    entry_of tag old.entries ≡ Some e → new ≡ old →
    AbortsAs there old new tag (Err failed.Fault)
abort_failed there old new tag e is same = subst (λ o. AbortsFor there old new tag o (Err failed.Fault)) (sym is) same

-- how a settled transaction is given up
gives : (old mid new : ArrayState) (tag : ℕ) (e : Entry) (a : Aborted) → ((e.mark ≡ Whole) × (a ≡ aborted.Late))
    ⊎ ((e.mark ≢ Whole) × (a ≡ aborted.Gone)) →
    new ≡ record mid { entries = without tag mid.entries } → AbortGives old mid tag e (Ok a) new
gives old mid new tag e aborted.Gone (inl late) is = let both = late.1 in cc
gives old mid new tag e aborted.Gone (inr gone) is = (gone.0, is)
gives old mid new tag e aborted.Late (inl late) is = (late.0, is)
gives old mid new tag e aborted.Late (inr gone) is = let both = gone.1 in cc

pub abort_done : (there : Bool) (old mid new : ArrayState) (tag : ℕ) (e f : Entry) (a : Aborted) →
    entry_of tag old.entries ≡ Some e → mid ≡ settled there old →
    f ≡ settled_entry there e → new ≡ record mid { entries = without tag mid.entries } →
    ((f.mark ≡ Whole) × (a ≡ aborted.Late)) ⊎ ((f.mark ≢ Whole) × (a ≡ aborted.Gone)) →
    AbortsAs there old new tag (Ok a)
abort_done there old mid new tag e f a found settles is gone how =
    subst (λ o. AbortsFor there old new tag o (Ok a)) (sym found)
    (subst (λ (x : Entry). AbortGives old (settled there old) tag x (Ok a) new) is
    (subst (λ (m : ArrayState). AbortGives old m tag f (Ok a) new) settles
    (gives old mid new tag f a how gone)))

pub not_whole : (m : Mark) → (m ≡ Plain) ⊎ (m ≡ Doubt) → m ≢ Whole
not_whole m (inl is) h = let both : Plain ≡ Whole = sym is ∙ h in cc
not_whole m (inr is) h = let both : Doubt ≡ Whole = sym is ∙ h in cc

-- what is ready and not whole is plain
pub ready_plain : (m : Mark) (P : Type 0) → (m ≡ Plain) ⊎ (m ≡ Doubt) → (m ≡ Whole) ⊎ ((m ≡ Plain) × P) →
    (m ≡ Plain) × P
ready_plain m P other (inl whole) = absurd (not_whole m other whole)
ready_plain m P other (inr both) = both

pub either_mark : (m r : Mark) → r ≡ m → (r ≡ Plain) ⊎ (r ≡ Doubt) → (m ≡ Plain) ⊎ (m ≡ Doubt)
either_mark m r same (inl is) = inl (sym same ∙ is)
either_mark m r same (inr is) = inr (sym same ∙ is)
