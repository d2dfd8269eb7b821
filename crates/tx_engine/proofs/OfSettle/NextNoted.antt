-- The next record of an open transaction is noted: the device stands for the array that takes its pages where the
-- record is the last one, and else for the same array.
use Rattle.tx_engine.proofs.Common.{◌≡◌, ◌≢◌, ◌⊎◌, ℕ, ◌+◌, ◌<◌, ◌==◌, List, [], length, map, get_or, All, AllPairs, Some, refl, sym, ap, ◌∙◌, subst, inl, inr, arith, slice_set, cases_eq, cond_both, eqb-false, length-map, length-set, get_or-set_same, get_or-set_other, get_or-map, All-from_get_or, All-contains, all_from, no_write, shape_of, slots_of, Protocol, Link, Rec, FlashState, Contents, name_of, ShareNoPage, text_at, Blank, written_in, note_at, IndexState, IsNoted, IsNextRecord, programmed, current_of, mention_of, BlocksState, Unsure, array_known, Matches, put, page_at, is_doubted, Plain, Whole, IsNamedAt, Naming, IsNamed, IsUnderWay, name_at, write_at, text_in, no_name, OpenTransactionsState, TransactionState, no_transaction, transaction_at, with_transaction, with_mark, with_noted_count, with_next, NotingKeeps}
use Rattle.std.proofs.lemmas.Bool.{cases_order}
use Rattle.record_list.proofs.OfWalks.Rounds.{cases_page}
use Rattle.collector.specs.declared.unsure.Unsure.TheVariants as unsure
use Rattle.tx_engine.proofs.OfDevice.Arrays.{page_of_name, as_many_names}
use Rattle.tx_engine.proofs.OfDevice.InDoubt.{known_page, partly_stays, partly_array, wholly_current, wholly_rises, wholly_elsewhere, wholly_array}
use Rattle.tx_engine.proofs.OfDevice.ImageMoves.{KeepsNoted, current_same}
use Rattle.tx_engine.proofs.OfDevice.Noting.{HasName, raised_mention, other_transaction, next_transaction}
use Rattle.tx_engine.proofs.OfDevice.Kept.{BlocksInvariant, IsTransaction, IsCalm, HasSameParts, kept_with}
use Rattle.tx_engine.proofs.OfSettle.SettledLists.{CalmBeside, calm_all}
use Rattle.tx_engine.proofs.OfDevice.ExitsThen.{NamedBefore}
use Rattle.tx_engine.proofs.OfDevice.OtherFlash.{known_at}

-- a record is the next one of an open transaction, and the flash has its text
pub record IsNextOf (p : Protocol) (n : IndexState) (at : ℕ) (rec : Rec) (image : List Contents)
    (o : TransactionState) : Type 0 where
  pub noted : IsNoted p n
  pub rule : n.config.protocol ≡ p
  pub next : IsNextRecord n rec
  pub within : at < slots_of (shape_of n.config)
  pub was : note_at n.notes at ≡ Blank
  pub named : IsNamed n.config.page_bytes n.config.logical o.entry o.naming
  pub under : IsUnderWay image n o.entry o.naming
  pub its : next.names ≡ o.naming.names
  pub due : o.naming.noted_count ≡ o.entry.done
  pub name : name_of rec ≡ name_at o.naming o.entry.done
  pub come : text_at (written_in n.config.protocol image) (name_of rec)
      ≡ Some (text_in n.config.page_bytes (write_at o.entry o.entry.done))
  pub plain : o.entry.done + 1 ≢ length o.entry.writes → o.entry.mark ≡ Plain

-- two lists share no page either way round
pub share_back : (names others : List Link) → ShareNoPage names others → ShareNoPage others names
share_back names others h k d inside j e within same = h j e within k d inside (sym same)

pub apart_at : (all : List TransactionState) (i k : ℕ) →
    AllPairs (λ a b. ShareNoPage a.naming.names b.naming.names) all → i < length all → k < length all → k ≢ i →
    ShareNoPage (get_or all i no_transaction).naming.names (get_or all k no_transaction).naming.names
apart_at all i k apart within inside other = elim (cases_order i k) [
  | inl same ↦ absurd (other (sym same))
  | inr (inl less) ↦ apart i k no_transaction less inside
  | inr (inr more) ↦ share_back (get_or all k no_transaction).naming.names (get_or all i no_transaction).naming.names
      (apart k i no_transaction more within)
]

-- the transaction that it makes has the same tag, writes and names
pub next_parts : (o : TransactionState) → HasSameParts o (with_next o)
next_parts o =
    cond_both (o.naming.noted_count + 1 == length o.entry.writes)
    (with_mark (with_noted_count o (o.naming.noted_count + 1)) Whole)
    (with_noted_count o (o.naming.noted_count + 1)) (HasSameParts o)
    (λ is. record { tag = refl; writes = refl; names = refl })
    (λ is. record { tag = refl; writes = refl; names = refl })

-- names stay where each transaction has the names that it had
pub names_before : (all all' : List TransactionState) → map (λ (o : TransactionState). o.naming.names) all'
    ≡ map (λ (o : TransactionState). o.naming.names) all →
    NamedBefore (map (λ o. o.naming) all) (map (λ o. o.naming) all')
names_before all all' same k d inside =
    let within' : k < length all' = subst (λ len. k < len) (length-map all' (λ (o : TransactionState). o.naming))
    inside in
    let long : length all' ≡ length all = sym (length-map all' (λ (o : TransactionState). o.naming.names))
    ∙ ap length same
    ∙ length-map all (λ (o : TransactionState). o.naming.names) in
    let within : k < length all = omega arith in
    let old = get_or all k no_transaction in
    let names : old.naming.names ≡ (get_or all' k no_transaction).naming.names =
    sym (get_or-map (λ (o : TransactionState). o.naming.names) all k no_transaction [] within)
    ∙ ap (λ ns. get_or ns k []) (sym same)
    ∙ get_or-map (λ (o : TransactionState). o.naming.names) all' k no_transaction [] within' in (
      k,
      old.naming,
      subst (λ len. k < len) (sym (length-map all (λ (o : TransactionState). o.naming))) within,
      get_or-map (λ (o : TransactionState). o.naming) all k no_transaction old.naming within,
      names ∙ ap (λ (x : Naming). x.names)
          (sym (get_or-map (λ (o : TransactionState). o.naming) all' k no_transaction d within')),
    )

module _ (p : Protocol) (notes : NotingKeeps p) (n : IndexState) (at : ℕ) (rec : Rec) (image image' : List Contents)
    (o : TransactionState)
    (h : IsNextOf p n at rec image' o) where
  abbrev pub after : IndexState
  after = programmed n at rec

  pub next_stays : o.entry.done + 1 ≢ length o.entry.writes → (page : ℕ) → page < n.config.logical →
      current_of after page ≡ current_of n page
  next_stays more = partly_stays p notes n h.noted h.rule at rec h.next h.within h.was image' o.entry o.naming h.named
      h.under h.its h.due h.name more

  pub next_array : o.entry.done + 1 ≢ length o.entry.writes → array_known after image' ≡ array_known n image'
  next_array more = partly_array p notes n h.noted h.rule at rec h.next h.within h.was image' o.entry o.naming h.named
      h.under h.its h.due h.name more

  pub last_current : o.entry.done + 1 ≡ length o.entry.writes →
      All (λ a. current_of after a.page ≡ a.version) o.naming.names
  last_current last = wholly_current p notes n h.noted h.rule at rec h.next h.within h.was image' o.entry o.naming
      h.named h.under h.its h.due h.name last

  pub last_rises : o.entry.done + 1 ≡ length o.entry.writes → All (λ a. current_of n a.page < a.version) o.naming.names
  last_rises last = wholly_rises p notes n h.noted h.rule at rec h.next h.within h.was image' o.entry o.naming h.named
      h.under h.its h.due h.name last

  pub last_elsewhere : o.entry.done + 1 ≡ length o.entry.writes → (page : ℕ) → page < n.config.logical →
      All (λ a. a.page ≢ page) o.naming.names →
      current_of after page ≡ current_of n page
  last_elsewhere last = wholly_elsewhere p notes n h.noted h.rule at rec h.next h.within h.was image' o.entry o.naming
      h.named h.under h.its h.due h.name last

  pub last_array : o.entry.done + 1 ≡ length o.entry.writes →
      array_known after image' ≡ put (array_known n image') o.entry.writes
  last_array last = wholly_array p notes n h.noted h.rule at rec h.next h.within h.was image' o.entry o.naming h.named
      h.under h.its h.due h.name last h.come

  -- Versions
  same_page : KeepsNoted n image image' → (page : ℕ) → page < n.config.logical →
      current_of after page ≡ current_of n page →
      page_at (array_known after image') page ≡ page_at (array_known n image) page
  same_page stay page low same =
      known_at after image' page low
      ∙ known_page n after image' page refl same
      ∙ current_same n image image' stay (subst (λ q. IsNoted q n) (sym h.rule) h.noted) page
      ∙ sym (known_at n image page low)

  pub next_versions : KeepsNoted n image image' → (page : ℕ) → page < n.config.logical →
      (current_of n page < current_of after page)
      ⊎ ((current_of after page ≡ current_of n page)
      × (page_at (array_known after image') page ≡ page_at (array_known n image) page))
  next_versions stay page low = elim (cases_eq (o.entry.done + 1) (length o.entry.writes)) [
    | inr more ↦ inr (next_stays more page low, same_page stay page low (next_stays more page low))
    | inl last ↦ elim (cases_page o.naming.names page) [
      | inl found ↦ inl (
          let up = All-contains (λ a. current_of n a.page < a.version) o.naming.names found.0
          (last_rises last) found.1 in
          let now = All-contains (λ a. current_of after a.page ≡ a.version) o.naming.names found.0
          (last_current last) found.1 in
          subst (λ q. current_of n q < current_of after q) found.2 (omega (arith, up, now)))
      | inr none ↦ (
          let others : All (λ (a : Link). a.page ≢ page) o.naming.names =
          all_from (λ (a : Link). a.page ≢ page) o.naming.names none in
          inr (last_elsewhere last page low others, same_page stay page low (last_elsewhere last page low others)))
    ]
  ]

  -- those that rise where it is the last one
  pub writes_rise : o.entry.done + 1 ≡ length o.entry.writes →
      All (λ w. current_of n w.page < current_of after w.page) o.entry.writes
  writes_rise last = All-from_get_or (λ w. current_of n w.page < current_of after w.page) o.entry.writes
      no_write (λ k inside.
      let long = as_many_names o.naming.names o.entry.writes h.named.pages in
      let within : k < length o.naming.names = omega arith in
      let page = page_of_name o.naming.names o.entry.writes k h.named.pages within in
      let up = last_rises last k no_name within in
      let now = last_current last k no_name within in
      subst (λ q. current_of n q < current_of after q) page (omega (arith, up, now)))

  pub names_apart : (page : ℕ) → All (λ w. w.page ≢ page) o.entry.writes → All (λ a. a.page ≢ page) o.naming.names
  names_apart page others = All-from_get_or (λ a. a.page ≢ page) o.naming.names no_name (λ k inside same.
      let long = as_many_names o.naming.names o.entry.writes h.named.pages in
      let within : k < length o.entry.writes = omega arith in
      others k no_write within (sym (page_of_name o.naming.names o.entry.writes k h.named.pages inside) ∙ same))

  pub writes_stay : o.entry.done + 1 ≡ length o.entry.writes → (page : ℕ) → page < n.config.logical →
      All (λ w. w.page ≢ page) o.entry.writes →
      current_of after page ≡ current_of n page
  writes_stay last page low others = last_elsewhere last page low (names_apart page others)

  -- Mentions
  pub next_mentions : (all : List TransactionState) (i : ℕ) → i < length all → get_or all i no_transaction ≡ o →
      (page : ℕ) → page < n.config.logical →
      (mention_of after page ≡ mention_of n page)
      ⊎ ((mention_of n page < mention_of after page) × IsNamedAt (map (λ o. o.naming) all) page (mention_of after page))
  next_mentions all i inside is page low = elim (raised_mention p n at rec h.next h.noted page low) [
    | inl same ↦ inl same
    | inr rose ↦ inr (
      rose.0,
      (
        i,
        o.naming,
        subst (λ len. i < len) (sym (length-map all (λ (o : TransactionState). o.naming))) inside,
        get_or-map (λ (o : TransactionState). o.naming) all i no_transaction o.naming inside
            ∙ ap (λ (x : TransactionState). x.naming) is,
        subst (λ ns. HasName ns page (mention_of after page)) h.its rose.1,
      ),
    )
  ]

-- All stands
pub next_kept : (p : Protocol) (notes : NotingKeeps p) (s s' : FlashState) (n : IndexState) (t t' : BlocksState)
    (u : Unsure) (o : OpenTransactionsState) (i at : ℕ) (rec : Rec) →
    BlocksInvariant s n t u o → i < length o.all → All (IsTransaction s'.image n) o.all → CalmBeside o.all i →
    IsNextOf p n at rec s'.image (transaction_at o i) →
    Matches s' (programmed n at rec) t' unsure.Nothing →
    BlocksInvariant s' (programmed n at rec) t' unsure.Nothing (with_transaction o i (with_next (transaction_at o i)))
next_kept p notes s s' n t t' u o i at rec k within each calm h m' =
    let its = transaction_at o i in
    let others : (j : ℕ) → j < length o.all → j ≢ i →
    IsTransaction s'.image (programmed n at rec) (transaction_at o j) = λ j inside other.
    other_transaction p notes n h.noted h.rule at rec h.next h.within h.was s'.image its.entry its.naming h.named
    h.under h.its h.due h.name
    (transaction_at o j).entry (transaction_at o j).naming (apart_at o.all i j k.apart within inside other)
    (each j no_transaction inside) in
    let own = next_transaction p notes n h.noted h.rule at rec h.next h.within h.was s'.image its h.named h.under h.its
    h.due h.name h.come h.plain in
    let calm_own : IsCalm (with_next its).entry =
    cond_both (its.naming.noted_count + 1 == length its.entry.writes)
    (with_mark (with_noted_count its (its.naming.noted_count + 1)) Whole)
    (with_noted_count its (its.naming.noted_count + 1))
    (λ (x : TransactionState). IsCalm x.entry) (λ is. refl)
    (λ is. ap is_doubted (h.plain (λ last. eqb-false (its.naming.noted_count + 1) (length its.entry.writes) is
    (ap (λ j. j + 1) h.due ∙ last)))) in
    kept_with s s' n (programmed n at rec) t t' u unsure.Nothing o i (with_next its) k within (next_parts its) m' refl
    refl others own
    (calm_all (slice_set o.all i (with_next its)) (λ j inside. elim (cases_eq j i) [
      | inl is ↦ subst (λ (x : TransactionState). IsCalm x.entry)
          (sym (get_or-set_same o.all i (with_next its) no_transaction within)
          ∙ ap (λ a. get_or (slice_set o.all i (with_next its)) a no_transaction) (sym is))
          calm_own
      | inr other ↦ subst (λ (x : TransactionState). IsCalm x.entry)
          (sym (get_or-set_other o.all i j (with_next its) no_transaction other))
          (calm j (subst (λ len. j < len) (length-set o.all i (with_next its)) inside) other)
    ]))

-- two names of a transaction at different places have different pages
pub apart_pages : (names : List Link) (i j : ℕ) → AllPairs (λ a b. a.page ≢ b.page) names → i < length names →
    j < length names → i ≢ j →
    (get_or names i no_name).page ≢ (get_or names j no_name).page
apart_pages names i j distinct inside within other same = elim (cases_order i j) [
  | inl is ↦ other is
  | inr (inl less) ↦ distinct i j no_name less within same
  | inr (inr more) ↦ distinct j i no_name more inside (sym same)
]
