-- Law 9 through the changes of a list: a record of a transaction is written, a record is copied, records are lost.
use Rattle.record_list.proofs.Common.{◌≡◌, ◌≢◌, ℕ, zero, suc, ◌-◌, ◌<◌, true, List, [], ◌∷◌, zip, length, All, Contains, refl, sym, ap, ◌∙◌, subst, inl, inr, arith, All-contains, all_from, from_filter, Contains-first, Contains-rest, Contains-nil, in_order, Link, Rec, Protocol, Found, name_of, mention_at, is_present, IsScanned, link_of, CopiesAgree, follow, next_names, IsAsked, IsAskedAt, IsWrite, left, KeepsCount}
use Rattle.record_list.specs.Counts.{IsFirstReturn, HasCounts, WriteKeepsCounts, CopyKeepsCounts, LossKeepsCounts}
use Rattle.record_list.proofs.OfFacts.Names.{present_in, links_from}
use Rattle.record_list.proofs.OfWalks.Follow.{follow_last}
use Rattle.record_list.proofs.OfWalks.Returns.{one_return, next_returns, next_present, all_present}
use Rattle.record_list.proofs.OfWalks.Rounds.{Follows, Apart, chain, cases_in, round_on, follows_of, follows_in, head_apart}
use Rattle.record_list.proofs.OfChanges.Progress.{IsUnderway, mention_parts}
use Rattle.record_list.proofs.OfChanges.OneMore.{inserted_in, step_underway, links_else}
use Rattle.record_list.proofs.OfChanges.Keeping.{step_of}
use Rattle.record_list.proofs.OfLosses.LossAmong.{IsAmong, IsOneEach, IsEqual, among_of, among_record, copied_among}

-- a record that a link names has its count
abbrev PassesCount : List Found → Rec → Type 0
PassesCount l r = All (λ g. name_of g.rec ≡ r.next → g.rec.count ≡ r.count) l

-- where the links of a record that has a count lead back to it, they do so after as many
abbrev ReturnsByCount : List Found → Rec → Type 0
ReturnsByCount l r = r.count ≢ 0 → (n : ℕ) → IsFirstReturn l (name_of r) n → n ≡ r.count

-- both are law 9
keeps_from : (l : List Found) (f : Found) → PassesCount l f.rec → ReturnsByCount l f.rec → KeepsCount l f
unfolding KeepsCount
keeps_from l f passes returns = (passes, returns)

passes_of : (l : List Found) → HasCounts l → (f : Found) → Contains l f → PassesCount l f.rec
unfolding KeepsCount
passes_of l h f i = (All-contains (KeepsCount l) l f h i).0

returns_of : (l : List Found) → HasCounts l → (f : Found) → Contains l f → ReturnsByCount l f.rec
unfolding KeepsCount
returns_of l h f i = (All-contains (KeepsCount l) l f h i).1

-- ---- links that are the same on a round

-- where the names that links lead to are no name that has another link, they lead to the same names
same_follow : (l m : List Found) (u : Link) (n : ℕ) →
    ((k : ℕ) → k < n → link_of l (follow l u k) ≡ link_of m (follow l u k)) → follow l u n ≡ follow m u n
same_follow l m u zero same = refl
same_follow l m u (suc n) same =
    let before = same_follow l m u n (λ k less. same k (omega arith)) in
    follow_last l u n ∙ same n (omega arith) ∙ ap (link_of m) before ∙ sym (follow_last m u n)

-- so a round of the one is a round of the other
same_return : (l m : List Found) (u : Link) (n : ℕ) →
    ((k : ℕ) → k < n → link_of l (follow l u k) ≡ link_of m (follow l u k)) →
    IsFirstReturn l u n → IsFirstReturn m u n
same_return l m u n same r = record {
  some = r.some;
  back = sym (same_follow l m u n same) ∙ r.back;
  first = λ k some less e. r.first k some less (same_follow l m u k (λ j before. same j (omega arith)) ∙ e);
}

-- ---- fewer records, or others equal to them

-- an equal record keeps the law alike
keeps_by : (l : List Found) (f g : Found) → f.rec ≡ g.rec → KeepsCount l f → KeepsCount l g
unfolding KeepsCount
keeps_by l f g e keeps = subst (λ r. PassesCount l r × ReturnsByCount l r) e keeps

module _ (l m : List Found) (fewer : IsAmong l m) (o : IsOneEach m) where
  -- a record that keeps law 9 in a list keeps it in one whose records are each equal to one of that list
  pub among_keeps : (f : Found) → Contains l f → KeepsCount m f → KeepsCount l f
  unfolding KeepsCount
  among_keeps f i (passes, returns) = keeps_from l f
      (all_from (λ g. name_of g.rec ≡ f.rec.next → g.rec.count ≡ f.rec.count) l (λ g j e.
      let y : IsEqual m g.rec = fewer.among g j in
      ap (λ (r : Rec). r.count) (sym y.is)
      ∙ All-contains (λ (h : Found). name_of h.rec ≡ f.rec.next → h.rec.count ≡ f.rec.count) m y.at passes y.is_in
      (ap name_of y.is ∙ e)))
      (λ some n r.
      returns some n (same_return l m (name_of f.rec) n (λ k less.
      links_from l m _ _ (among_record l m fewer o (follow l (name_of f.rec) k)
      (all_present l (name_of f.rec) n k r (present_in l f i)))) r))

  -- so law 9 stays
  pub among_counts : HasCounts m → HasCounts l
  among_counts counts = all_from (KeepsCount l) l (λ f i.
      let x : IsEqual m f.rec = fewer.among f i in
      among_keeps f i (keeps_by m x.at f x.is (All-contains (KeepsCount m) m x.at counts x.is_in)))

-- where no record has a count, all keep it
pub none_counted : (l : List Found) → All (λ f. f.rec.count ≡ 0) l → HasCounts l
none_counted l none = all_from (KeepsCount l) l (λ f i.
    let zero' = All-contains (λ (g : Found). g.rec.count ≡ 0) l f none i in
    keeps_from l f
    (all_from (λ g. name_of g.rec ≡ f.rec.next → g.rec.count ≡ f.rec.count) l
    (λ g j e. All-contains (λ (h : Found). h.rec.count ≡ 0) l g none j ∙ sym zero'))
    (λ some. absurd (some zero')))

-- law 2: records of one name are equal
pub one_each_of : (l : List Found) → All (CopiesAgree l) l → IsScanned l → IsOneEach l
one_each_of l agree scanned = record {
  same = λ f g i j e. elim (in_order (λ x y. x.slot.0 < y.slot.0) l f g scanned.ascending i j) [
    | inl same ↦ ap (λ (x : Found). x.rec) same
    | inr (inl less) ↦ All-contains (λ h. h.slot.0 < g.slot.0 → name_of h.rec ≡ name_of g.rec → h.rec ≡ g.rec) l f
        (All-contains (CopiesAgree l) l g agree j) i less e
    | inr (inr more) ↦ sym (All-contains (λ h. h.slot.0 < f.slot.0 → name_of h.rec ≡ name_of f.rec → h.rec ≡ f.rec) l g
        (All-contains (CopiesAgree l) l f agree i) j more (sym e))
  ];
}

-- a copy keeps law 9
pub copy_keeps_counts : CopyKeepsCounts
copy_keeps_counts l l' f agree c counts = among_counts l' l (copied_among l l' f c)
    (one_each_of l agree c.scanned) counts

-- so does a loss
pub loss_keeps_counts : LossKeepsCounts
loss_keeps_counts l keep agree scanned counts =
    among_counts (left keep l) l (among_of (left keep l) l
    (λ g i. (from_filter (λ (x : Found). keep x.slot.0) g l i).0)) (one_each_of l agree scanned) counts

-- ---- the names of a transaction, first to last and round

-- links from the first name lead to the others
to_rest : (l : List Found) (x : Link) (xs : List Link) (end : Link) →
    ((a b : Link) → Contains (chain x xs end) (a, b) → link_of l a ≡ b) →
    (i : ℕ) → i < length xs → Contains xs (follow l x (suc i))
to_rest l x [] end step i less = absurd (omega arith)
to_rest l x (y ∷ ys) end step zero less = subst (Contains (y ∷ ys))
    (sym (step x y (Contains-first (x, y) (chain y ys end)))) (Contains-first y ys)
to_rest l x (y ∷ ys) end step (suc i) less =
    let on = to_rest l y ys end (λ a b k. step a b (Contains-rest (x, y) (chain y ys end) (a, b) k)) i (omega arith) in
    Contains-rest y ys (follow l x (suc (suc i))) (subst (λ z. Contains ys (follow l z (suc i)))
    (sym (step x y (Contains-first (x, y) (chain y ys end)))) on)

-- and one more to the end
to_end : (l : List Found) (x : Link) (xs : List Link) (end : Link) →
    ((a b : Link) → Contains (chain x xs end) (a, b) → link_of l a ≡ b) →
    follow l x (suc (length xs)) ≡ end
to_end l x [] end step = step x end (Contains-first (x, end) [])
to_end l x (y ∷ ys) end step =
    ap (λ z. follow l z (suc (length ys))) (step x y (Contains-first (x, y) (chain y ys end)))
    ∙ to_end l y ys end (λ a b k. step a b (Contains-rest (x, y) (chain y ys end) (a, b) k))

-- so the first name returns after as many links as there are names
first_round : (l : List Found) (x : Link) (xs : List Link) → Apart (x ∷ xs) →
    ((a b : Link) → Follows (x ∷ xs) a b → link_of l a ≡ b) →
    IsFirstReturn l x (length (x ∷ xs))
first_round l x xs apart step = record {
  some = omega arith;
  back = to_end l x xs x step;
  first = λ m some less e.
      let m_is : suc (m - 1) ≡ m = omega arith in
      head_apart x xs x apart (subst (Contains xs) (ap (follow l x) m_is ∙ e)
      (to_rest l x xs x step (m - 1) (omega arith))) refl;
}

-- where a name of it is present and returns, it does so after as many links as there are names
round_length : (l : List Found) (logical : ℕ) (names : List Link) → IsUnderway l logical names →
    (a : Link) → Contains names a → is_present l a ≡ true → (n : ℕ) → IsFirstReturn l a n → n ≡ length names
round_length l logical [] t a i here n r = absurd (Contains-nil a i)
round_length l logical (x ∷ xs) t a i here n r =
    let P : Link → Type 0 = λ u. (is_present l u ≡ true) × IsFirstReturn l u n in
    let all : (c : Link) → Contains (x ∷ xs) c → P c = round_on P (x ∷ xs) (λ u v k h.
    let e = t.asked u v k h.0 in (
      subst (λ z. is_present l z ≡ true) e (next_present l u n h.1 h.0),
      subst (λ z. IsFirstReturn l z n) e (next_returns l u n h.1),
    )) a i (here, r) in
    one_return l x n (length (x ∷ xs)) (all x (Contains-first x xs)).1
    (first_round l x xs t.apart (λ u v k. t.asked u v k (all u (follows_in (x ∷ xs) u v k).0).0))

-- a present name that is none of them leads to none of them
other_round : (l : List Found) (logical : ℕ) (names : List Link) → IsUnderway l logical names →
    (k : ℕ) (u : Link) → is_present l u ≡ true → (Contains names u → ⊥) → (n : ℕ) → IsFirstReturn l u n →
    Contains names (follow l u k) → ⊥
other_round l logical names t zero u here out n r i = out i
other_round l logical names t (suc k) u here out n r i =
    other_round l logical names t k (link_of l u) (next_present l u n r here)
    (λ j. let low = (t.lower u here out (link_of l u) j).1 refl in omega arith) n (next_returns l u n r) i

-- ---- a record of a transaction is written

module _ (p : Protocol) (l l' : List Found) (logical : ℕ) (names : List Link) (f : Found)
    (w : IsWrite p l l' logical names f)
    (counts : HasCounts l) where
  -- a record of the transaction links to a name of it, and counts its names
  its_parts : (g : Found) → Contains l' g → Contains names (name_of g.rec) → Contains names g.rec.next
      × (g.rec.count ≡ length names)
  its_parts g i own =
      let asks : IsAsked p l logical names g.rec = elim (inserted_in l l' f w.added g i) [
        | inl e ↦ subst (λ (x : Found). IsAsked p l logical names x.rec) e w.asked
        | inr old ↦ All-contains (λ (x : Found). IsAsked p l logical names x.rec) l g w.in_progress.begun.asked old
      ] in
      let after = follows_of names (name_of g.rec) own in
      let pair = All-contains (IsAskedAt p l logical names g.rec) (zip names (next_names names)) (
        name_of g.rec,
        after.0,
      ) asks after.1 in
      (subst (Contains names) (sym (pair refl).0) (follows_in names (name_of g.rec) after.0 after.1).1, (pair refl).2)

  its_next : (g : Found) → Contains l' g → Contains names (name_of g.rec) → Contains names g.rec.next
  its_next g i own = (its_parts g i own).0

  its_count : (g : Found) → Contains l' g → Contains names (name_of g.rec) → g.rec.count ≡ length names
  its_count g i own = (its_parts g i own).1

  -- a record of no name of it was there
  other_old : (g : Found) → Contains l' g → (Contains names (name_of g.rec) → ⊥) → Contains l g
  other_old g i out = elim (inserted_in l l' f w.added g i) [
    | inl e ↦ absurd (out (subst (λ (x : Found). Contains names (name_of x.rec)) e w.named))
    | inr old ↦ old
  ]

  -- and links to none
  other_link : (g : Found) → Contains l g → (Contains names (name_of g.rec) → ⊥) → Contains names g.rec.next → ⊥
  other_link g old out j =
      let others = All-contains (λ h. (Contains names (name_of h.rec) → ⊥) →
      All (λ n. mention_at n.page h.rec < n.version) names)
      l g w.in_progress.begun.others old out in
      let low = (mention_parts g.rec g.rec.next (All-contains (λ n. mention_at n.page g.rec < n.version) names
      g.rec.next others j)).1 refl in
      omega arith

  -- the first half of the law
  write_passes : (g : Found) → Contains l' g → PassesCount l' g.rec
  write_passes g i = all_from (λ h. name_of h.rec ≡ g.rec.next → h.rec.count ≡ g.rec.count) l'
      (λ h j e. elim (cases_in names (name_of g.rec)) [
        | inl own ↦ its_count h j (subst (Contains names) (sym e) (its_next g i own)) ∙ sym (its_count g i own)
        | inr out ↦ (
            let old = other_old g i out in
            let was = other_old h j (λ k. other_link g old out (subst (Contains names) e k)) in
            All-contains (λ (x : Found). name_of x.rec ≡ g.rec.next → x.rec.count ≡ g.rec.count) l h
            (passes_of l counts g old) was e)
      ])

  -- the second
  write_returns : (g : Found) → Contains l' g → ReturnsByCount l' g.rec
  write_returns g i some n r =
      let step = step_of p l l' logical names f w in
      let now = step_underway l l' logical names f.rec step in
      let here = present_in l' g i in
      elim (cases_in names (name_of g.rec)) [
        | inl own ↦ round_length l' logical names now (name_of g.rec) own here n r ∙ sym (its_count g i own)
        | inr out ↦ (
            let same : (k : ℕ) → k < n → link_of l' (follow l' (name_of g.rec) k)
            ≡ link_of l (follow l' (name_of g.rec) k) = λ k less.
            links_else step.one (follow l' (name_of g.rec) k)
            (λ e. other_round l' logical names now k (name_of g.rec) here out n r
            (subst (Contains names) (sym e) w.named)) in
            returns_of l counts g (other_old g i out) some n (same_return l' l (name_of g.rec) n same r))
      ]

-- law 9 stays
pub write_keeps_counts : WriteKeepsCounts
write_keeps_counts p l l' logical names f w counts = all_from (KeepsCount l') l' (λ g i.
    keeps_from l' g (write_passes p l l' logical names f w counts g i)
    (write_returns p l l' logical names f w counts g i))
