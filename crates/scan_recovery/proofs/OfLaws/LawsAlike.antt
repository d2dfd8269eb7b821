-- A list and its records in order of their names keep the same laws.
use Rattle.scan_recovery.proofs.Common.{◌≡◌, ◌≢◌, ℕ, zero, suc, ◌<◌, ◌≤◌, ◌⊎◌, Bool, true, Option, Some, None, List, get_or, All, refl, sym, ap, ap₂, ◌∙◌, subst, arith, All-contains, Contains-permutation, all_from, Link, Protocol, Scc, Bpcc, Found, is_present, cur, CurrentIsPresent, LinkHasCounted, LooseIsShown, LooseEnds, FindsFirst, Sorts}
use Rattle.std.proofs.Common.{◌↔◌}
use Rattle.record_list.specs.Records.{newest}
use Rattle.record_list.specs.Verdict.{straddling, link_of}
use Rattle.record_list.specs.Current.{responsible}
use Rattle.record_list.specs.SoundList.{follow}
use Rattle.sorted_records.proofs.OfSort.Alike.{newest_alike, present_alike, link_alike, straddling_alike, cur_alike, responsible_alike}

-- a search for the first that breaks one fact is one for the first that breaks another, where the facts are the same
pub finds_alike : (P Q : Found → Type 0) (list : List Found) (first : Option ℕ) → ((f : Found) → P f ↔ Q f) →
    FindsFirst P list first → FindsFirst Q list first
finds_alike P Q list None same all = λ k d within. (same (get_or list k d)).0 (all k d within)
finds_alike P Q list (Some i) same (within, breaks, before) = (
  within,
  λ d keeps. breaks d ((same (get_or list i d)).1 keeps),
  λ k d less. (same (get_or list k d)).0 (before k d less),
)

-- what holds of each record in order holds of each of the list
pub all_back : (list sorted : List Found) → Sorts list sorted → (P : Found → Type 0) → All P sorted → All P list
all_back list sorted is P all = all_from P list (λ f c. All-contains P sorted f all
    (Contains-permutation list sorted f is.records c))

-- what is one fact holds alike
both_ways : (P Q : Type 0) → P ≡ Q → P ↔ Q
both_ways P Q e = (λ p. subst (λ (T : Type 0). T) e p, λ q. subst (λ (T : Type 0). T) (sym e) q)

-- the laws, over what the list says
abbrev Current : ℕ → ℕ → ℕ → Bool → Type 0
Current version top current present = version ≡ top → (current ≡ 0) ⊎ (present ≡ true)

abbrev Counted : ℕ → ℕ → ℕ → ℕ → Type 0
Counted version next current linked = version ≡ current → next ≤ linked

abbrev CountedByBack : ℕ → ℕ → ℕ → ℕ → ℕ → Type 0
CountedByBack version next current linked straddler = version ≡ current → (next ≤ linked) × (straddler ≡ 0)

abbrev Shown : ℕ → ℕ → ℕ → ℕ → ℕ → ℕ → Type 0
Shown version back next current linked answerer =
    current < version → (back ≡ current) × (next ≢ linked) × (next < linked → answerer ≢ 0)

module _ (list sorted : List Found) (logical : ℕ) (is : Sorts list sorted) where
  follow_alike : (n : ℕ) (name : Link) → follow sorted name n ≡ follow list name n
  follow_alike zero name = refl
  follow_alike (suc n) name = follow_alike n (link_of sorted name)
      ∙ ap (λ u. follow list u n) (link_alike list sorted is name)

  -- law 4
  current_path : (protocol : Protocol) (f : Found) → CurrentIsPresent protocol sorted logical f
      ≡ CurrentIsPresent protocol list logical f
  current_path protocol f =
      let page = f.rec.page in
      let c = cur_alike list sorted is protocol logical page in
      ap (λ n. Current f.rec.version n (cur protocol sorted logical page) (is_present sorted record {
        page = page;
        version =
            cur protocol sorted logical page;
      }))
      (newest_alike list sorted is page)
      ∙ ap (λ n. Current f.rec.version (newest list page) n (is_present sorted record { page = page; version = n })) c
      ∙ ap (Current f.rec.version (newest list page) (cur protocol list logical page))
      (present_alike list sorted is record { page = page; version = cur protocol list logical page })

  pub current_same : (protocol : Protocol) (f : Found) → CurrentIsPresent protocol sorted logical f
      ↔ CurrentIsPresent protocol list logical f
  current_same protocol f = both_ways _ _ (current_path protocol f)

  -- law 5
  pub counted_same : (protocol : Protocol) (f : Found) → LinkHasCounted protocol sorted logical f
      ↔ LinkHasCounted protocol list logical f
  unfolding LinkHasCounted
  counted_same Scc f = both_ways _ _
      (ap₂ (Counted f.rec.version f.rec.next.version) (cur_alike list sorted is Scc logical f.rec.page)
      (cur_alike list sorted is Scc logical f.rec.next.page))
  counted_same Bpcc f = both_ways _ _
      (ap₂ (λ a b. CountedByBack f.rec.version f.rec.next.version a b (straddling sorted f.rec.next))
      (cur_alike list sorted is Bpcc logical f.rec.page) (cur_alike list sorted is Bpcc logical f.rec.next.page)
      ∙ ap (CountedByBack f.rec.version f.rec.next.version (cur Bpcc list logical f.rec.page)
      (cur Bpcc list logical f.rec.next.page))
      (straddling_alike list sorted is f.rec.next))

  -- law 6
  pub shown_same : (protocol : Protocol) (f : Found) → LooseIsShown protocol sorted logical f
      ↔ LooseIsShown protocol list logical f
  unfolding LooseIsShown
  shown_same Scc f = (λ t. t, λ t. t)
  shown_same Bpcc f = both_ways _ _
      (ap₂ (λ a b. Shown f.rec.version f.rec.back f.rec.next.version a b (responsible Bpcc sorted logical f.rec.next))
      (cur_alike list sorted is Bpcc logical f.rec.page) (cur_alike list sorted is Bpcc logical f.rec.next.page)
      ∙ ap (Shown f.rec.version f.rec.back f.rec.next.version (cur Bpcc list logical f.rec.page)
      (cur Bpcc list logical f.rec.next.page))
      (responsible_alike list sorted is Bpcc logical f.rec.next))

  -- law 7
  pub ends_same : (protocol : Protocol) (f : Found) → LooseEnds protocol sorted logical f
      ↔ LooseEnds protocol list logical f
  unfolding LooseEnds
  ends_same Scc f = (λ t. t, λ t. t)
  ends_same Bpcc f =
      let c = cur_alike list sorted is Bpcc logical f.rec.page in (
        λ ends loose. (let (n, gone) = ends (omega arith) in (n, sym (gone_alike n f.rec.next) ∙ gone)),
        λ ends loose. (let (n, gone) = ends (omega arith) in (n, gone_alike n f.rec.next ∙ gone)),
      )
    where
      gone_alike : (n : ℕ) (name : Link) → is_present sorted (follow sorted name n)
          ≡ is_present list (follow list name n)
      gone_alike n name = ap (is_present sorted) (follow_alike n name)
          ∙ present_alike list sorted is (follow list name n)
