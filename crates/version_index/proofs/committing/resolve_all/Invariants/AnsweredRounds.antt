-- The records of a whole cycle answer, one after the other.
use Rattle.version_index.proofs.Common.{◌≡◌, ◌≢◌, ℕ, ◌+◌, ◌<◌, ◌≤◌, List, length, take, get_or, Some, None, sym, ap, ◌∙◌, subst, inl, inr, arith, cases_lt, get_or_past, take_all, none-some, same_Some, Link, Rec, name_of, TablesState, record_at, LinksExist, newest_at, newest_with_name, OnlyDerives, IsRoundIn, Derived, with_answers, all_answered, AreDerived, numbered_of}
use Rattle.judged_records.proofs.OfNotes.Numbered.{made_answerer}
use Rattle.judged_records.proofs.OfCommit.RoundSteps.{answered_more}
use Rattle.version_index.specs.Committing.{IsAnswered, ResolvesRound}
use Rattle.version_index.proofs.OfCommit.KeptRounds.{derives_then, derives_none, named_rec, top_named, named_still}

-- so far a round answers: at which name it is, and what is derived
pub record IsAnsweredSo (k t : TablesState) (start link : Link) (n its_pages : ℕ) (j : Derived)
    (round : List Link) : Type 0 where
  pub within : n < length round
  pub at : get_or round n start ≡ link
  pub judged : AreDerived (numbered_of t) its_pages (all_answered (take n round) j)

-- the tables while a round answers
pub record IsAnsweringRound (k t : TablesState) (start link : Link) (n : ℕ) : Type 0 where
  pub judges : OnlyDerives k t
  pub page : link.page < length k.pages
  pub rounds :
      (its_pages : ℕ) (j : Derived) (round : List Link) → IsRoundIn k start round →
      AreDerived (numbered_of k) its_pages j → IsAnsweredSo k t start link n its_pages j round

pub start_answering : (k : TablesState) (start : Link) → start.page < length k.pages →
    IsAnsweringRound k k start start 0
start_answering k start page = record {
  judges = derives_none k;
  page = page;
  rounds = λ its_pages j round r judged. record { within = r.some; at = r.first; judged = judged };
}

module _ (k t u : TablesState) (start link : Link) (n : ℕ) (h : IsAnsweringRound k t start link n)
    (judges : OnlyDerives t u)
    (answered : IsAnswered t u link.page) where
  -- what is derived once its record answers
  one_answers : (its_pages : ℕ) (j : Derived) (round : List Link) → IsRoundIn k start round →
      AreDerived (numbered_of k) its_pages j →
      AreDerived (numbered_of u) its_pages (all_answered (take (n + 1) round) j)
  one_answers its_pages j round r judged =
      let so = h.rounds its_pages j round r judged in
      let top = r.tops n so.within in
      let now = all_answered (take n round) j in
      let name = top.its_name ∙ so.at in
      let own_page : top.rec.page ≡ link.page = ap (λ l. l.page) name in
      let same = ap (λ (v : TablesState). v.records) h.judges.rest in
      let is : record_at t.records top.number ≡ Some top.rec = ap (λ l. record_at l top.number) same ∙ top.is in
      let newest : newest_at t link.page ≡ Some top.number =
      ap (λ (v : TablesState). newest_at v link.page) h.judges.rest
      ∙ ap (newest_at k) (ap (λ (l : Link). l.page) (sym so.at)) ∙ top.newest in
      let more = answered_more round j n start so.within in
      let its : with_answers (name_of top.rec) now ≡ all_answered (take (n + 1) round) j =
      ap (λ l. with_answers l now) top.its_name ∙ sym more in
      let made = made_answerer (numbered_of t) (numbered_of u) its_pages now top.number top.rec so.judged (record {
        records = ap (λ (v : TablesState). v.records) judges.rest;
        current = answered.current;
        own = is;
        answered = λ y s is_y waits. (
            let both = answered.answered y (waits ∙ ap Some own_page) in (both.0 ∙ newest, both.1));
        others = λ y s is_y off. answered.others y (λ e. off (e ∙ ap Some (sym own_page)));
      }) in
      subst (AreDerived (numbered_of u) its_pages) its made

  -- the record of the name that it is at
  its_top : (its_pages : ℕ) (j : Derived) (round : List Link) (r : IsRoundIn k start round) →
      AreDerived (numbered_of k) its_pages j → (rec : Rec) × (newest_with_name u link ≡ Some rec)
      × (rec.next ≡ get_or round (n + 1) start)
  its_top its_pages j round r judged =
      let so = h.rounds its_pages j round r judged in
      let top = r.tops n so.within in (
        top.rec,
        named_still k u link (derives_then k t u h.judges judges) ∙ ap (newest_with_name k) (sym so.at) ∙
            top_named k (get_or round n start) (get_or round (n + 1) start) top,
        top.link,
      )

  pub answering_ends : (logical : ℕ) (rec : Rec) → newest_with_name u link ≡ Some rec → rec.next.page ≡ start.page →
      ResolvesRound k u start logical
  answering_ends logical rec is ends its_pages j round r short judged =
      let top = its_top its_pages j round r judged in
      let so = h.rounds its_pages j round r judged in
      let one : top.0 ≡ rec = same_Some top.0 rec (sym top.1 ∙ is) in
      let page : (get_or round (n + 1) start).page ≡ start.page =
      ap (λ (l : Link). l.page) (sym top.2) ∙ ap (λ (s : Rec). s.next.page) one ∙ ends in
      let whole : length round ≤ n + 1 = elim (cases_lt (n + 1) (length round)) [
        | inl more ↦ absurd (r.before (n + 1) (omega arith) more page)
        | inr done ↦ done
      ] in
      subst (λ l. AreDerived (numbered_of u) its_pages (all_answered l j)) (take_all (n + 1) round whole)
      (one_answers its_pages j round r judged)

  pub answering_fails : (logical : ℕ) → newest_with_name u link ≡ None → ResolvesRound k u start logical
  answering_fails logical none its_pages j round r short judged =
      let top = its_top its_pages j round r judged in
      absurd (none-some top.0 (sym none ∙ top.1))

  pub answering_more : LinksExist k → (rec : Rec) → newest_with_name u link ≡ Some rec → rec.next.page ≢ start.page →
      IsAnsweringRound k u start rec.next (n + 1)
  answering_more links rec is goes =
      let all = derives_then k t u h.judges judges in
      let x = named_rec k link rec (sym (named_still k u link all) ∙ is) in
      record {
        judges = all;
        page = links x.number rec x.is;
        rounds = λ its_pages j round r judged. (
            let top = its_top its_pages j round r judged in
            let one : top.0 ≡ rec = same_Some top.0 rec (sym top.1 ∙ is) in
            let next : get_or round (n + 1) start ≡ rec.next = sym top.2 ∙ ap (λ (s : Rec). s.next) one in
            let made = one_answers its_pages j round r judged in
            record {
              within = elim (cases_lt (n + 1) (length round)) [
                | inl more ↦ more
                | inr done ↦ absurd (goes (ap (λ (l : Link). l.page) (sym next ∙ get_or_past round (n + 1) start done)))
              ];
              at = next;
              judged = made;
            });
      }

-- a round of no more names than turns has an end
pub answering_whole : (k t : TablesState) (start link : Link) (n logical : ℕ) → IsAnsweringRound k t start link n →
    logical ≤ n → ResolvesRound k t start logical
answering_whole k t start link n logical h past its_pages j round r short judged =
    let so = h.rounds its_pages j round r judged in
    let within = so.within in
    absurd (omega arith)
