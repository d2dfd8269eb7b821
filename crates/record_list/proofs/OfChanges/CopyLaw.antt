-- An equal copy of a record changes nothing, under either protocol: a list counts as the set of its records.
use Rattle.record_list.proofs.Common.{◌≡◌, ℕ, zero, suc, eqb, ltb, Bool, List, sym, refl, ap, ◌∙◌, ⊎_elim, if◌then◌else◌, cases_Bool, both_ways, false_from_ne_true, Link, Protocol, Scc, Bpcc, Found, Cycle, Passed, Absent, Straddled, newest, version_of, version_below, next_older, is_same, newest_name, link_of, back_of, straddling_version, why_below_newest, is_ahead, is_behind, walk, why, is_committed, cur, fallback, is_held, CopyLaw}
use Rattle.record_list.specs.declared.found.Why.{Why}
use Rattle.record_list.proofs.OfFacts.SoundNames.{IsSoundMap, sound_map, sound_list}
use Rattle.record_list.proofs.OfLosses.LossAmong.{among_of, copied_among, IsOneEach, IsSame, one_each, one_each_among, same_greatest, same_present, same_link}
use Rattle.record_list.proofs.OfLosses.LossAmong.{same_back}
use Rattle.record_list.proofs.OfLosses.LossCounted.{counted_present}
use Rattle.record_list.proofs.OfLosses.LossKept.{IsReduced, reduced_sound, reduced_held, reduced_answers, reduced_progress}
use Rattle.record_list.proofs.OfChanges.OneMore.{in_inserted}
use Rattle.record_list.proofs.OfFacts.Names.{named}

-- one turn of a walk, by its parts
same_turn : (a a' b b' c : Bool) (w w' y y' : Why) → a ≡ a' → b ≡ b' → w ≡ w' → y ≡ y' →
    (if a then Absent else if b then w else if c then Cycle else y) ≡ (if a' then Absent else if b' then w' else if c
    then Cycle else y')
same_turn a a' b b' c w w' y y' e f g h = cc

-- one choice, by its parts
same_choice : (a a' : Bool) (x x' y y' : ℕ) → a ≡ a' → x ≡ x' → y ≡ y' → (if a then x else y) ≡ (if a' then x' else y')
same_choice a a' x x' y y' e f g = cc

module _ (l m : List Found) (s : IsSame l m) (o : IsOneEach m) where
  -- newest versions, and what passes
  same_newest : (page : ℕ) → newest l page ≡ newest m page
  same_newest page = same_greatest l m s (version_of page)

  same_passed : (p : Protocol) (link : Link) → why_below_newest p l link ≡ why_below_newest p m link
  same_passed Scc link = refl
  same_passed Bpcc link = ap (λ v. if eqb v 0 then Passed else Straddled v)
      (same_greatest l m s (straddling_version link))

  -- a walk ends alike
  same_walk : (p : Protocol) (start : Link) (turns : ℕ) (link : Link) →
      walk p l start turns link ≡ walk p m start turns link
  same_walk p start zero link = refl
  same_walk p start (suc n) link =
      let rest : walk p l start n (link_of l link) ≡ walk p m start n (link_of m link) =
      same_walk p start n (link_of l link) ∙
      ap (walk p m start n) (same_link l m s o link) in
      same_turn (is_ahead l link) (is_ahead m link) (is_behind l link) (is_behind m link) (is_same link start)
      (why_below_newest p l link) (why_below_newest p m link)
      (walk p l start n (link_of l link)) (walk p m start n (link_of m link))
      (ap (λ v. ltb v link.version) (same_newest link.page)) (ap (λ v. ltb link.version v) (same_newest link.page))
      (same_passed p link) rest

  -- the newest name of a page, what decides on it, and what counts where it does not
  same_top : (page : ℕ) → newest_name l page ≡ newest_name m page
  same_top page = ap (named page) (same_newest page)

  same_why : (p : Protocol) (n page : ℕ) → why p l n page ≡ why p m n page
  same_why p n page =
      same_walk p (newest_name l page) (suc n) (link_of l (newest_name l page))
      ∙ ap (λ u. walk p m u (suc n) (link_of l u)) (same_top page)
      ∙ ap (walk p m (newest_name m page) (suc n)) (same_link l m s o (newest_name m page))

  same_fallback : (p : Protocol) (page : ℕ) → fallback p l page ≡ fallback p m page
  same_fallback Scc page = same_greatest l m s (version_below page (newest l page))
      ∙ ap (next_older m page) (same_newest page)
  same_fallback Bpcc page = same_back l m s o (newest_name l page) ∙ ap (back_of m) (same_top page)

  -- each current version stays
  pub same_cur : (p : Protocol) (n page : ℕ) → cur p l n page ≡ cur p m n page
  same_cur p n page =
      same_choice (is_committed (why p l n page)) (is_committed (why p m n page)) (newest l page) (newest m page)
      (fallback p l page) (fallback p m page)
      (ap is_committed (same_why p n page)) (same_newest page) (same_fallback p page)

-- a copy keeps all, under either protocol
pub copy_law : (p : Protocol) → CopyLaw p
copy_law p l m n f sound c =
    let s : IsSame l m = record {
      there = among_of l m (in_inserted l m f c.added);
      back = copied_among l m f c;
    } in
    let was : IsSoundMap p l n = sound_map p l n sound c.scanned in
    let one' : IsOneEach m = one_each_among l m s.back (one_each p l n was) in
    let forth : IsReduced p l m n = record {
      loss = record {
        sound = was;
        among = s.back;
        kept = λ name low h k. sym (same_present l m s name) ∙ counted_present p l n was name h k;
      };
      same = λ page low. sym (same_cur l m s one' p n page);
    } in
    let now : IsSoundMap p m n = reduced_sound p l m n forth in
    let back : IsReduced p m l n = record {
      loss = record {
        sound = now;
        among = s.there;
        kept = λ name low h k. same_present l m s name ∙ counted_present p m n now name h k;
      };
      same = λ page low. same_cur l m s one' p n page;
    } in
    record {
      sound = sound_list p m n now;
      same_current = λ page low. sym (same_cur l m s one' p n page);
      same_held = λ r. ⊎_elim
          (λ e. e ∙ sym (reduced_held p l m n forth r e))
          (λ e. e ∙ sym (false_from_ne_true (is_held p l n r)
          (λ t. both_ways (is_held p m n r) e (reduced_held p m l n back r t))))
          (cases_Bool (is_held p m n r));
      responsible = reduced_answers p l m n forth;
      in_progress = reduced_progress p l m n forth;
    }
