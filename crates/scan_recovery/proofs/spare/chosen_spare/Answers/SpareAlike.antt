-- A list and its records in order of their names have the same removable blocks.
use Rattle.scan_recovery.proofs.Common.{◌≡◌, ℕ, ◌<◌, ◌⊎◌, Bool, true, ◌==◌, ◌&&◌, nat_lt, List, length, All, Contains, map, Option, None, Some, refl, sym, ap, ap₂, ◌∙◌, subst, All-contains, IsPermutation-sym, Contains-permutation, all_from, Protocol, Scc, Bpcc, Shape, Block, Link, Rec, slots_of, Seen, Found, IsScanned, name_of, has_name, is_present, IsCurrent, is_held, CopiesAgree, left, is_outside, IsRemovable, Sorts, complete_slots, FindsHighest}
use Rattle.std.proofs.lemmas.List.Sorted.{list_any-IsPermutation}
use Rattle.list_lemmas.proofs.Pairs.{of_any_two}
use Rattle.list_lemmas.proofs.Tests.{any_same}
use Rattle.record_list.specs.Verdict.{straddles}
use Rattle.record_list.specs.Current.{answers_for}
use Rattle.sorted_records.proofs.OfSort.Alike.{cur_alike, responsible_alike}
use Rattle.scan_recovery.specs.Removable.{AreCopies}
use Rattle.scan_recovery.proofs.spare.chosen_spare.Answers.BlankBlocks.{slot_within}
use Rattle.scan_recovery.proofs.OfLinks.Outside.{present_left}
use Rattle.scan_recovery.proofs.OfLaws.TwinsAlike.{all_alike}

module _ (list sorted : List Found) (is : Sorts list sorted) where
  -- law 2 among all records of a name
  pub are_copies : IsScanned list → All (CopiesAgree list) list → AreCopies sorted
  are_copies scanned copies =
      all_from (λ f. All (λ g. name_of g.rec ≡ name_of f.rec → g.rec ≡ f.rec) sorted) sorted
      (λ f c. all_from (λ g. name_of g.rec ≡ name_of f.rec → g.rec ≡ f.rec) sorted
      (λ g d. of_any_two (λ (h : Found). h.slot.0) list scanned.ascending (λ (x y : Found). name_of x.rec
      ≡ name_of y.rec → x.rec ≡ y.rec)
      (λ x y p same. sym (p (sym same))) (λ x same. refl)
      (λ x y i j less same. sym (All-contains (λ h. h.slot.0 < x.slot.0 → name_of h.rec ≡ name_of x.rec →
      h.rec ≡ x.rec) list y
      (All-contains (CopiesAgree list) list x copies i) j less (sym same)))
      g f (in_list g d) (in_list f c)))
    where
      in_list : (f : Found) → Contains sorted f → Contains list f
      in_list f c = Contains-permutation sorted list f (IsPermutation-sym list sorted is.records) c

  pub slots_exist : (shape : Shape) (slots : List Seen) → length slots ≡ slots_of shape →
      map (λ f. f.slot.0) list ≡ complete_slots slots →
      All (λ f. f.slot.0 < slots_of shape) sorted
  slots_exist shape slots size complete =
      all_alike list sorted is (λ f. f.slot.0 < slots_of shape)
      (all_from (λ f. f.slot.0 < slots_of shape) list
      (λ f c. subst (λ n. f.slot.0 < n) size (slot_within slots list f complete c)))

  module _ (logical : ℕ) where
    answers_alike : (s r : Rec) → answers_for Bpcc sorted logical s r ≡ answers_for Bpcc list logical s r
    answers_alike s r =
        ap₂ (λ a b. nat_lt a r.version && (s.page == r.next.page) && straddles s r.next.version && (s.version == b))
        (cur_alike list sorted is Bpcc logical r.page) (responsible_alike list sorted is Bpcc logical r.next)

    held_alike : (protocol : Protocol) (r : Rec) → is_held protocol sorted logical r ≡ is_held protocol list logical r
    held_alike Scc r = refl
    held_alike Bpcc r =
        any_same (λ f. answers_for Bpcc sorted logical r f.rec) (λ f. answers_for Bpcc list logical r f.rec) sorted
        (λ f. answers_alike r f.rec)
        ∙ sym (list_any-IsPermutation (λ f. answers_for Bpcc list logical r f.rec) list sorted is.records)

    left_alike : (keep : ℕ → Bool) (name : Link) → is_present (left keep sorted) name ≡ is_present (left keep list) name
    left_alike keep name =
        present_left keep sorted name
        ∙ sym (list_any-IsPermutation (λ f. keep f.slot.0 && has_name name f.rec) list sorted is.records)
        ∙ sym (present_left keep list name)

    module _ (protocol : Protocol) (shape : Shape) where
      abbrev Kept : List Found → ℕ → Found → Type 0
      Kept l block f =
          IsCurrent protocol l logical f.rec ⊎ (is_held protocol l logical f.rec ≡ true) →
          is_present (left (is_outside shape block) l) (name_of f.rec) ≡ true

      kept_path : (block : ℕ) (f : Found) → Kept sorted block f ≡ Kept list block f
      kept_path block f =
          ap₂ (λ a b. (f.rec.version ≡ a) ⊎ (b ≡ true) →
          is_present (left (is_outside shape block) sorted) (name_of f.rec) ≡ true)
          (cur_alike list sorted is protocol logical f.rec.page) (held_alike protocol f.rec)
          ∙ ap (λ a. IsCurrent protocol list logical f.rec ⊎ (is_held protocol list logical f.rec ≡ true) →
          a ≡ true) (left_alike (is_outside shape block) (name_of f.rec))

      to_list : (block : ℕ) → IsRemovable protocol sorted logical shape block →
          IsRemovable protocol list logical shape block
      to_list block removable = all_from (Kept list block) list (λ f c.
          subst (λ (T : Type 0). T) (kept_path block f) (All-contains (Kept sorted block) sorted f removable
          (Contains-permutation list sorted f is.records c)))

      from_list : (block : ℕ) → IsRemovable protocol list logical shape block →
          IsRemovable protocol sorted logical shape block
      from_list block removable = all_alike list sorted is (Kept sorted block)
          (all_from (Kept sorted block) list (λ f c. subst (λ (T : Type 0). T) (sym (kept_path block f))
          (All-contains (Kept list block) list f removable c)))

      pub highest_alike : (blocks : ℕ) (found : Option Block) →
          FindsHighest (IsRemovable protocol sorted logical shape) blocks found →
          FindsHighest (IsRemovable protocol list logical shape) blocks found
      highest_alike blocks None none = λ k within removable. none k within (from_list k removable)
      highest_alike blocks (Some block) high = record {
        exists = high.exists;
        holds = to_list block.0 high.holds;
        none_above = λ k above within removable. high.none_above k above within (from_list k removable);
      }
