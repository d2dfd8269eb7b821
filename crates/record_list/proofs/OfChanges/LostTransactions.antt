-- A transaction of which any records were lost: its next record is a partial or a completing write to what is left.
use Rattle.record_list.proofs.Common.{◌≡◌, ℕ, Bool, true, List, All, sym, subst, inl, inr, All-contains, all_from, Link, Protocol, Shape, is_present, IsInserted, IsWrite, left, KeepsCounted, LossLaw, PartialWriteLaw, CompletingWriteLaw, Written, found_of, records_of, is_outside, left_written}
use Rattle.record_list.specs.Written.{IsSoundWritten}
use Rattle.record_list.specs.WrittenChanges.{HasRoomAround}
use Rattle.record_list.specs.Losses.{LostTransactionLaw, WriteAfterLossKeeps}
use Rattle.record_list.proofs.OfFacts.Names.{cases_present}
use Rattle.record_list.proofs.OfChanges.OneMore.{inserted_filter}
use Rattle.record_list.proofs.OfChanges.WrittenLists.{records_left}
use Rattle.record_list.proofs.OfChanges.Spared.{counted_first, counted_second}
use Rattle.record_list.proofs.OfChanges.WrittenChange.{written_left, written_partial_write, written_completing_write}
use Rattle.record_list.proofs.OfChanges.Arrays.{partial_write_leaves_array, completing_write_takes_transaction}
use Rattle.record_list.proofs.OfChanges.LostWrites.{write_after_loss}

-- a record that is added to a sound list is a partial or a completing write, and the list is sound in either case
added : (p : Protocol) → PartialWriteLaw p → CompletingWriteLaw p → (a b : List Written) (n : ℕ) (shape : Shape)
    (names : List Link) (w : Written) →
    IsSoundWritten p a n shape → IsInserted a w b → IsWrite p (records_of a) (records_of b) n names (found_of w) →
    (All (λ name. is_present (records_of b) name ≡ true) names →
    HasRoomAround p (records_of a) (records_of b) n shape names) →
    WriteAfterLossKeeps p a b n shape names w
added p partial completing a b n shape names w sound i write room = record {
  sound = elim (cases_present (records_of b) names) [
    | inl some ↦ (written_partial_write p partial a b n shape names w sound i write some).0
    | inr all ↦ (written_completing_write p completing a b n shape names w sound i write all (room all)).0
  ];
  partial = λ some. (
    partial (records_of a) (records_of b) n names (found_of w) sound.records write some,
    partial_write_leaves_array p partial a b n names w sound.records sound.bytes i write some,
  );
  completing = λ all. (
    completing (records_of a) (records_of b) n names (found_of w) sound.records write all,
    completing_write_takes_transaction p completing a b n names w sound.records sound.bytes i write all,
  );
}

pub lost_transaction : (p : Protocol) → LossLaw p → PartialWriteLaw p → CompletingWriteLaw p → LostTransactionLaw p
lost_transaction p loss partial completing l m n shape names w keep sound i write spared stays outside =
    let out : ℕ → Bool = is_outside shape spared.block in
    let a : List Written = left_written keep l in
    let b : List Written = left_written keep m in
    let was : left keep (records_of l) ≡ records_of a = sym (records_left keep l) in
    let now : left keep (records_of m) ≡ records_of b = sym (records_left keep m) in
    let counted : KeepsCounted p (records_of l) n keep = counted_first p (records_of l) n keep out spared.counted in
    let here : IsWrite p (left keep (records_of l)) (left keep (records_of m)) n names (found_of w) =
    write_after_loss p loss (records_of l) (records_of m) n names (found_of w) keep sound.records write counted stays in
    let removable : KeepsCounted p (left keep (records_of l)) n out =
    counted_second p (records_of l) n keep out spared.counted
    (loss (records_of l) n keep sound.records write.scanned counted) in
    let room : All (λ name. is_present (records_of b) name ≡ true) names →
    HasRoomAround p (records_of a) (records_of b) n shape names = λ all.
    subst (λ x. HasRoomAround p x (records_of b) n shape names) was
    (subst (λ y. HasRoomAround p (left keep (records_of l)) y n shape names) now (record {
      block = spared.block;
      exists = spared.exists;
      removable = removable;
      outside = all_from (λ name. is_present (left out (left keep (records_of m))) name ≡ true) names (λ name c.
          All-contains (λ u. is_present (left keep (records_of m)) u ≡ true →
          is_present (left out (left keep (records_of m))) u ≡ true) names name outside c
          (subst (λ y. is_present y name ≡ true) (sym now) (All-contains (λ u. is_present (records_of b) u ≡ true) names
          name all c)));
    })) in
    added p partial completing a b n shape names w (written_left p loss l n shape keep sound write.scanned spared).0
    (inserted_filter (λ v. keep v.slot.0) l m w i stays)
    (subst (λ x. IsWrite p x (records_of b) n names (found_of w)) was
    (subst (λ y. IsWrite p (left keep (records_of l)) y n names (found_of w)) now here)) room
