-- A list whose records are in another one: what of the first counts has a slot that is spared, and so in the second.
use Rattle.lost_writes.proofs.Common.{◌≡◌, ℕ, ◌<◌, ◌⊎◌, Bool, true, List, Contains, sym, subst, ⊎_elim, Protocol, Link, Found, left, KeepsCounted, is_held, is_present}
use Rattle.record_list.specs.Records.{IsScanned}
use Rattle.record_list.specs.SoundList.{IsSoundList}
use Rattle.record_list.specs.Verdict.{record_named}
use Rattle.record_list.proofs.OfFacts.Names.{named_name}
use Rattle.record_list.proofs.OfFacts.SoundNames.{IsSoundMap}
use Rattle.record_list.proofs.OfLosses.LossAmong.{among_of, among_present, among_record, one_each}
use Rattle.record_list.proofs.OfLosses.LossCounted.{held_present, IsCounted, IsCountedKept, counted_names, counted_records}

-- a record of a name that is held in the shorter list, by the record that the longer one has of this name
pub held_more : (p : Protocol) (l m : List Found) (n : ℕ) → IsSoundMap p m n →
    ((f : Found) → Contains l f → Contains m f) → (name : Link) →
    is_held p l n (record_named m name) ≡ true → is_held p l n (record_named l name) ≡ true
held_more p l m n sound sub name held =
    let here : is_present l name ≡ true = subst (λ u. is_present l u ≡ true) (named_name m name)
    (held_present p l n (record_named m name) held) in
    subst (λ r. is_held p l n r ≡ true) (sym (among_record l m (among_of l m sub) (one_each p m n sound) name here))
    held

pub counted_grows : (p : Protocol) (l m : List Found) (n : ℕ) (keep keep' : ℕ → Bool) →
    IsSoundMap p l n → IsScanned m → IsSoundList p m n →
    ((f : Found) → Contains (left keep l) f → Contains (left keep' m) f) →
    ((name : Link) → name.page < n → IsCounted p m n name → IsCounted p l n name
    ⊎ (is_present (left keep' m) name ≡ true)) →
    KeepsCounted p l n keep → KeepsCounted p m n keep'
counted_grows p l m n keep keep' sound scanned sound' sub was k =
    let b : IsCountedKept p l n keep = counted_names p l n keep sound k in
    counted_records p m n keep' scanned sound' (record {
      kept = λ name low h c.
          ⊎_elim
          (λ old. among_present (left keep l) (left keep' m) (among_of (left keep l) (left keep' m) sub) name
          (b.kept name low h old))
          (λ there. there)
          (was name low c);
    })
