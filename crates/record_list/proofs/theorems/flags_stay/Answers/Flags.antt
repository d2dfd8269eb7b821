-- The flags of a transaction through the changes of a list: each record afterwards is the new one or equal to an old
-- one.
use Rattle.record_list.proofs.Common.{◌≡◌, ◌≢◌, Bool, List, [], ◌∷◌, zip, All, Contains, ap, subst, inl, inr, All-contains, all_from, from_filter, Contains-cases, Contains-nil, Contains-rest, Link, Found, name_of, left}
use Rattle.list_lemmas.proofs.Membership.{Contains-here}
use Rattle.record_list.specs.Counts.{HasItsFlag, HasFlags, WriteKeepsFlags, OthersKeepFlags, CopyKeepsFlags, LossKeepsFlags}
use Rattle.record_list.proofs.OfChanges.OneMore.{inserted_all}
use Rattle.record_list.proofs.OfLosses.LossAmong.{IsAmong, IsEqual, among_of, copied_among}

-- flags stay where each record is equal to one that was there
among_flags : (l m : List Found) (names : List Link) (flags : List Bool) → IsAmong l m → HasFlags m names flags →
    HasFlags l names flags
among_flags l m names flags fewer has = all_from (λ f. HasItsFlag names flags f.rec) l (λ f i.
    let x : IsEqual m f.rec = fewer.among f i in
    subst (HasItsFlag names flags) x.is (All-contains (λ (g : Found). HasItsFlag names flags g.rec) m x.at has x.is_in))

pub write_keeps_flags : WriteKeepsFlags
write_keeps_flags l l' names flags f added own has = inserted_all (λ g. HasItsFlag names flags g.rec) l l'
    f added has own

pub others_keep_flags : OthersKeepFlags
others_keep_flags l l' names others flags f added named apart has =
    inserted_all (λ g. HasItsFlag others flags g.rec) l l' f added has
    (all_from (λ (x : Link × Bool). name_of f.rec ≡ x.0 → f.rec.discard ≡ x.1) (zip others flags) (λ x i e.
    absurd (All-contains (λ (b : Link). (name_of f.rec).page ≢ b.page) others x.0
    (All-contains (λ (a : Link). All (λ b. a.page ≢ b.page) others) names (name_of f.rec) apart named)
    (in_first others flags x i) (ap (λ (n : Link). n.page) e))))
  where
    in_first : (xs : List Link) (ys : List Bool) (x : Link × Bool) → Contains (zip xs ys) x → Contains xs x.0
    in_first [] ys x i = absurd (Contains-nil x i)
    in_first (n ∷ xs) [] x i = absurd (Contains-nil x i)
    in_first (n ∷ xs) (flag ∷ ys) x i = elim (Contains-cases (n, flag) (zip xs ys) x i) [
      | inl e ↦ Contains-here n xs x.0 (ap (λ y. y.0) e)
      | inr rest ↦ Contains-rest n xs x.0 (in_first xs ys x rest)
    ]

pub copy_keeps_flags : CopyKeepsFlags
copy_keeps_flags l l' names flags f c has = among_flags l' l names flags (copied_among l l' f c) has

pub loss_keeps_flags : LossKeepsFlags
loss_keeps_flags l names flags keep has =
    among_flags (left keep l) l names flags (among_of (left keep l) l
    (λ g i. (from_filter (λ (x : Found). keep x.slot.0) g l i).0)) has
