-- Records outside a block.
use Rattle.scan_recovery.proofs.Common.{◌≡◌, ℕ, Bool, true, false, cond, ◌&&◌, ◌||◌, ◌⊎◌, ◌<◌, List, [], ◌∷◌, length, refl, sym, ap, subst, ◌∙◌, list_any, false≢true, get_or_default, Protocol, Shape, Link, Found, has_name, name_of, is_present, nothing, record_at, IsCurrent, is_held, is_outside, IsRemovable, left}

any_kept : (b : Bool) (name : Link) (f : Found) (fs : List Found) →
    is_present (cond b (f ∷ fs) fs) name ≡ ((b && has_name name f.rec) || is_present fs name)
any_kept true name f fs = refl
any_kept false name f fs = refl

-- a name is present among the records that are left where one of them has it
pub present_left : (keep : ℕ → Bool) (list : List Found) (name : Link) →
    is_present (left keep list) name ≡ list_any (λ f. keep f.slot.0 && has_name name f.rec) list
present_left keep [] name = refl
present_left keep (f ∷ fs) name =
    any_kept (keep f.slot.0) name f (left keep fs)
    ∙ ap (λ b. (keep f.slot.0 && has_name name f.rec) || b) (present_left keep fs name)

-- a block is removable where each record that is current or held stands outside it
pub removable_all : (p : Protocol) (list : List Found) (logical : ℕ) (shape : Shape) (block : ℕ) →
    ((k : ℕ) → k < length list →
    IsCurrent p list logical (record_at list k) ⊎ (is_held p list logical (record_at list k) ≡ true) →
    is_present (left (is_outside shape block) list) (name_of (record_at list k)) ≡ true) →
    IsRemovable p list logical shape block
removable_all p list logical shape block h k d within =
    subst (λ (f : Found). IsCurrent p list logical f.rec ⊎ (is_held p list logical f.rec ≡ true) →
    is_present (left (is_outside shape block) list) (name_of f.rec) ≡ true)
    (get_or_default list k nothing d within) (h k within)

-- it is not, where one of them does not
pub removable_not : (p : Protocol) (list : List Found) (logical : ℕ) (shape : Shape) (block k : ℕ) → k < length list →
    IsCurrent p list logical (record_at list k) ⊎ (is_held p list logical (record_at list k) ≡ true) →
    is_present (left (is_outside shape block) list) (name_of (record_at list k)) ≡ false →
    IsRemovable p list logical shape block → ⊥
removable_not p list logical shape block k within counted gone removable =
    false≢true (sym gone ∙ removable k nothing within counted)
