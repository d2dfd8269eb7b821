-- After a cut or a drop the device is mounted again, or a fault more was counted.
use Rattle.cut_replay.proofs.Common.{◌≡◌, ℕ, ◌+◌, ◌≤◌, Bool, true, List, [], ◌∷◌, ◌++◌, refl, ap, ◌∙◌, subst, inl, inr, arith, count_by, MatchBool, cases_Bool, Config, FlashState, counted_by, Rose, Reply, is_break, Point, last_point, last_state, is_lost, CountsBreak, MountsAfter}
use Rattle.std.specs.Prelude.{if◌then◌else◌}
use Rattle.std.proofs.lemmas.List.Sums.{sum_by_push}
use Rattle.cut_replay.specs.MountedAgain.{IsMountedAgain, FailedMounts, CountsMounts}
use Rattle.cut_replay.proofs.Losing.{lost_breaks}

-- one command more of a run
failed_same : (its : Config) (old : Point) (rs : List Reply) (ps : List Point) (n : ℕ) (r : Reply) (p : Point) →
    FailedMounts its old rs ps n → IsMountedAgain its (last_point old ps) r p →
    FailedMounts its old (rs ++ r ∷ []) (ps ++ p ∷ []) n
failed_same its old [] [] n r p h again = inl (again, h)
failed_same its old [] (q ∷ ps) n r p h again = absurd h
failed_same its old (s ∷ rs) [] n r p h again = absurd h
failed_same its old (s ∷ rs) (q ∷ ps) n r p (inl h) again = inl (h.0, failed_same its q rs ps n r p h.1 again)
failed_same its old (s ∷ rs) (q ∷ ps) n r p (inr h) again =
    inr (h.0, (h.1.0, h.1.1, failed_same its q rs ps h.1.0 r p h.1.2 again))

failed_more : (its : Config) (old : Point) (rs : List Reply) (ps : List Point) (n : ℕ) (r : Reply) (p : Point) →
    FailedMounts its old rs ps n → is_lost r ≡ true → FailedMounts its old (rs ++ r ∷ []) (ps ++ p ∷ []) (n + 1)
failed_more its old [] [] n r p h cut = inr (cut, (n, refl, h))
failed_more its old [] (q ∷ ps) n r p h cut = absurd h
failed_more its old (s ∷ rs) [] n r p h cut = absurd h
failed_more its old (s ∷ rs) (q ∷ ps) n r p (inl h) cut = inl (h.0, failed_more its q rs ps n r p h.1 cut)
failed_more its old (s ∷ rs) (q ∷ ps) n r p (inr h) cut =
    inr (h.0, (h.1.0 + 1, ap (λ m. m + 1) h.1.1, failed_more its q rs ps h.1.0 r p h.1.2 cut))

-- what is counted
breaks_push : (rs : List Reply) (r : Reply) →
    count_by is_break (rs ++ r ∷ []) ≡ count_by is_break rs + (if is_break r then 1 else 0)
breaks_push rs r = sum_by_push (λ q. if is_break q then 1 else 0) rs r

breaks_more : (rs : List Reply) (r : Reply) (failed a b d : ℕ) → counted_by (count_by is_break rs + failed) a ≤ b →
    CountsBreak r b d → counted_by (count_by is_break (rs ++ r ∷ []) + failed) a ≤ d
breaks_more rs r failed a b d h one = elim (cases_Bool (is_break r)) [
  | inl broken ↦ (
      let rose : Rose b d = subst (λ x. MatchBool x (Rose b d) (d ≡ b)) broken one in
      let more : count_by is_break (rs ++ r ∷ []) ≡ count_by is_break rs + 1 =
      breaks_push rs r ∙ ap (λ (x : Bool). count_by is_break rs + (if x then 1 else 0)) broken in
      omega (arith, h, rose, more))
  | inr whole ↦ (
      let same : d ≡ b = subst (λ x. MatchBool x (Rose b d) (d ≡ b)) whole one in
      let none : count_by is_break (rs ++ r ∷ []) ≡ count_by is_break rs + 0 =
      breaks_push rs r ∙ ap (λ (x : Bool). count_by is_break rs + (if x then 1 else 0)) whole in
      omega (arith, h, same, none))
]

twice_more : (rs : List Reply) (r : Reply) (failed a b d : ℕ) → counted_by (count_by is_break rs + failed) a ≤ b →
    is_lost r ≡ true → counted_by 2 b ≤ d → counted_by (count_by is_break (rs ++ r ∷ []) + (failed + 1)) a ≤ d
twice_more rs r failed a b d h lost twice =
    let more : count_by is_break (rs ++ r ∷ []) ≡ count_by is_break rs + 1 =
    breaks_push rs r ∙ ap (λ (x : Bool). count_by is_break rs + (if x then 1 else 0)) (lost_breaks r lost) in
    omega (arith, h, twice, more)

pub mounts_none : (its : Config) (first : Point) (old new : FlashState) → old.faults ≤ new.faults →
    CountsMounts its first [] [] old new
mounts_none its first old new later = record { failed = 0; mounts = refl; faults = omega (arith, later) }

pub mounts_more : (its : Config) (first : Point) (rs : List Reply) (ps : List Point) (r : Reply) (p : Point)
    (x y z : FlashState) →
    CountsMounts its first rs ps x y → CountsBreak r y.faults z.faults →
    MountsAfter its (last_point first ps) r p y.faults z.faults →
    CountsMounts its first (rs ++ r ∷ []) (ps ++ p ∷ []) x z
mounts_more its first rs ps r p x y z h one (inl again) = record {
  failed = h.failed;
  mounts = failed_same its first rs ps h.failed r p h.mounts again;
  faults = breaks_more rs r h.failed x.faults y.faults z.faults h.faults one;
}
mounts_more its first rs ps r p x y z h one (inr failed) = record {
  failed = h.failed + 1;
  mounts = failed_more its first rs ps h.failed r p h.mounts failed.0;
  faults = twice_more rs r h.failed x.faults y.faults z.faults h.faults failed.0 failed.1;
}

pub mounts_same : (its : Config) (first : Point) (rs : List Reply) (ps : List Point) (x y z : FlashState) →
    CountsMounts its first rs ps x y → z.faults ≡ y.faults → CountsMounts its first rs ps x z
mounts_same its first rs ps x y z h same =
    let most = h.faults in record { failed = h.failed; mounts = h.mounts; faults = omega (arith, most, same) }

-- the state where a run stands
pub last_state_is : (old : Point) (ps : List Point) → (last_point old ps).state ≡ last_state old.state ps
last_state_is old [] = refl
last_state_is old (p ∷ ps) = last_state_is p ps
