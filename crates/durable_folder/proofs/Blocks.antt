-- What files of several versions may hold.
use Rattle.durable_folder.proofs.Common.{◌≡◌, ◌⊎◌, inl, inr, ℕ, ◌+◌, ◌<◌, ◌≤◌, max, List, [], ◌∷◌, length, ◌∙◌, arith, ext_get_or, cases_lt, SomeOf, MayHold, byte_at, newest}
use Rattle.std.proofs.Common.{zero, suc, ◌*◌, ◌/◌}
use Rattle.std.specs.List.{AllByRecursion}
use Rattle.durable_folder.specs.FolderState.{HasBlock}
use Rattle.durable_folder.specs.InPlace.{IsTorn}

-- a place stands in its block
within_block : (i : ℕ) → (64 * (i / 64) ≤ i) × (i < 64 * (i / 64) + 64)
within_block i = (omega arith, omega arith)

-- the only one
pub some_one : {X : Type 0} (P : X → Type 0) (x : X) → SomeOf P (x ∷ []) → P x
some_one P x (inl p) = p
some_one P x (inr none) = absurd none

-- a file that has one version holds that
pub holds_one : (v c : List ℕ) → MayHold (v ∷ []) c → c ≡ v
holds_one v c h =
    let least : length v ≤ length c = some_one (λ x. length x ≤ length c) v h.least in
    let most : length c ≤ length v = some_one (λ x. length c ≤ length x) v h.most in
    ext_get_or 0 c v (omega arith) (λ i below.
    some_one (HasBlock c (i / 64)) v (h.blocks (i / 64)) i (within_block i).0 (within_block i).1 below)

-- the first byte of a file is that of one of its versions
first_zero : (c : List ℕ) (vs : List (List ℕ)) → 64 < length c → AllByRecursion (λ v. byte_at v 0 ≡ 0) vs →
    SomeOf (HasBlock c 0) vs → byte_at c 0 ≡ 0
first_zero c [] long zeros none = absurd none
first_zero c (v ∷ vs) long zeros (inl block) = block 0 (omega arith) (omega arith) (omega arith) ∙ zeros.0
first_zero c (v ∷ vs) long zeros (inr rest) = first_zero c vs long zeros.1 rest

-- where each version begins with a zero, what is held is torn
pub all_torn : (c : List ℕ) (vs : List (List ℕ)) → AllByRecursion (λ v. byte_at v 0 ≡ 0) vs → MayHold vs c → IsTorn c
all_torn c vs zeros h = elim (cases_lt 64 (length c)) [
  | inl long ↦ inl (first_zero c vs long zeros (h.blocks 0))
  | inr short ↦ inr (omega arith)
]

-- a block that is not the first one is that of the version below
below_block : (c z v : List ℕ) (vs : List (List ℕ)) → ((i : ℕ) → 64 ≤ i → byte_at z i ≡ byte_at v i) →
    SomeOf (HasBlock c 0) (v ∷ vs) → (k : ℕ) → SomeOf (HasBlock c k) (z ∷ v ∷ vs) → SomeOf (HasBlock c k) (v ∷ vs)
below_block c z v vs same first zero some = first
below_block c z v vs same first (suc k) (inl block) = inl (λ i from to below. block i from to below
    ∙ same i (omega (arith, from)))
below_block c z v vs same first (suc k) (inr rest) = rest

-- what a file holds whose first block was cleared
pub cleared_holds : (c z : List ℕ) (vs : List (List ℕ)) → byte_at z 0 ≡ 0 → length z ≤ max (length (newest [] vs)) 64 →
    length (newest [] vs) ≤ length z →
    ((i : ℕ) → 64 ≤ i → byte_at z i ≡ byte_at (newest [] vs) i) → MayHold (z ∷ vs) c → MayHold vs c ⊎ IsTorn c
cleared_holds c z [] zero_first size above same h = inr (all_torn c (z ∷ []) (zero_first, tt) h)
cleared_holds c z (v ∷ vs) zero_first size above same h =
    elim (cases_lt 64 (length c)) [
      | inr short ↦ inr (inr (omega arith))
      | inl long ↦ elim (h.blocks 0) [
        | inl block ↦ inr (inl (block 0 (omega arith) (omega arith) (omega arith) ∙ zero_first))
        | inr first ↦ inl (record {
          blocks = λ k. below_block c z v vs same first k (h.blocks k);
          least = elim h.least [ inl le ↦ inl (omega arith) | inr rest ↦ rest ];
          most = elim h.most [ inl le ↦ inl (omega arith) | inr rest ↦ rest ];
        })
      ]
    ]

-- a block of the new bytes, or of those whose head is missing
above_block : (c bytes z : List ℕ) → ((i : ℕ) → 64 ≤ i → byte_at z i ≡ byte_at bytes i) → HasBlock c 0 bytes →
    (k : ℕ) → SomeOf (HasBlock c k) (bytes ∷ z ∷ []) → SomeOf (HasBlock c k) (bytes ∷ [])
above_block c bytes z same first zero some = inl first
above_block c bytes z same first (suc k) (inl block) = inl block
above_block c bytes z same first (suc k) (inr (inl block)) =
    inl (λ i from to below. block i from to below ∙ same i (omega (arith, from)))
above_block c bytes z same first (suc k) (inr (inr none)) = absurd none

-- what a file holds that gets its head
pub finished_holds : (c bytes z : List ℕ) → byte_at z 0 ≡ 0 → length z ≡ length bytes →
    ((i : ℕ) → 64 ≤ i → byte_at z i ≡ byte_at bytes i) →
    MayHold (bytes ∷ z ∷ []) c → (c ≡ bytes) ⊎ IsTorn c
finished_holds c bytes z zero_first size same h =
    elim (cases_lt 64 (length c)) [
      | inr short ↦ inr (inr (omega arith))
      | inl long ↦ elim (h.blocks 0) [
        | inl first ↦ inl (holds_one bytes c (record {
          blocks = λ k. above_block c bytes z same first k (h.blocks k);
          least = elim h.least [
            | inl le ↦ inl le
            | inr rest ↦
                inl (elim rest [ inl le ↦ omega arith | inr none ↦ absurd none ])
          ];
          most = elim h.most [
            | inl le ↦ inl le
            | inr rest ↦
                inl (elim rest [ inl le ↦ omega arith | inr none ↦ absurd none ])
          ];
        }))
        | inr rest ↦ elim rest [
          | inl block ↦ inr (inl (block 0 (omega arith) (omega arith) (omega arith) ∙ zero_first))
          | inr none ↦ absurd none
        ]
      ]
    ]
