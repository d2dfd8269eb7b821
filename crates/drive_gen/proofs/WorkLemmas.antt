-- The commands of a generated list, piece by piece.
use Rattle.drive_gen.proofs.Common.{◌≡◌, ℕ, ◌+◌, Bool, true, false, cond, List, [], ◌∷◌, ◌++◌, refl, arith, flat_map, map, range_with_len, Config, fill, generated, numbered, drawn_batch, page_count}
use Rattle.std.proofs.Common.{nat_le}
use Rattle.std.specs.List.{AllByRecursion, All}
use Rattle.std.proofs.lemmas.List.Elements.{All-from_recursion}
use Rattle.tx_types.specs.Batch.{Writes}
use Rattle.host_protocol.specs.Commands.{Suits}
use Rattle.host_protocol.specs.declared.command.Command.TheVariants as command
use Rattle.drive_gen.specs.declared.kind.Kind.{Kind}
use Rattle.drive_gen.specs.declared.kind.Kind.TheVariants as kind
use Rattle.drive_gen.specs.Work.{of_kind, transaction, drawn_kind, aborted}

-- ---- each command suits the device

all_append : {X : Type 0} (P : X → Type 0) (xs ys : List X) → AllByRecursion P xs → AllByRecursion P ys →
    AllByRecursion P (xs ++ ys)
all_append P [] ys p q = q
all_append P (x ∷ xs) ys p q = (p.0, all_append P xs ys p.1 q)

all_flat : {X : Type 0} (P : X → Type 0) (f : ℕ → List X) (xs : List ℕ) → ((n : ℕ) → AllByRecursion P (f n)) →
    AllByRecursion P (flat_map f xs)
all_flat P f [] h = tt
all_flat P f (x ∷ xs) h = all_append P (f x) (flat_map f xs) (h x) (all_flat P f xs h)

all_map : {X : Type 0} (P : X → Type 0) (f : ℕ → X) (xs : List ℕ) → ((n : ℕ) → P (f n)) → AllByRecursion P (map f xs)
all_map P f [] h = tt
all_map P f (x ∷ xs) h = (h x, all_map P f xs h)

either : {X : Type 0} (P : List X → Type 0) (b : Bool) (xs ys : List X) → P xs → P ys → P (cond b xs ys)
either P true xs ys p q = p
either P false xs ys p q = q

abort_suits : (size tag pages : ℕ) (batch : Writes) → batch.page_bytes ≡ size →
    AllByRecursion (Suits size) (aborted tag batch pages)
abort_suits size tag pages batch e =
    let P = AllByRecursion (Suits size) in (
      e,
      all_append (Suits size) (cond (nat_le pages 1) [] (command.Step tag ∷ [])) (command.Abort tag ∷ [])
          (either P (nat_le pages 1) [] (command.Step tag ∷ []) tt (tt, tt)) (tt, tt),
    )

kind_suits : (k : Kind) (c : Config) (x tag : ℕ) → AllByRecursion (Suits c.page_bytes) (of_kind k c x tag)
kind_suits kind.Cut c x tag = (omega arith, (refl, (tt, tt)))
kind_suits kind.Abort c x tag = abort_suits c.page_bytes tag (page_count c x) (drawn_batch c x) refl
kind_suits kind.Finish c x tag = (refl, (tt, tt))

transaction_suits : (c : Config) (x tag : ℕ) → AllByRecursion (Suits c.page_bytes) (transaction c x tag)
unfolding transaction
transaction_suits c x tag = kind_suits (drawn_kind c x) c x tag

suits : (start count : ℕ) (c : Config) → AllByRecursion (Suits c.page_bytes) (generated start count c)
unfolding generated
suits start count c =
    let P = Suits c.page_bytes in
    let pages = range_with_len 0 c.logical in
    let fills = flat_map (fill c) pages in
    let works = flat_map (numbered c start) (range_with_len 0 count) in
    let reads = map (λ page. command.Read page) pages in
    all_append P ((fills ++ works) ++ reads) (command.Stats ∷ [])
    (all_append P (fills ++ works) reads
    (all_append P fills works
    (all_flat P (fill c) pages (λ n. (refl, (tt, tt))))
    (all_flat P (numbered c start) (range_with_len 0 count) (λ n. transaction_suits c _ (n + 1))))
    (all_map P (λ page. command.Read page) pages (λ n. tt)))
    (tt, tt)

pub list_suits : (start count : ℕ) (c : Config) → All (Suits c.page_bytes) (generated start count c)
list_suits start count c = All-from_recursion (Suits c.page_bytes) (generated start count c) (suits start count c)
