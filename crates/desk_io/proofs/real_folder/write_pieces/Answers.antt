use Rattle.std.proofs.Common.{◌≡◌, ℕ, List, [], ◌∷◌, ◌++◌, refl, sym, ap, subst, ◌∙◌, append_assoc, append-nil, length}
use Rattle.std.proofs.KnownBytes.{Appends-nil, Appends-trans}
use Rattle.std.specs.Io.KnownBytes.{Appends}
use Rattle.std.specs.declared.slice.Chunks.{Chunks}
use Rattle.desk_io.proofs.real_folder.write_pieces.Goals as goal

pub loop-piece-init : goal.loop-piece-init
loop-piece-init g c = (
  [],
  Appends-nil (g.F.Write.contents c.args.file.now),
  ap (λ (i : Chunks ℕ). i.rest.now) c.into_iter-piece-iterator.ensures.into_iter_gives ∙ c.chunks-piece-items.ensures.rest,
)

pub loop-piece-preserved : goal.loop-piece-preserved
loop-piece-preserved g c =
    let (done, wrote, all) = c.loop-piece.invariant in
    let (_, (rest, _, _)) = c.in-Some.ensures.steps in (
      done ++ c.in-Some.piece.now,
      Appends-trans (g.F.Write.contents c.args.file.now) (g.F.Write.contents c.loop-piece.file)
          (g.F.Write.contents c.write_all.new.self) done c.in-Some.piece.now wrote c.in_ok-write_all.ensures.bytes,
      append_assoc done c.in-Some.piece.now c.next.new.self.rest.now ∙ ap (λ l. done ++ l) (sym rest) ∙ all,
    )

empty : (l : List ℕ) → length l ≡ 0 → l ≡ []
empty [] e = refl
empty (x ∷ xs) e = absurd (cc)

pub returns : goal.returns
returns g c =
    let (done, wrote, all) = c.loop-piece.invariant in
    let (_, (none, _)) = c.in-None.ensures.steps in
    subst (Appends (g.F.Write.contents c.args.file.now) (g.F.Write.contents c.loop-piece.file))
    (sym (append-nil done) ∙ ap (λ l. done ++ l) (sym (empty c.loop-piece.piece-iterator.rest.now none)) ∙ all) wrote
