-- Programs of one die, or of two, that are started together.
use Rattle.std.proofs.Common.{◌≡◌, ◌≢◌, ℕ, zero, suc, ◌+◌, ◌<◌, ◌≤◌, List, [], ◌∷◌, ◌++◌, length, Option, None, sym, ap, subst, ◌∙◌, arith}
use Rattle.std.specs.Prelude.{AllPairs}
use Rattle.std.proofs.lemmas.List.{length-set, length-replicate}
use Rattle.std.proofs.lemmas.List.Elements.{All-nil, All-cons}
use Rattle.tx_types.specs.declared.config.Shape.{Shape}
use Rattle.flash_model.specs.Flash.{Contents}
use Rattle.flash_model.specs.Operations.{Load, CanLoad, CanDo, die_of, fire}
use Rattle.flash_model.specs.Firing.{no_loads, loads_in, with_load}
use Rattle.flash_model.proofs.FireLemmas.{empty_registers, loads_in-more, AreFreeFrom-more}

module _ (shape : Shape) (image : List Contents) where
  pub none_can : CanDo shape image (fire (loads_in (no_loads shape)))
  none_can = subst (λ loads. CanDo shape image (fire loads)) (sym (empty_registers shape.dies).0)
      (All-nil (CanLoad shape image), λ i j d less below. absurd (omega arith))

  module _ (a : Load) (within : die_of shape a.at < shape.dies) (can : CanLoad shape image a) where
    one_loaded : loads_in (with_load shape (no_loads shape) a) ≡ a ∷ []
    one_loaded =
        let empty = empty_registers shape.dies in
        loads_in-more (no_loads shape) (die_of shape a.at) a (rw length-replicate within)
        (λ k low. empty.1 k (omega arith))
        ∙ ap (λ (loads : List Load). loads ++ a ∷ []) empty.0

    pub one_can : CanDo shape image (fire (loads_in (with_load shape (no_loads shape) a)))
    one_can = subst (λ loads. CanDo shape image (fire loads)) (sym one_loaded) (
      All-cons (CanLoad shape image) a [] can (All-nil (CanLoad shape image)),
      λ i j d less below. absurd (omega arith),
    )

    module _ (b : Load) (later : die_of shape a.at < die_of shape b.at) (last : die_of shape b.at < shape.dies)
        (could : CanLoad shape image b) where
      both_loaded : loads_in (with_load shape (with_load shape (no_loads shape) a) b) ≡ a ∷ b ∷ []
      both_loaded =
          let empty = empty_registers shape.dies in
          let long : length (with_load shape (no_loads shape) a) ≡ shape.dies =
          length-set (no_loads shape) (die_of shape a.at) _ ∙ length-replicate shape.dies None in
          loads_in-more (with_load shape (no_loads shape) a) (die_of shape b.at) b (omega (arith, long))
          (λ k low. AreFreeFrom-more (no_loads shape) (die_of shape a.at) a (λ j from. empty.1 j (omega arith)) k
          (omega arith))
          ∙ ap (λ (loads : List Load). loads ++ b ∷ []) one_loaded

      apart : AllPairs (λ (x y : Load). die_of shape x.at ≢ die_of shape y.at) (a ∷ b ∷ [])
      apart zero zero d less below = absurd (omega arith)
      apart zero (suc zero) d less below = λ same. absurd (omega (arith, same))
      apart zero (suc (suc j)) d less below = absurd (omega arith)
      apart (suc i) zero d less below = absurd (omega arith)
      apart (suc i) (suc j) d less below = absurd (omega arith)

      pub both_can : CanDo shape image (fire (loads_in (with_load shape (with_load shape (no_loads shape) a) b)))
      both_can = subst (λ loads. CanDo shape image (fire loads)) (sym both_loaded) (
        All-cons (CanLoad shape image) a (b ∷ []) can
            (All-cons (CanLoad shape image) b [] could (All-nil (CanLoad shape image))),
        apart,
      )
