mod NothingLeft
use Rattle.tx_engine.proofs.Common.{true, false, sym, ap, ◌∙◌, subst, refl, Config, ImageIsSound, by_err, store_in}
use Rattle.tx_engine.specs.Calls.{CollectsSettled}
use Rattle.tx_engine.proofs.OfCollect.Collecting.{collects_tables}
use Rattle.tx_engine.proofs.OfWrite.Leaving.{left_by}
use Rattle.tx_engine.proofs.collecting.collect_settled.Answers.NothingLeft.{nothing_left, nothing_of}
use Rattle.tx_engine.proofs.collecting.collect_settled.Goals as goal

pub returns-in_err-any : goal.returns-in_err-any
returns-in_err-any g c =
    let state = g.F.Flash.state in let S = c.args.store.now in let S' = c.collect.new.self in
    let O = c.args.transactions.now in let h = c.in_err-any.ensures in
    by_err c.from_residual.result (CollectsSettled state S S' O) c.from_residual.ensures.0 (λ y. record {
      left = left_by state S S' O true g.R.CommitRule.protocol c.array_stays.ensures c.image_is_sound.ensures
          c.requires.ready.rule c.requires.ready.stands h.keeps
          c.requires.ready.sure;
      tables = tt;
      stays = h.stays;
      broken = h.broken;
      sure = tt;
      nothing = λ is. absurd (let e = is in cc);
    })

pub returns : goal.returns
returns g c =
    let state = g.F.Flash.state in let S = c.args.store.now in let S' = c.collect.new.self in
    let O = c.args.transactions.now in let h = c.in_ok-any.ensures in
    let left = left_by state S S' O false g.R.CommitRule.protocol c.array_stays.ensures c.image_is_sound.ensures
    c.requires.ready.rule c.requires.ready.stands h.keeps
    c.requires.ready.sure in
    record {
      left = left;
      tables = collects_tables (store_in state S) (store_in state S') c.in_ok-any.any c.answer_of.result
          c.answer_of.ensures h.done;
      stays = tt;
      broken = tt;
      sure = h.keeps.sure;
      nothing = λ is.
          let none = nothing_of (store_in state S) (store_in state S') c.in_ok-any.any c.answer_of.result
          _ c.answer_of.ensures refl is h.done in
          nothing_left state S S' O c.no_garbage_means_tidy.ensures
          (subst ImageIsSound (sym (ap (λ (k : Config). k.protocol) h.keeps.preserves.config ∙ c.requires.ready.rule))
          c.image_is_sound.ensures)
          S.table S.unsure (state S.flash) c.requires.ready.stands.matches refl left.stands h.keeps.sure none;
    }
