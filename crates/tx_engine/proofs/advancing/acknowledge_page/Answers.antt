mod CountExits
use Rattle.tx_engine.proofs.Common.{◌≡◌, ◌+◌, ap, sym, ◌∙◌, refl, arith, OpenTransactionsState, no_transaction, transaction_at, with_transaction, with_done, StoreState}
use Rattle.tx_engine.proofs.OfAbort.Aborting.{closed_machine, closed_exits, closed_current, ready_plain, either_mark}
use Rattle.tx_engine.proofs.advancing.acknowledge_page.Answers.CountExits.{counted_stands, counted_machine, counted_exits}
use Rattle.tx_engine.proofs.OfDevice.Kept.{from_stands}
use Rattle.tx_engine.proofs.advancing.acknowledge_page.Goals as goal

pub overflow_add-done : goal.overflow_add-done
overflow_add-done g c =
    let known = ((from_stands g.F.Flash.state c.args.store.now c.args.transactions.now c.requires.ready.stands).each
    c.args.at no_transaction
    c.requires.at).named.within in
    omega (arith, known, c.done_count-done.ensures, c.pages-all.ensures, c.pages-all.type_inv)

pub close-requires : goal.close-requires
close-requires g c = record { ready = c.requires.ready; at = c.requires.at }

pub returns-in-Whole : goal.returns-in-Whole
returns-in-Whole g c =
    let state = g.F.Flash.state in let S = c.args.store.now in let S' = c.close.new.store in
    let O = c.args.transactions.now in let O' = c.close.new.transactions in
    let gone = c.close.ensures.gone in let pins = c.close.ensures.pins in
    record {
      stands = c.close.ensures.stands;
      counts = (
        sym c.mark.ensures ∙ c.in-Whole.is,
        closed_machine state S S' O O' c.args.at pins gone c.requires.ready.stands c.requires.at
            (transaction_at O c.args.at).entry.tag refl,
      );
      exits = closed_exits state S S' O O' c.args.at pins gone;
      versions = closed_current state S S' O O' c.args.at pins gone;
      stays = pins;
      sure = ap (λ (T : StoreState _). T.unsure) pins ∙ c.requires.ready.sure;
      limits = record {
        page_bytes = ap (λ (o : OpenTransactionsState). o.page_bytes) gone;
        logical = ap (λ (o : OpenTransactionsState). o.logical) gone;
        pending = ap (λ (o : OpenTransactionsState). o.pending) gone;
      };
      opens = gone;
    }

pub returns-in-Plain : goal.returns-in-Plain
returns-in-Plain g c =
    let state = g.F.Flash.state in
    let O = c.args.transactions.now in
    let ready = ready_plain (transaction_at O c.args.at).entry.mark _ (either_mark _ _ c.mark.ensures c.in-Plain.is)
    c.requires.counts in
    let opens : c.set_done_count.new.self ≡ with_transaction O c.args.at
    (with_done (transaction_at O c.args.at) ((transaction_at O c.args.at).entry.done + 1)) =
    c.set_done_count.ensures ∙ ap (λ k. with_transaction O c.args.at (with_done (transaction_at O c.args.at) (k + 1)))
    c.done_count-done.ensures in
    record {
      stands = counted_stands state c.args.store.now O c.set_done_count.new.self c.args.at c.requires.ready.stands
          c.requires.ready.sure c.requires.at ready.0 ready.1
          opens;
      counts = counted_machine state c.args.store.now O c.set_done_count.new.self c.args.at c.requires.ready.stands
          c.requires.ready.sure c.requires.at ready.0
          ready.1 opens _ _ (ap (λ k. k + 1) c.done_count-done.ensures) c.pages-all.ensures;
      exits = counted_exits state c.args.store.now O c.set_done_count.new.self c.args.at c.requires.ready.stands
          c.requires.ready.sure c.requires.at ready.0 ready.1
          opens;
      versions = λ page. refl;
      stays = refl;
      sure = c.requires.ready.sure;
      limits = record {
        page_bytes = ap (λ (o : OpenTransactionsState). o.page_bytes) opens;
        logical = ap (λ (o : OpenTransactionsState). o.logical) opens;
        pending = ap (λ (o : OpenTransactionsState). o.pending) opens;
      };
      opens = c.set_done_count.ensures;
    }
