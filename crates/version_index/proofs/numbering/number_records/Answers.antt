-- One record after the other gets its number, and raises the mentions.
use Rattle.version_index.proofs.Common.{◌+◌, length, get_or, take, take_all, arith, ap, ◌∙◌, subst, sym, inl, inr, cases_eq}
use Rattle.std.proofs.Common.{rules}
use Rattle.std.proofs.lemmas.List.{get_or-replicate}
use Rattle.record_list.specs.Records.{record_at}
use Rattle.judged_records.proofs.OfChanges.Mentions.{mentions_more, mentions_are}
use Rattle.version_index.proofs.OfOpening.ScanNumbers.{IsNumberingSo, start_numbering, its_page, its_free, its_order, number_more}
use Rattle.version_index.proofs.numbering.number_records.Goals as goal

pub loop-found-init : goal.loop-found-init
loop-found-init c =
    let k = c.args.tables.now in
    record {
      numbering = subst (λ n. IsNumberingSo k.shape (length k.pages) c.args.records.now n k 0)
          (sym c.in_ok-numbers.ensures.items)
          (start_numbering k.shape (length k.pages) c.args.records.now k c.requires.blank);
      room = search rules;
      mentions = record {
        size = search rules;
        each = λ page low.
            ap (λ l. get_or l page 0) (c.in_ok-mentions.ensures.items_if_clones_equal (λ y same. same))
            ∙ get_or-replicate c.args.logical page 0 0 low;
      };
      kept = λ none j low. absurd (omega arith);
    }

pub number_of-number-requires-clause-page : goal.number_of-number-requires-clause-page
number_of-number-requires-clause-page c = its_page _ _ _ _ _ _ c.loop-found.invariant.numbering
    c.loop-found-test.true c.requires.pages

pub number_of-number-requires-clause-free : goal.number_of-number-requires-clause-free
number_of-number-requires-clause-free c = its_free _ _ _ _ _ _ c.loop-found.invariant.numbering
    c.loop-found-test.true c.requires.few

pub number_of-number-requires-clause-order : goal.number_of-number-requires-clause-order
number_of-number-requires-clause-order c = its_order _ _ _ _ _ _ c.loop-found.invariant.numbering
    c.loop-found-test.true c.requires.order

pub loop-found-preserved : goal.loop-found-preserved
loop-found-preserved c =
    let k = c.args.tables.now in
    let t = c.number_of-number.new.tables in
    let records = c.args.records.now in
    let at = c.loop-found.found-index in
    let before = c.loop-found.invariant in
    let said = c.mention.ensures in
    record {
      numbering = subst (λ n. IsNumberingSo k.shape (length k.pages) records n t (at + 1))
          (sym c.push_reserved.ensures.items)
          (number_more _ _ _ _ _ _ before.numbering c.loop-found-test.true c.requires.agree t
          c.number_of-number.result c.number_of-number.ensures.number);
      room = rw c.push_reserved.ensures.capacity before.room;
      mentions = mentions_more records at c.args.logical c.loop-found.mentions.items said.once
          c.mention.new.mentions.items c.loop-found-test.true before.mentions said.size_once said.size_new said.own
          said.linked;
      kept = λ none j low. elim (cases_eq j at) [
        | inl here ↦ ap (λ i. (record_at records i).discard) here ∙ c.discards_or-discards.ensures.own none
        | inr off ↦ before.kept (c.discards_or-discards.ensures.other none) j (omega arith)
      ];
    }

pub returns-clause-discards : goal.returns-clause-discards
returns-clause-discards c = λ none j low.
    c.loop-found.invariant.kept none j (omega (arith, low, c.loop-found-test.false))

pub returns-clause-mentions : goal.returns-clause-mentions
returns-clause-mentions c =
    mentions_are c.args.records.now (take c.loop-found.found-index c.args.records.now) c.args.logical
    c.loop-found.mentions.items
    (take_all c.loop-found.found-index c.args.records.now (omega arith)) c.loop-found.invariant.mentions
