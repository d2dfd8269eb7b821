-- The record that is looked for stands in what is left of the list of its page.
use Rattle.slot_tables.proofs.Common.{◌≡◌, ◌<◌, Some, None, length, sym, ◌∙◌, ap, arith, record_at}
use Rattle.slot_tables.proofs.OfRecords.Numbering.{pages_long, listed_record, same_record, ahead_first, ahead_next, none_behind, one_number}
use Rattle.slot_tables.proofs.records.Records.number_of.Goals as goal

pub loop-next-init : goal.loop-next-init
loop-next-init c =
    let r = c.self.inside in
    let low = rw (← c.self.view_is, pages_long r c.self.invariant) at c.requires in (
      ahead_first r c.self.invariant c.args.page c.args.version low c.first-next.result c.first-next.ensures.order,
      c.first-next.ensures.listed,
    )

pub get-requires : goal.get-requires
get-requires c =
    let r = c.self.inside in
    let within = c.first-next.ensures.lists.within c.args.page c.in-Some.number
    (rw c.in-Some.is at c.loop-next.invariant.1) in
    rw c.self.invariant.places at within

pub returns-in_default-get-clause-names : goal.returns-in_default-get-clause-names
returns-in_default-get-clause-names c =
    let r = c.self.inside in
    let low = rw (← c.self.view_is, pages_long r c.self.invariant) at c.requires in
    let has = rw c.in-Some.is at c.loop-next.invariant.1 in
    let rec = listed_record r c.args.page c.in-Some.number c.self.invariant low has in
    let within : c.in-Some.number < length r.records = rw c.self.invariant.places at
    (c.first-next.ensures.lists.within c.args.page c.in-Some.number has) in
    let none = c.get.ensures None ∙ c.in_default-get.is in
    absurd (let no : None ≡ Some rec.0 = sym none ∙ rec.1 in cc)

pub returns-then-rec-version-2-clause-names : goal.returns-then-rec-version-2-clause-names
returns-then-rec-version-2-clause-names c =
    let r = c.self.inside in
    let low = rw (← c.self.view_is, pages_long r c.self.invariant) at c.requires in
    let has = rw c.in-Some.is at c.loop-next.invariant.1 in
    let found = listed_record r c.args.page c.in-Some.number c.self.invariant low has in
    let within : c.in-Some.number < length r.records = rw c.self.invariant.places at
    (c.first-next.ensures.lists.within c.args.page c.in-Some.number has) in
    let is : record_at r.records c.in-Some.number ≡ Some c.in-Some-get.rec =
    c.get.ensures None ∙ c.in-Some-get.is in
    let page = ap (λ f. f.page) (same_record c.in-Some-get.rec found.0 (sym is ∙ found.1)) ∙ found.2 in
    rw (← c.self.view_is)
    (λ number rec rec_is. (
      λ names. ap Some (one_number r c.self.invariant c.args.page c.args.version low c.in-Some.number number
          c.in-Some-get.rec rec is
          rec_is (page, c.if-rec-version-2.true) names),
      λ e.
          let number_is : c.in-Some.number ≡ number = cc in
          let one = same_record c.in-Some-get.rec rec (sym is ∙ rw (← number_is) at rec_is) in
          rw (← one) (page, c.if-rec-version-2.true),
    ))

pub returns-then-rec-version-2-clause-found : goal.returns-then-rec-version-2-clause-found
returns-then-rec-version-2-clause-found c =
    let r = c.self.inside in
    let low = rw (← c.self.view_is, pages_long r c.self.invariant) at c.requires in
    let has = rw c.in-Some.is at c.loop-next.invariant.1 in
    let found = listed_record r c.args.page c.in-Some.number c.self.invariant low has in
    let within : c.in-Some.number < length r.records = rw c.self.invariant.places at
    (c.first-next.ensures.lists.within c.args.page c.in-Some.number has) in
    let is : record_at r.records c.in-Some.number ≡ Some c.in-Some-get.rec =
    c.get.ensures None ∙ c.in-Some-get.is in
    let page = ap (λ f. f.page) (same_record c.in-Some-get.rec found.0 (sym is ∙ found.1)) ∙ found.2 in
    rw (← c.self.view_is, is) (page, c.if-rec-version-2.true)

pub returns-else-rec-version-2-clause-names : goal.returns-else-rec-version-2-clause-names
returns-else-rec-version-2-clause-names c =
    let r = c.self.inside in
    let low = rw (← c.self.view_is, pages_long r c.self.invariant) at c.requires in
    let has = rw c.in-Some.is at c.loop-next.invariant.1 in
    let within : c.in-Some.number < length r.records = rw c.self.invariant.places at
    (c.first-next.ensures.lists.within c.args.page c.in-Some.number has) in
    let is : record_at r.records c.in-Some.number ≡ Some c.in-Some-get.rec =
    c.get.ensures None ∙ c.in-Some-get.is in
    let older : c.in-Some-get.rec.version < c.args.version =
    omega (arith, c.if-rec-version.true, c.if-rec-version-2.false) in
    rw (← c.self.view_is)
    (λ number rec rec_is. (
      λ names. absurd (none_behind r c.self.invariant c.args.page c.args.version low c.in-Some.number c.in-Some-get.rec
          (rw c.in-Some.is at c.loop-next.invariant.0) is has older number rec rec_is names),
      λ e. absurd (cc),
    ))

pub loop-next-preserved : goal.loop-next-preserved
loop-next-preserved c =
    let r = c.self.inside in
    let low = rw (← c.self.view_is, pages_long r c.self.invariant) at c.requires in
    let has = rw c.in-Some.is at c.loop-next.invariant.1 in
    let within : c.in-Some.number < length r.records = rw c.self.invariant.places at
    (c.first-next.ensures.lists.within c.args.page c.in-Some.number has) in
    let is : record_at r.records c.in-Some.number ≡ Some c.in-Some-get.rec =
    c.get.ensures None ∙ c.in-Some-get.is in (
      ahead_next r c.self.invariant c.args.page c.args.version low c.in-Some.number c.in-Some-get.rec c.next-next.result
          (rw c.in-Some.is at c.loop-next.invariant.0) is (c.next-next.ensures.order c.args.page has)
          c.if-rec-version.false,
      c.next-next.ensures.listed c.args.page has,
    )
