use Rattle.version_index.proofs.Common.{◌≡◌, ◌<◌, ◌≤◌, ℕ, List, Option, Some, IfSome, ap, sym, subst, ◌∙◌, option_map_or, none-some, same_Some, Rec, TablesState, record_at, numbers_at, freed, version_at}
use Rattle.dense_tables.specs.LinkedLists.{next_in}
use Rattle.version_index.proofs.OfCommit.Taking.{IsTaking, over_of, none_taken, one_taken, less_over, all_taken, older_below}
use Rattle.version_index.proofs.committing.release_above.Goals as goal

pub loop-next-init : goal.loop-next-init
loop-next-init c =
    none_taken c.args.tables.now c.shape.ensures.kept c.args.page c.args.version c.newest-next.result
    c.newest-next.ensures.newest c.newest-next.ensures.within

abbrev version_by : List (Option Rec) → ℕ → ℕ
version_by records x = option_map_or (λ r. r.version) (record_at records x) 0

-- the record behind, in the tables that were
older_is : (k t u : TablesState) (x : ℕ) (next : Option ℕ) → u ≡ freed t x →
    t ≡ record k { answerers = t.answerers; waits = t.waits } →
    IfSome (record_at u.records x) (λ r. next ≡ next_in (numbers_at u.pages r.page) x) →
    (r : Rec) → record_at k.records x ≡ Some r → next ≡ next_in (numbers_at k.pages r.page) x
older_is k t u x next freed_so rest older r is =
    let records = ap (λ (v : TablesState). v.records) freed_so ∙ ap (λ (v : TablesState). v.records) rest in
    let pages = ap (λ (v : TablesState). v.pages) freed_so ∙ ap (λ (v : TablesState). v.pages) rest in
    subst (λ o. IfSome o (λ s. next ≡ next_in (numbers_at k.pages s.page) x)) (ap (λ l. record_at l x) records ∙ is)
    (subst (λ p. IfSome (record_at u.records x) (λ s. next ≡ next_in (numbers_at p s.page) x)) pages older)

pub loop-next-preserved : goal.loop-next-preserved
loop-next-preserved c =
    let k = c.args.tables.now in
    let t = c.loop-next.tables in
    let h = c.loop-next.invariant in
    let x = c.in-Some.number in
    let records = ap (λ (v : TablesState). v.records) h.rest in
    let its_rec = h.its x c.in-Some.is in
    let its = c.version_of.ensures ∙ ap (λ l. version_by l x) records in
    let above = c.if-version_of-version.false in
    subst (λ u. IsTaking k u c.args.page c.args.version c.older-next.result) (sym c.release.ensures)
    (one_taken k c.shape.ensures.kept c.args.page c.args.version t x
    (subst (IsTaking k t c.args.page c.args.version) c.in-Some.is h)
    c.older-next.result (older_is k t c.release.new.tables x c.older-next.result c.release.ensures h.rest
    c.older-next.ensures.next)
    (older_below k c.shape.ensures.kept x its_rec.0 its_rec.1 c.older-next.result
    (older_is k t c.release.new.tables x c.older-next.result c.release.ensures h.rest c.older-next.ensures.next
    its_rec.0 its_rec.1))
    (subst (λ v. c.args.version < v) its above))

pub loop-next-smaller : goal.loop-next-smaller
loop-next-smaller c =
    let k = c.args.tables.now in
    let t = c.loop-next.tables in
    let h = c.loop-next.invariant in
    let x = c.in-Some.number in
    let next = c.older-next.result in
    let records = ap (λ (v : TablesState). v.records) h.rest in
    let freed_records = ap (λ (v : TablesState). v.records) c.release.ensures ∙ records in
    let its_rec = h.its x c.in-Some.is in
    let its = c.version_of.ensures ∙ ap (λ l. version_by l x) records in
    let less = less_over k c.shape.ensures.kept c.args.page c.args.version t x
    (subst (IsTaking k t c.args.page c.args.version) c.in-Some.is h)
    next (older_is k t c.release.new.tables x next c.release.ensures h.rest c.older-next.ensures.next)
    (older_below k c.shape.ensures.kept x its_rec.0 its_rec.1 next
    (older_is k t c.release.new.tables x next c.release.ensures h.rest c.older-next.ensures.next its_rec.0 its_rec.1))
    (subst (λ v. c.args.version < v) its c.if-version_of-version.false) in
    subst (λ l. over_of l next < over_of t.records c.loop-next.next) (sym freed_records)
    (subst (λ l. over_of k.records next < over_of l c.loop-next.next) (sym records)
    (subst (λ o. over_of k.records next < over_of k.records o) (sym c.in-Some.is) less))

pub returns-then-version_of-version : goal.returns-then-version_of-version
returns-then-version_of-version c =
    let k = c.args.tables.now in
    let h = c.loop-next.invariant in
    let x = c.in-Some.number in
    let its = c.version_of.ensures ∙ ap (λ l. version_by l x) (ap (λ (v : TablesState). v.records) h.rest) in
    let low = subst (λ v. v ≤ c.args.version) its c.if-version_of-version.true in
    all_taken k c.shape.ensures.kept c.args.page c.args.version c.loop-next.tables c.loop-next.next h (λ y e.
    subst (λ z. version_at k (Some z) ≤ c.args.version) (same_Some x y (sym c.in-Some.is ∙ e)) low)

pub returns : goal.returns
returns c =
    all_taken c.args.tables.now c.shape.ensures.kept c.args.page c.args.version c.loop-next.tables c.loop-next.next
    c.loop-next.invariant (λ y e.
    absurd (none-some y (sym c.in_default.is ∙ e)))
