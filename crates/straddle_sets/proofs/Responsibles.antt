-- Which records have a responsible one.
use Rattle.std.proofs.Common.{◌≡◌, ℕ, ◌<◌, Bool, ◌&&◌, ltb, List, Contains, sym, ◌∙◌, inl, inr, arith, ltb-true, lt-ltb}
use Rattle.std.specs.List.{list_any}
use Rattle.std.specs.Option.{is_some}
use Rattle.std.proofs.lemmas.Bool.{and_parts, and_from}
use Rattle.list_lemmas.proofs.Tests.{any_of, any_from}
use Rattle.list_lemmas.proofs.Values.{one_test}
use Rattle.tx_types.specs.declared.record.Link.{Link}
use Rattle.tx_types.specs.declared.record.Rec.{Rec}
use Rattle.tx_types.specs.declared.config.Protocol.TheVariants.{Bpcc}
use Rattle.record_list.specs.declared.found.Found.{Found}
use Rattle.record_list.specs.Current.{cur, is_loose, straddling_upto, responsible, answers_for}
use Rattle.record_list.proofs.OfFacts.Names.{greatest_attained}
use Rattle.record_list.proofs.OfFacts.Held.{answer_of, answers}
use Rattle.straddle_sets.specs.Responsible.{responsible_index}
use Rattle.straddle_sets.proofs.Straddle.{Straddles, upto_cases}
use Rattle.straddle_sets.proofs.Homes.{some_passes}

-- a responsible version that is not 0 is a record's
pub has_responsible : (l : List Found) (logical : ℕ) (q : Link) → 0 < responsible Bpcc l logical q →
    (f : Found) × Contains l f × Straddles f.rec q × (f.rec.version ≡ responsible Bpcc l logical q)
has_responsible l logical q some =
    let top = cur Bpcc l logical q.page in
    let f = greatest_attained (straddling_upto top q) l some in
    elim (upto_cases top q f.0.rec) [
      | inl h ↦ (f.0, f.1, h.0, sym h.2 ∙ f.2)
      | inr none ↦ absurd (omega arith)
    ]

-- there is a responsible record exactly where the record is loose and some version is responsible
pub has_home : (l : List Found) (logical : ℕ) (r : Rec) →
    is_some (responsible_index l logical r) ≡ (is_loose Bpcc l logical r && ltb 0 (responsible Bpcc l logical r.next))
has_home l logical r =
    let test : Found → Bool = λ f. answers_for Bpcc l logical f.rec r in
    let a = is_loose Bpcc l logical r in
    let b = ltb 0 (responsible Bpcc l logical r.next) in
    some_passes test l ∙ one_test (list_any test l) (a && b)
    (λ any.
    let f = any_of test l any in
    let parts = answer_of l logical f.0.rec r f.2 in
    let under = parts.under in
    let version = parts.version in
    and_from a b (lt-ltb (cur Bpcc l logical r.page) r.version parts.loose)
    (lt-ltb 0 (responsible Bpcc l logical r.next) (omega arith)))
    (λ both.
    let parts = and_parts a b both in
    let f = has_responsible l logical r.next (ltb-true 0 (responsible Bpcc l logical r.next) parts.1) in
    any_from test l f.0 f.1 (answers l logical f.0.rec r (record {
      loose = ltb-true (cur Bpcc l logical r.page) r.version parts.0;
      page = sym f.2.0;
      from = f.2.1;
      under = f.2.2;
      version = sym f.3;
    })))
