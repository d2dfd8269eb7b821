use Rattle.std.proofs.Common.{◌≡◌, inl, inr, [], length, below_more, rules, arith}
use Rattle.std.specs.List.{Contains}
use Rattle.std.proofs.lemmas.Bool.{cases_lt}
use Rattle.std.proofs.lemmas.List.{get_or_past}
use Rattle.dense_tables.specs.LinkedLists.{list_of}
use Rattle.unit_tests.proofs.dense_tables_tests.is_free.Goals as goal

pub loop-key-preserved : goal.loop-key-preserved
loop-key-preserved c =
    let here : Contains (list_of c.args.chains.now c.loop-key.key) c.args.at → ⊥ = search rules in
    below_more (λ key. Contains (list_of c.args.chains.now key) c.args.at → ⊥) _ c.loop-key.invariant here

pub returns : goal.returns
returns c _ listed =
    elim (cases_lt listed.0 (length c.args.chains.now.lists)) [
      | inl low ↦ c.loop-key.invariant listed.0 (omega arith) listed.1
      | inr past ↦
          let none : list_of c.args.chains.now listed.0 ≡ [] = get_or_past c.args.chains.now.lists listed.0 [] past in
          let no = rw none at listed.1.1 in
          omega arith
    ]
