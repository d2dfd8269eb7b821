use Rattle.std.proofs.Common.{◌≡◌, ℕ, ◌≤◌, List, ◌++◌, take, replicate, Result, Ok, Err, OnOk, ap, ◌∙◌}
use Rattle.std.specs.Prelude.{if◌then◌else◌, is_ok}
use Rattle.std.proofs.lemmas.List.{take-replicate}
use Rattle.live_file.proofs.writing.add_set.Goals as goal

-- what is added after an Ok
added : {E : Type 0} (r : Result (Unit {0}) E) (new old xs ys : List ℕ) → xs ≡ ys →
    new ≡ (if is_ok r then old ++ xs else old) → OnOk r (new ≡ old ++ ys)
added (Ok u) new old xs ys same is = is ∙ ap (λ zs. old ++ zs) same
added (Err e) new old xs ys same is = tt

pub returns : goal.returns
returns c =
    let few : c.args.count ≤ 4164 = c.requires in
    added c.extend_from_slice.result c.extend_from_slice.new.self.items c.args.bytes.now.items
    (take c.args.count (replicate {A = ℕ} 4164 255)) (replicate {A = ℕ} c.args.count 255)
    (take-replicate c.args.count 4164 255 few) c.extend_from_slice.ensures.items
