-- What comes of reading a key script and of opening a store: one thing, and each ending of which a fact holds.
use Rattle.std.proofs.Common.{◌≡◌, inl, inr, ℕ, List, Result, Ok, Err, refl, sym, ap, subst, ◌∙◌}
use Rattle.std.proofs.lemmas.Bool.{cases_order}
use Rattle.tx_types.specs.declared.config.Config.{Config}
use Rattle.flash_model.specs.Flash.{Contents}
use Rattle.page_keys.proofs.OfParse.ScriptLemmas.{first_same, script_bad, script_same}
use Rattle.page_keys.specs.declared.command.KeyCommand.{KeyCommand}
use Rattle.desk_tasks.specs.Ending.{Ending, BadBucket, BadLine}
use Rattle.desk_tasks.specs.KeyWork.{AfterBuckets, AfterScript, HoldsKeys, OpensStore, ParsesScript, ParsingScript}

-- ---- what holds of each ending

pub script_all : (P : Ending → Type 0) (bytes : List ℕ) (next : List KeyCommand → Ending → Type 0) →
    ((n : ℕ) → P (BadLine n)) → ((cs : List KeyCommand) (ending : Ending) → next cs ending → P ending) →
    (ending : Ending) → ParsingScript bytes next ending → P ending
script_all P bytes next bad leads ending (parsed, parses, h) = after parsed h
  where
    after : (parsed : Result (List KeyCommand) ℕ) → AfterScript next parsed ending → P ending
    after (Ok cs) h = leads cs ending h
    after (Err n) h = rw h (bad n)

pub store_all : (P : Ending → Type 0) (its : Config) (image : List Contents) (done : Ending) → P done →
    ((page : ℕ) → P (BadBucket page)) → (ending : Ending) → OpensStore its image done ending → P ending
store_all P its image done good bad ending (held, holds, h) = after held h
  where
    after : (held : Result (Unit {0}) ℕ) → AfterBuckets done held ending → P ending
    after (Ok u) h = rw h good
    after (Err page) h = rw h (bad page)

-- ---- each step comes to one thing

one_script : (bytes : List ℕ) (p q : Result (List KeyCommand) ℕ) → ParsesScript bytes p →
    ParsesScript bytes q → p ≡ q
one_script bytes (Ok cs) (Ok ds) h k = ap (λ cs. Ok cs) (script_same bytes cs ds h k)
one_script bytes (Ok cs) (Err n) h k = absurd (script_bad bytes cs n h k)
one_script bytes (Err m) (Ok ds) h k = absurd (script_bad bytes ds m k h)
one_script bytes (Err m) (Err n) h k = ap (λ n. Err n) (first_same bytes m n h k)

pub one_parsing_script : (bytes : List ℕ) (next : List KeyCommand → Ending → Type 0) →
    ((cs : List KeyCommand) (a b : Ending) → next cs a → next cs b → a ≡ b) →
    (a b : Ending) → ParsingScript bytes next a → ParsingScript bytes next b → a ≡ b
one_parsing_script bytes next one a b h k =
    after k.0 (subst (λ parsed. AfterScript next parsed a) (one_script bytes h.0 k.0 h.1 k.1) h.2) k.2
  where
    after : (parsed : Result (List KeyCommand) ℕ) → AfterScript next parsed a →
        AfterScript next parsed b → a ≡ b
    after (Ok cs) h k = one cs a b h k
    after (Err n) h k = h ∙ sym k

one_held : (its : Config) (image : List Contents) (p q : Result (Unit {0}) ℕ) → HoldsKeys its image p →
    HoldsKeys its image q → p ≡ q
one_held its image (Ok p) (Ok q) h k = refl
one_held its image (Ok p) (Err n) h k = absurd (k.bad (h n k.exists))
one_held its image (Err m) (Ok q) h k = absurd (h.bad (k m h.exists))
one_held its image (Err m) (Err n) h k = elim (cases_order m n) [
  | inl same ↦ ap (λ n. Err n) same
  | inr (inl less) ↦ absurd (h.bad (k.before m less))
  | inr (inr more) ↦ absurd (k.bad (h.before n more))
]

pub one_store : (its : Config) (image : List Contents) (done : Ending) (a b : Ending) →
    OpensStore its image done a → OpensStore its image done b → a ≡ b
one_store its image done a b h k =
    after k.0 (subst (λ held. AfterBuckets done held a) (one_held its image h.0 k.0 h.1 k.1) h.2) k.2
  where
    after : (held : Result (Unit {0}) ℕ) → AfterBuckets done held a → AfterBuckets done held b → a ≡ b
    after (Ok u) h k = h ∙ sym k
    after (Err page) h k = h ∙ sym k
