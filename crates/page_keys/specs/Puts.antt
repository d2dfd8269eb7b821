-- When a put is refused, and what it writes.
use Rattle.std.specs.Prelude.{ℕ, ◌*◌, ◌≤◌, nat_le, nat_lt, Bool, List, [], ◌∷◌, ◌++◌, length, map, find, Option, None, Some, IfSome, option_map, if◌then◌else◌}
use Rattle.std.specs.List.{list_any}
use Rattle.std.specs.Option.{option_or}
use Rattle.std.specs.Str.{bytes_eq}
use Rattle.std.specs.FinMap as keys
use Rattle.tx_types.specs.Batch.{PageWrite}
use Rattle.tx_types.specs.declared.config.Config.{Config}
use Rattle.page_keys.specs.KeyMaps.{KeyMap, apply, part, pages_of}
use Rattle.page_keys.specs.Buckets.{bucket_bytes}
use Rattle.page_keys.specs.declared.changes.Change.{Change}
use Rattle.page_keys.specs.declared.answers.PutError.{PutError}
use Rattle.page_keys.specs.declared.answers.PutError.TheVariants as refused

-- a key has one to fifteen bytes, and a value up to fifteen
pub record IsKeyChange (c : Change) : Type 0 where
  pub least : 1 ≤ length c.key
  pub most : length c.key ≤ 15
  pub value : IfSome c.value (λ v. length v ≤ 15)

abbrev pub empty : List Change → Option PutError
empty [] = Some refused.Empty
empty (c ∷ cs) = None

abbrev pub has_key : List ℕ → Change → Bool
has_key key c = bytes_eq c.key key

-- the first change whose key stood earlier, where `earlier` are those before these
abbrev pub repeated : List Change → List Change → Option PutError
repeated earlier [] = None
repeated earlier (c ∷ cs) =
    if list_any (has_key c.key) earlier then Some (refused.Repeated (length earlier))
    else repeated (earlier ++ c ∷ []) cs

-- more pages than may be pending
abbrev pub wide : ℕ → List ℕ → Option PutError
wide pending pages =
    if nat_le (length pages) pending then None else Some (refused.Wide (length pages))

-- the refusal that the changes alone give
abbrev pub early_refusal : Config → List Change → Option PutError
early_refusal its cs =
    option_or (empty cs)
    (option_or (repeated [] cs) (wide its.pending (pages_of its.logical cs)))

-- the entries of a page do not fit in it
abbrev pub is_over : Config → KeyMap → ℕ → Bool
is_over its m page =
    nat_lt its.page_bytes (32 * length (keys.entries (part its.logical page m)))

abbrev pub full : Config → KeyMap → List Change → Option PutError
full its m cs =
    option_map (λ page. refused.Bucket page)
    (find (is_over its (apply m cs)) (pages_of its.logical cs))

abbrev pub spent_among : Config → (ℕ → Bool) → List Change → Option PutError
spent_among its spent cs =
    option_map (λ page. refused.Spent page) (find spent (pages_of its.logical cs))

-- the first refusal of a put of these changes to a map, where these pages are spent
abbrev pub put_refusal : Config → (ℕ → Bool) → KeyMap → List Change → Option PutError
put_refusal its spent m cs =
    option_or (early_refusal its cs) (option_or (full its m cs) (spent_among its spent cs))

-- what is written of a page
abbrev pub write_of : Config → KeyMap → ℕ → PageWrite
write_of its m page = record {
  page = page;
  value = Some (bucket_bytes its.page_bytes (keys.entries (part its.logical page m)));
}

-- what a put writes: each page that a key falls in, as the map has it then
abbrev pub put_writes : Config → KeyMap → List Change → List PageWrite
put_writes its m cs = map (write_of its (apply m cs)) (pages_of its.logical cs)
