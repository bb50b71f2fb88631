-- Each word's four bytes, one word after the other.
use Rattle.std.proofs.Common.{◌≡◌, ℕ, ◌<◌, length, List, [], ◌∷◌, ◌++◌, slice_index_or, arith, rules, suc, refl, ap₂, ◌∙◌}
use Rattle.std.specs.List.{flat_map}
use Rattle.wire.specs.BigEndian.{bytes_of}
use Rattle.ground.specs.Lists.{joined}
use Rattle.messages.proofs.reply.write_header.Goals as goal

rows_joined : (f : ℕ → List ℕ) (xs : List ℕ) (rows : List (List ℕ)) → length rows ≡ length xs
    → ((i : ℕ) → i < length xs → slice_index_or rows i [] ≡ f (slice_index_or xs i 0)) → flat_map (λ row. row) rows ≡ joined f xs
rows_joined f [] [] n each = refl
rows_joined f [] (row ∷ rows) n each = absurd (omega arith)
rows_joined f (x ∷ xs) [] n each = absurd (omega arith)
rows_joined f (x ∷ xs) (row ∷ rows) n each =
    ap₂ ◌++◌ (each 0 (omega arith)) (rows_joined f xs rows (omega arith) (λ i h. each (suc i) (omega arith)))

pub returns : goal.returns
returns c =
    let rows = c.map-header.ensures.items in
    let n : length c.map-header.result ≡ length c.args.words = search (rules, rows.long) in
    let bytes = rows_joined (bytes_of 4) c.args.words c.map-header.result n (λ i h. (rows.at i 0 [] (omega (arith, n, rows.long))).2.met) in
    rw (c.as_flattened.ensures.value ∙ bytes) at c.write.ensures
