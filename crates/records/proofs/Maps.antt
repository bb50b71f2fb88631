-- An array whose elements are what a function gives for each element of another is its `map`.
use Prim.Native.Nat.{ℕ, ◌<◌}
use mathlib.Core.Path.{◌≡◌, sym, ◌∙◌}
use mathlib.Core.List.{List, map}
use lib.ListN.{length, get_or, length-map, get_or-map}
use Rattle.std.proofs.lemmas.List.{ext_get_or}

pub map_is : {A B : Type 0} (f : A → B) (z : A) (xs : List A) (ys : List B) → length ys ≡ length xs
    → ((i : ℕ) → i < length ys → get_or ys i (f z) ≡ f (get_or xs i z)) → ys ≡ map f xs
map_is f z xs ys l e =
    ext_get_or (f z) ys (map f xs) (l ∙ sym (length-map xs f)) (λ i h. e i h ∙ sym (get_or-map f xs i z))
