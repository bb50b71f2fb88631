-- Laws of lists: parts by their length, and elements one after the other.
use Prim.Native.Nat.{ℕ, zero, suc, ◌+◌, ◌-◌, ◌*◌, ◌≤◌, ◌<◌}
use mathlib.Core.Path.{◌≡◌, refl, sym, ap, ◌∙◌}
use mathlib.Core.List.{List, [], ◌∷◌, ◌++◌, map, append-nil, append_assoc}
use native.Mathlib.Nat.{not-suc-le-zero, le_of_suc-le-suc}
use native.Mathlib.Numerals.{add-one}
use native.Mathlib.Omega.{arith}
use lib.ListN.{length, take, drop, get_or, length-append, length-drop, length-map}
use lib.Seq.{take_all, take-suc, take-append-le, drop-append-le}
use Rattle.ground.specs.Lists.{joined}

-- ## Parts

module _ {A : Type 0} where
  -- a part by its own length
  pub take_of : (n : ℕ) (l : List A) → take (length (take n l)) l ≡ take n l
  take_of zero l = refl
  take_of (suc n) [] = refl
  take_of (suc n) (x ∷ l) = ap (λ (r : List A). x ∷ r) (take_of n l)

  pub drop_of : (n : ℕ) (l : List A) → drop (length (take n l)) l ≡ drop n l
  drop_of zero l = refl
  drop_of (suc n) [] = refl
  drop_of (suc n) (x ∷ l) = drop_of n l

  -- what is read inside a part, whatever is read past the end
  pub read-inside : (n : ℕ) (l : List A) (i : ℕ) (d e : A) → i < length (take n l) → get_or l i d ≡ get_or (take n l) i e
  read-inside zero l i d e h = absurd (not-suc-le-zero h)
  read-inside (suc n) [] i d e h = absurd (not-suc-le-zero h)
  read-inside (suc n) (x ∷ l) zero d e h = refl
  read-inside (suc n) (x ∷ l) (suc i) d e h = read-inside n l i d e (le_of_suc-le-suc h)

-- the part from a place to the end
pub part_end : (l : List ℕ) (n i : ℕ) → length l ≡ n → take (n - i) (drop i l) ≡ drop i l
part_end l n i e = take_all (n - i) (drop i l) (rw length-drop (omega arith))

-- a part stays as more comes behind it
pub part_stays : (w at : ℕ) (p q : List ℕ) → at + w ≤ length p → take w (drop at (p ++ q)) ≡ take w (drop at p)
part_stays w at p q h = rw (drop-append-le at p q (omega arith), take-append-le w (drop at p) q (omega (arith, length-drop at p)))

-- what was added twice
pub added_twice : {r u : List ℕ} (T A B : List ℕ) → u ≡ T ++ A → r ≡ u ++ B → r ≡ T ++ (A ++ B)
added_twice T A B e f = f ∙ ap (λ (x : List ℕ). x ++ B) e ∙ append_assoc T A B

-- the length of an array of structs in a struct, as its type says it
pub unmapped : (X Y : Type 0) (f : X → Y) (l : List X) (n : ℕ) → length (map f l) ≡ n → length l ≡ n
unmapped X Y f l n h = sym (length-map l f) ∙ h

-- ## Elements one after the other

module _ {A : Type 0} (f : A → List ℕ) where
  joined-append : (xs ys : List A) → joined f (xs ++ ys) ≡ joined f xs ++ joined f ys
  joined-append [] ys = refl
  joined-append (x ∷ xs) ys = ap (λ (l : List ℕ). f x ++ l) (joined-append xs ys) ∙ sym (append_assoc (f x) (joined f xs) (joined f ys))

  -- one more element
  pub joined-more : (xs : List A) (i : ℕ) (z : A) → i < length xs → joined f (take i xs) ++ f (get_or xs i z) ≡ joined f (take (i + 1) xs)
  joined-more xs i z h =
      let e = ap (λ (l : List ℕ). joined f (take i xs) ++ l) (append-nil (f (get_or xs i z))) in
      sym (rw (add-one, take-suc xs i z) (joined-append (take i xs) (get_or xs i z ∷ []) ∙ e))

  -- elements of one width
  pub joined_length : (w : ℕ) → ((x : A) → length (f x) ≡ w) → (xs : List A) → length (joined f xs) ≡ length xs * w
  joined_length w e [] = omega arith
  joined_length w e (x ∷ xs) = length-append (f x) (joined f xs) ∙ rw (e x, joined_length w e xs) (omega arith)

  -- the bytes of each element made first
  pub joined-map : (n : ℕ) (xs : List A) → joined (λ r. r) (take n (map f xs)) ≡ joined f (take n xs)
  joined-map zero xs = refl
  joined-map (suc n) [] = refl
  joined-map (suc n) (x ∷ xs) = ap (λ (l : List ℕ). f x ++ l) (joined-map n xs)
