-- The first place where a test holds: what one more turn of a search finds, and what the place says of the list.
use Prim.Native.Nat.{ℕ, suc, ◌+◌, ◌≤◌, ◌<◌}
use mathlib.Core.Path.{◌≡◌, refl, sym, ap, ◌∙◌}
use mathlib.Core.Bool.{Bool, true, false, cond, ◌||◌}
use mathlib.Core.List.{List, [], ◌∷◌}
use native.Mathlib.Numerals.{add-one, one-add}
use native.Mathlib.Omega.{arith}
use lib.Dec.{ltb}
use lib.ListN.{length, drop, get_or, drop_of_length-le}
use lib.Seq.{drop-cons}
use borrow.Author.Tests.{ltb-true, ltb-false, lt-ltb, le-ltb}
use Rattle.std.specs.Prelude.{None, Some, position}
use Rattle.std.specs.List.{position_or_len}
use Rattle.std.proofs.lemmas.List.Recursion.{is_position_or_len}
use Rattle.slot.specs.Slots.{place}
use Rattle.slot.specs.Sound.{any}

ltb_suc : (a b : ℕ) (o : Bool) → ltb a b ≡ o → ltb a b ≡ ltb (suc a) (suc b)
ltb_suc a b true e = let l : suc a < suc b = omega (arith, ltb-true a b e) in e ∙ sym (lt-ltb (suc a) (suc b) l)
ltb_suc a b false e = let l : suc b ≤ suc a = omega (arith, ltb-false a b e) in e ∙ sym (le-ltb (suc a) (suc b) l)

-- a search that has passed i elements: it ends at i; it goes on; nothing is left
module _ {A : Type 0} (test : A → Bool) (l : List A) (i : ℕ) where
  look : (d : A) → i < length l → place test (drop i l) ≡ cond (test (get_or l i d)) 0 (suc (place test (drop (suc i) l)))
  unfolding place
  look d h = ap (place test) (drop-cons l i d h)

  pub here : (d : A) → i < length l → place test l ≡ i + place test (drop i l) → test (get_or l i d) ≡ true → i ≡ place test l
  here d h inv e =
      let q : place test (drop i l) ≡ 0 = look d h ∙ rw e in
      omega arith

  pub on : (d : A) → i < length l → place test l ≡ i + place test (drop i l) → test (get_or l i d) ≡ false
      → place test l ≡ i + 1 + place test (drop (i + 1) l)
  on d h inv e =
      let q : place test (drop i l) ≡ suc (place test (drop (suc i) l)) = look d h ∙ rw e in
      rw add-one (omega arith)

  pub out : length l ≤ i → place test l ≡ i + place test (drop i l) → i ≡ place test l
  unfolding place
  out h inv =
      let q : place test (drop i l) ≡ 0 = ap (place test) (drop_of_length-le l h) in
      omega arith

module _ {A : Type 0} (test : A → Bool) where
  pub place_within : (l : List A) → place test l ≤ length l
  unfolding place
  place_within [] = omega arith
  place_within (x ∷ xs) = go (test x) (place_within xs)
    where
      go : (b : Bool) → place test xs ≤ length xs → cond b 0 (suc (place test xs)) ≤ suc (length xs)
      go true h = omega arith
      go false h = omega arith

  -- the test holds at a place that is found
  pub place_holds : (l : List A) (d : A) → place test l < length l → test (get_or l (place test l) d) ≡ true
  unfolding place
  place_holds [] d h = absurd (omega arith)
  place_holds (x ∷ xs) d h = go (test x) refl h (place_holds xs d)
    where
      go : (b : Bool) → test x ≡ b → cond b 0 (suc (place test xs)) < suc (length xs)
          → (place test xs < length xs → test (get_or xs (place test xs) d) ≡ true)
          → test (get_or (x ∷ xs) (cond b 0 (suc (place test xs))) d) ≡ true
      go true e h rest = e
      go false e h rest = rest (omega arith)

  -- it holds nowhere: the place is past the end
  pub place_none : (l : List A) → any test l ≡ false → place test l ≡ length l
  unfolding place any
  place_none [] e = refl
  place_none (x ∷ xs) e = go (test x) e (place_none xs)
    where
      go : (b : Bool) → (b || any test xs) ≡ false → (any test xs ≡ false → place test xs ≡ length xs) → cond b 0 (suc (place test xs)) ≡ suc (length xs)
      go true q rest = let z : ◌≡◌ {A = ℕ} 0 1 = cc in absurd (omega arith)
      go false q rest = ap suc (rest q)

  -- it holds somewhere exactly if the place is within
  pub any_place : (l : List A) → any test l ≡ ltb (place test l) (length l)
  unfolding place any
  any_place [] = refl
  any_place (x ∷ xs) = go (test x) (any_place xs)
    where
      go : (b : Bool) → any test xs ≡ ltb (place test xs) (length xs) → (b || any test xs) ≡ ltb (cond b 0 (suc (place test xs))) (suc (length xs))
      go true e = sym (lt-ltb 0 (suc (length xs)) (omega arith))
      go false e = e ∙ ltb_suc (place test xs) (length xs) (ltb (place test xs) (length xs)) refl

-- the library's `position` says the same, and none where the place is past the end
module _ {A : Type 0} (test : A → Bool) (l : List A) where
  pub position_place : position test l ≡ cond (ltb (place test l) (length l)) (Some (place test l)) None
  unfolding place
  position_place =
      let same : place test l ≡ position_or_len test l = is_position_or_len (place test) test refl (λ x xs. rw one-add refl) l in
      rw same refl

  pub position_some : (i : ℕ) → Some i ≡ position test l → (i ≡ place test l) × (i < length l)
  position_some i q = go (ltb (place test l) (length l)) refl (q ∙ position_place)
    where
      go : (b : Bool) → ltb (place test l) (length l) ≡ b → Some i ≡ cond b (Some (place test l)) None → (i ≡ place test l) × (i < length l)
      go true e q = let same : i ≡ place test l = cc in (same, omega (arith, ltb-true _ _ e))
      go false e q = cc

  pub position_none : None ≡ position test l → place test l ≡ length l
  position_none q = go (ltb (place test l) (length l)) refl (q ∙ position_place)
    where
      go : (b : Bool) → ltb (place test l) (length l) ≡ b → None ≡ cond b (Some (place test l)) None → place test l ≡ length l
      go true e q = cc
      go false e q = omega (arith, ltb-false _ _ e, place_within test l)

  pub position_nowhere : place test l ≡ length l → position test l ≡ None
  position_nowhere e = let out : length l ≤ place test l = omega (arith, e) in position_place ∙ rw (le-ltb _ _ out) refl

-- two searches through lists of one length that find one place
pub same_position : {A B : Type 0} (test : A → Bool) (l : List A) (other : B → Bool) (m : List B) → place test l ≡ place other m → length l ≡ length m
    → position test l ≡ position other m
same_position test l other m e n = position_place test l ∙ rw (e, n) (sym (position_place other m))
