-- Chosen buses that are all 0 or 1: what a scan finds, and what setting one keeps.
use Rattle.std.proofs.Common.{ℕ, zero, suc, ◌≤◌, ◌≡◌, ◌∙◌, ◌↔◌, refl, sym, Bool, true, false, IsTrue, List, [], ◌∷◌, length, get_or, set, arith, le-leb, eq-eqb, leb-true}
use Rattle.std.specs.List.{All, AllByRecursion}
use Rattle.std.proofs.lemmas.List.Elements.{All-from_recursion, recursion_from_All}
use Rattle.format.specs.Tests.{all_true}
use Rattle.format.proofs.Tests.{each, from_each, tests}
use Rattle.master.specs.Masters.{buses_in_range, chosen_sound}

pub set_sound : (l : List ℕ) (i bus : ℕ) → buses_in_range l ≡ true → bus ≤ 1 → buses_in_range (set l i bus) ≡ true
unfolding buses_in_range
set_sound [] i bus e h = refl
set_sound (x ∷ xs) zero bus e h = from_each _ (omega tests, ((each _ e).1.0, tt))
set_sound (x ∷ xs) (suc i) bus e h = from_each _ ((each _ e).0, (set_sound xs i bus (each _ e).1.0 h, tt))

in_range : (l : List ℕ) → AllByRecursion (λ bus. bus ≤ 1) l → buses_in_range l ≡ true
unfolding buses_in_range
in_range [] h = refl
in_range (x ∷ xs) h = from_each _ (le-leb x 1 h.0, (in_range xs h.1, tt))

each_in_range : (l : List ℕ) → buses_in_range l ≡ true → AllByRecursion (λ bus. bus ≤ 1) l
unfolding buses_in_range
each_in_range [] e = tt
each_in_range (x ∷ xs) e = (leb-true x 1 (each _ e).0, each_in_range xs (each _ e).1.0)

-- what a scan of 64 buses finds
pub scanned : (l : List ℕ) (found : Bool) → length l ≡ 64 → (IsTrue found ↔ All (λ bus. bus ≤ 1) l) → chosen_sound l ≡ found
unfolding chosen_sound all_true
scanned l found n h = rw (eq-eqb (length l) 64 n) (go found (buses_in_range l) refl h)
  where
    go : (found b : Bool) → buses_in_range l ≡ b → (IsTrue found ↔ All (λ bus. bus ≤ 1) l) → b ≡ found
    go true true e h = refl
    go false false e h = refl
    go true false e h = sym e ∙ in_range l (recursion_from_All _ l (h.0 refl))
    go false true e h = sym (h.1 (All-from_recursion _ l (each_in_range l e)))

pub bus_at : (l : List ℕ) (i : ℕ) → buses_in_range l ≡ true → get_or l i 0 ≤ 1
unfolding buses_in_range
bus_at [] i e = omega arith
bus_at (x ∷ xs) zero e = leb-true x 1 (each _ e).0
bus_at (x ∷ xs) (suc i) e = bus_at xs i (each _ e).1.0
