-- A list of checks, one after the other.
use Prim.Native.Nat.{ℕ}
use mathlib.Core.Path.{◌≡◌, refl, subst}
use native.Mathlib.Omega.{arith}
use mathlib.Core.Bool.{Bool, true, false}
use mathlib.Core.List.{List, [], ◌∷◌}
use Rattle.format.specs.declared.Refusal.{Refusal}
use Rattle.format.specs.Refusals.{Result, value, refused, Check, check, guarded, checked_then, number}

module _ {A : Type 0} (name : Refusal) (rest : List Check) (x : A) {ok : Bool} where
  -- a check that fails refuses
  pub stop : ok ≡ false → refused (number name) ≡ guarded (check name ok ∷ rest) x
  unfolding guarded
  stop e = rw e

  -- one that holds leaves the rest
  pub pass : {r : Result A} → ok ≡ true → r ≡ guarded rest x → r ≡ guarded (check name ok ∷ rest) x
  unfolding guarded
  pass e h = rw e h

-- no check is left
pub none_left : {A : Type 0} (x : A) → value x ≡ guarded [] x
unfolding guarded
none_left x = refl

-- where a value comes out, every check holds
abbrev pub Passed : List Check → Type 0
Passed [] = Unit {0}
Passed (check name ok ∷ rest) = (ok ≡ true) × Passed rest

pub passed : {A : Type 0} (checks : List Check) (x y : A) → guarded checks x ≡ value y → Passed checks × (x ≡ y)
unfolding guarded
passed [] x y e = (tt, (cc))
passed (check name true ∷ rest) x y e = let r = passed rest x y e in ((refl, r.0), r.1)
passed (check name false ∷ rest) x y e = let z : ◌≡◌ {A = ℕ} 0 1 = cc in absurd (omega arith)

-- where a refusal comes out, its number is that of one of the checks
abbrev pub EachNumber : (ℕ → Type 0) → List Check → Type 0
EachNumber P [] = Unit {0}
EachNumber P (check name ok ∷ rest) = P (number name) × EachNumber P rest

pub refused_by : {A : Type 0} (P : ℕ → Type 0) (checks : List Check) → EachNumber P checks → (x : A) (n : ℕ)
    → guarded checks x ≡ refused n → P n
unfolding guarded
refused_by P [] h x n e = let z : ◌≡◌ {A = ℕ} 0 1 = cc in absurd (omega arith)
refused_by P (check name true ∷ rest) h x n e = refused_by P rest h.1 x n e
refused_by P (check name false ∷ rest) h x n e = let z : number name ≡ n = cc in subst P z h.0

-- and that check fails, where those before it hold: what follows from this, at each check's number, holds at the number that comes out
abbrev pub EachFirst : (ℕ → Type 0) → List Check → Type 0
EachFirst P [] = Unit {0}
EachFirst P (check name ok ∷ rest) = (ok ≡ false → P (number name)) × (ok ≡ true → EachFirst P rest)

pub refused_where : {A : Type 0} (P : ℕ → Type 0) (checks : List Check) → EachFirst P checks → (x : A) (n : ℕ)
    → guarded checks x ≡ refused n → P n
unfolding guarded
refused_where P [] h x n e = let z : ◌≡◌ {A = ℕ} 0 1 = cc in absurd (omega arith)
refused_where P (check name true ∷ rest) h x n e = refused_where P rest (h.1 refl) x n e
refused_where P (check name false ∷ rest) h x n e = let z : number name ≡ n = cc in subst P z (h.0 refl)

-- the same before a result of its own
pub stop_then : {A : Type 0} (name : Refusal) (rest : List Check) (r : Result A) {ok : Bool} → ok ≡ false
    → refused (number name) ≡ checked_then (check name ok ∷ rest) r
unfolding checked_then
stop_then name rest r e = rw e

pub pass_then : {A : Type 0} (name : Refusal) (rest : List Check) (r : Result A) {ok : Bool} {s : Result A} → ok ≡ true
    → s ≡ checked_then rest r → s ≡ checked_then (check name ok ∷ rest) r
unfolding checked_then
pass_then name rest r e h = rw e h

pub none_left_then : {A : Type 0} (r : Result A) → r ≡ checked_then [] r
unfolding checked_then
none_left_then r = refl

pub passed_then : {A : Type 0} (checks : List Check) (r : Result A) (y : A) → checked_then checks r ≡ value y → Passed checks × (r ≡ value y)
unfolding checked_then
passed_then [] r y e = (tt, e)
passed_then (check name true ∷ rest) r y e = let p = passed_then rest r y e in ((refl, p.0), p.1)
passed_then (check name false ∷ rest) r y e = let z : ◌≡◌ {A = ℕ} 0 1 = cc in absurd (omega arith)
