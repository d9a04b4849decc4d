-- One test on whole numbers says what the definition says bit by bit: where a bit of the identifier differs from the code's, the
-- mask has it.
use Prim.Native.Nat.{ℕ, zero, suc, ◌+◌, ◌*◌, ◌/◌, ◌%◌, ◌^◌, ◌<◌, max}
use mathlib.Core.Path.{◌≡◌, refl, sym, ap, ap₂, ◌∙◌, subst}
use mathlib.Core.Bool.{Bool, true, false, ◌&&◌, ◌||◌}
use mathlib.Core.List.{List, [], ◌∷◌, map}
use native.Mathlib.Nat.{mod-lt, div-one}
use native.Mathlib.Numerals.{add-one}
use native.Mathlib.Omega.{arith}
use borrow.Author.Tests.{eqb-true, eqb-false, eq-eqb, ne_eqb}
use lib.Arith.{lt-one}
use lib.Bits.{bit_or, bit_xor, or_step, xor_shr, xor_mod, xor_lt}
use lib.Dec.{eqb}
use lib.Pow.{shr-shr, shr_lt}
use Rattle.format.specs.Tests.{all_after, all_true}
use Rattle.filter.specs.declared.Filter.{Filter}
use Rattle.filter.specs.Filters.{bit, passes, accepts}

-- a bit is 0 or 1
either : (P : ℕ → Type 0) → P 0 → P 1 → (n : ℕ) → n < 2 → P n
either P of0 of1 zero h = of0
either P of0 of1 (suc zero) h = of1
either P of0 of1 (suc (suc n)) h = absurd (omega arith)

-- the test for one bit of each
abbrev Passing : ℕ → ℕ → ℕ → Type 0
Passing p q r = eqb (max (bit_xor p q) r) r ≡ eqb p q || eqb r 1

passing : (p q r : ℕ) → p < 2 → q < 2 → r < 2 → Passing p q r
passing p q r hp hq hr =
    either (λ (x : ℕ). Passing x q r)
    (either (λ (y : ℕ). Passing 0 y r) (either (Passing 0 0) refl refl r hr) (either (Passing 0 1) refl refl r hr) q hq)
    (either (λ (y : ℕ). Passing 1 y r) (either (Passing 1 0) refl refl r hr) (either (Passing 1 1) refl refl r hr) q hq)
    p hp

-- two numbers are equal when their lowest bits and their halves are
halves : (h x m : ℕ) → x < 2 → eqb (h * 2 + x) m ≡ eqb x (m % 2) && eqb h (m / 2)
halves h x m small = go (eqb x (m % 2)) (eqb h (m / 2)) refl refl
  where
    go : (b d : Bool) → eqb x (m % 2) ≡ b → eqb h (m / 2) ≡ d → eqb (h * 2 + x) m ≡ b && d
    go true true e f = eq-eqb (h * 2 + x) m (omega (arith, eqb-true x (m % 2) e, eqb-true h (m / 2) f))
    go true false e f = ne_eqb (h * 2 + x) m (λ q. eqb-false h (m / 2) f (omega (arith, q)))
    go false d e f = ne_eqb (h * 2 + x) m (λ q. eqb-false x (m % 2) e (omega (arith, q)))

-- the test on whole numbers
abbrev whole : ℕ → ℕ → ℕ → Bool
whole a c m = eqb (bit_or (bit_xor a c) m) m

-- its lowest bit, and the rest
lowest : (a c m : ℕ) → whole a c m ≡ (eqb (a % 2) (c % 2) || eqb (m % 2) 1) && whole (a / 2) (c / 2) (m / 2)
lowest a c m =
    ap (λ (n : ℕ). eqb n m) (or_step (bit_xor a c) m)
    ∙ ap₂ (λ (h x : ℕ). eqb (bit_or h (m / 2) * 2 + max x (m % 2)) m) (xor_shr a c 1) (xor_mod a c 1)
    ∙ halves (bit_or (bit_xor (a / 2) (c / 2)) (m / 2)) (max (bit_xor (a % 2) (c % 2)) (m % 2)) m (omega (arith, small, mod-lt m two))
    ∙ ap (λ (b : Bool). b && whole (a / 2) (c / 2) (m / 2)) (passing (a % 2) (c % 2) (m % 2) (mod-lt a two) (mod-lt c two) (mod-lt m two))
  where
    two : 0 < 2
    two = omega arith

    small : bit_xor (a % 2) (c % 2) < 2
    small = xor_lt 1 (a % 2) (c % 2) (mod-lt a two) (mod-lt c two)

-- the place after j
next : (n j : ℕ) → n / 2 ^ j / 2 ≡ n / 2 ^ suc j
next n j = shr-shr n j 1 ∙ ap (λ (i : ℕ). n / 2 ^ i) (add-one j)

fewer : (n j k : ℕ) → n / 2 ^ j < 2 ^ suc k → n / 2 ^ suc j < 2 ^ k
fewer n j k h =
    subst (λ (x : ℕ). x < 2 ^ k) (next n j)
    (shr_lt {n = n / 2 ^ j} k 1 (subst (λ (i : ℕ). n / 2 ^ j < 2 ^ i) (sym (add-one k)) h))

-- as many bits as k, from the one with place j on
unfoldable conj : ℕ → ℕ → ℕ → ℕ → ℕ → Bool
conj a c m j zero = true
conj a c m j (suc k) = (eqb (a / 2 ^ j % 2) (c / 2 ^ j % 2) || eqb (m / 2 ^ j % 2) 1) && conj a c m (suc j) k

bits : (a c m j k : ℕ) → a / 2 ^ j < 2 ^ k → c / 2 ^ j < 2 ^ k → m / 2 ^ j < 2 ^ k
    → whole (a / 2 ^ j) (c / 2 ^ j) (m / 2 ^ j) ≡ conj a c m j k
unfolding conj
bits a c m j zero ha hc hm = simp (lt-one ha, lt-one hc, lt-one hm)
bits a c m j (suc k) ha hc hm =
    lowest (a / 2 ^ j) (c / 2 ^ j) (m / 2 ^ j)
    ∙ ap (λ (rest : Bool). (eqb (a / 2 ^ j % 2) (c / 2 ^ j % 2) || eqb (m / 2 ^ j % 2) 1) && rest)
    (simp (next a j, next c j, next m j) (bits a c m (suc j) k (fewer a j k ha) (fewer c j k hc) (fewer m j k hm)))

-- tests in a row, and the same tests nested to the right
nested : List Bool → Bool
nested [] = true
nested (b ∷ bs) = b && nested bs

after : (b : Bool) (bs : List Bool) → all_after b bs ≡ b && nested bs
unfolding all_after nested
after b [] = alone b
  where
    alone : (b : Bool) → b ≡ b && true
    alone true = refl
    alone false = refl
after true (c ∷ cs) = after c cs
after false (c ∷ cs) = after false cs

-- the definition, as bits from place 0 on
sixteen : (filter : Filter) (id : ℕ) → accepts filter id ≡ conj id filter.code filter.mask 0 16
unfolding accepts all_true passes bit conj nested
sixteen filter id = after true (map (passes filter id) (13 ∷ 14 ∷ 15 ∷ 16 ∷ 17 ∷ 18 ∷ 19 ∷ 20 ∷ 21 ∷ 22 ∷ 23 ∷ 24 ∷ 25 ∷ 26 ∷ 27 ∷ 28 ∷ []))

from_0 : (a c m : ℕ) → whole (a / 2 ^ 0) (c / 2 ^ 0) (m / 2 ^ 0) ≡ whole a c m
from_0 a c m = simp (div-one)

pub masked : (filter : Filter) (id : ℕ) → id < 65536 → filter.code < 65536 → filter.mask < 65536
    → eqb (bit_or (bit_xor id filter.code) filter.mask) filter.mask ≡ accepts filter id
masked filter id hi hc hm =
    sym (from_0 id filter.code filter.mask)
    ∙ bits id filter.code filter.mask 0 16 (omega arith) (omega arith) (omega arith)
    ∙ sym (sixteen filter id)
