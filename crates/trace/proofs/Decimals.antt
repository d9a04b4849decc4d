-- A number's digits are its decimal.
use Prim.Native.Nat.{ℕ, ◌+◌, ◌-◌, ◌*◌, ◌/◌, ◌%◌, ◌≤◌, ◌<◌}
use mathlib.Core.Path.{◌≡◌, refl, ap, subst, ◌∙◌}
use mathlib.Core.Bool.{Bool, true, false, ◌&&◌}
use mathlib.Core.List.{List, [], ◌∷◌, ◌++◌}
use native.Mathlib.Omega.{arith}
use lib.Dec.{leb}
use lib.ListN.{get_or}
use borrow.Author.Tests.{le-leb}
use Rattle.std.proofs.lemmas.Fmt.{decimal_by_steps}
use Rattle.trace.specs.Lines.{ascii, digits, decimal}
use Rattle.trace.specs.Claims.{are_digits, read_by_ten, InDecimal, Decimal}
use Rattle.trace.proofs.Texts.{decimal_of_std}

-- one digit more
digits_more : (a : List ℕ) (d : ℕ) → d < 10 → are_digits a ≡ true → are_digits (a ++ ((48 + d) ∷ [])) ≡ true
unfolding are_digits
digits_more [] d h e = rw (le-leb 48 (48 + d) (omega arith), le-leb (48 + d) 57 (omega arith))
digits_more (x ∷ a) d h e = go (leb 48 x) (leb x 57) e (digits_more a d h)
  where
    go : (b c : Bool) → b && (c && are_digits a) ≡ true → (are_digits a ≡ true → are_digits (a ++ ((48 + d) ∷ [])) ≡ true)
        → b && (c && are_digits (a ++ ((48 + d) ∷ []))) ≡ true
    go true true q ih = ih q
    go true false q ih = q
    go false c q ih = q

read_more : (m : ℕ) (a : List ℕ) (d : ℕ) → read_by_ten m (a ++ ((48 + d) ∷ [])) ≡ 10 * read_by_ten m a + d
unfolding read_by_ten
read_more m [] d = omega arith
read_more m (x ∷ a) d = read_more (10 * m + (x - 48)) a d

first_more : (n : ℕ) (a : List ℕ) (d : ℕ) → 1 ≤ n → InDecimal n a → get_or (a ++ ((48 + d) ∷ [])) 0 48 ≡ 48
    → a ++ ((48 + d) ∷ []) ≡ ascii "0"
unfolding read_by_ten
first_more n [] d h p e = absurd (omega (arith, p.read))
first_more n (x ∷ a) d h p e =
    let z : read_by_ten 0 (x ∷ a) ≡ 0 = ap (read_by_ten 0) (p.first e) in absurd (omega (arith, p.read, z))

one_digit : (n : ℕ) → n < 10 → InDecimal n ((48 + n) ∷ [])
unfolding are_digits read_by_ten
one_digit n h =
    record {
      digits = rw (le-leb 48 (48 + n) (omega arith), le-leb (48 + n) 57 (omega arith));
      first = λ e. ap (λ (d : ℕ). d ∷ []) e;
      read = omega arith;
    }

more_digits : (n : ℕ) (a : List ℕ) → 10 ≤ n → InDecimal (n / 10) a → InDecimal n (a ++ ((48 + n % 10) ∷ []))
more_digits n a h p =
    record {
      digits = digits_more a (n % 10) (omega arith) p.digits;
      first = first_more (n / 10) a (n % 10) (omega arith) p;
      read = read_more 0 a (n % 10) ∙ omega (arith, p.read);
    }

too_few : read_by_ten 0 (digits 19 18446744073709551615) ≡ 8446744073709551615
unfolding read_by_ten digits
too_few = refl

pub in_decimals : Decimal
unfolding Decimal decimal
in_decimals = (λ n h. subst (InDecimal n) (decimal_of_std n h) (decimal_by_steps InDecimal one_digit more_digits n h), λ e. omega (arith, too_few, e))
