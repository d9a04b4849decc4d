-- Texts put together from parts, numbers in decimal, and how long the parts of a line are.
use Prim.Native.Nat.{ℕ, zero, suc, ◌+◌, ◌/◌, ◌%◌, ◌^◌, ◌≤◌, ◌<◌}
use mathlib.Core.Path.{◌≡◌, refl, sym, ap, ◌∙◌}
use mathlib.Core.Bool.{Bool, true, false, cond}
use mathlib.Core.List.{List, [], ◌∷◌, ◌++◌, append_assoc, append-nil}
use native.Mathlib.Omega.{arith}
use lib.ListN.{length, take, get_or, set, length-append, length-set}
use native.Mathlib.Numerals.{add-one}
use lib.Seq.{take-suc, take-suc-set, take_at, length-take-le}
use lib.Dec.{ltb}
use borrow.Author.Tests.{lt-ltb, le-ltb}
use Rattle.copying.specs.Copy.{written, copied}
use Rattle.copying.proofs.Copying.{all_copied, written_length}
use Rattle.std.specs.Fmt.{decimal as decimal·std}
use Rattle.std.proofs.lemmas.Fmt.{AppendsLastDigit, decimal_from_appends, decimal_step, length-decimal-le}
use Rattle.trace.specs.Lines.{digits, decimal, field_text, fields_text, bus_name, broke_or, answer_text}
use Rattle.format.specs.Refusals.{Result, value, refused}
use Rattle.stream.specs.Answers.{Reply, packet, kept, filtered}
use Rattle.trace.specs.Parts.{Put}

-- ---- putting

pub put_all : (text : List ℕ) (at : ℕ) (bytes : List ℕ) → at + length bytes ≤ length text → Put text at bytes (at + length bytes) (written text at bytes)
unfolding written
put_all text at bytes h =
    record {
      place = refl;
      head = rw (← append_assoc (take at text) bytes) (take_at (take at text ++ bytes) _ (at + length bytes) (rw (length-append, length-take-le at text (omega arith))));
      size = written_length text at bytes h;
    }

pub put_one : (text : List ℕ) (at b : ℕ) → at < length text → Put text at (b ∷ []) (at + 1) (set text at b)
put_one text at b h =
    record {
      place = refl;
      head = rw add-one (take-suc-set text at b h);
      size = length-set text at b;
    }

module _ {text : List ℕ} {at : ℕ} {a : List ℕ} {m : ℕ} {mid : List ℕ} {b : List ℕ} {r : ℕ} {last : List ℕ} where
  pub put_then : Put text at a m mid → Put mid m b r last → Put text at (a ++ b) r last
  put_then p q =
      record {
        place = rw (q.place, p.place, length-append) (omega arith);
        head = q.head ∙ ap (λ (l : List ℕ). l ++ b) p.head ∙ append_assoc (take at text) a b;
        size = q.size ∙ p.size;
      }

-- what a text holds after a push of several bytes, and of one
pub words_pushed : (text : List ℕ) (at : ℕ) (bytes : List ℕ) → at + length bytes ≤ length text
    → take (at + length bytes) (copied text at bytes) ≡ take at text ++ bytes
words_pushed text at bytes h = rw (all_copied text at bytes h) (put_all text at bytes h).head

pub byte_pushed : (text : List ℕ) (at b : ℕ) → at < length text → take (at + 1) (set text at b) ≡ take at text ++ (b ∷ [])
byte_pushed text at b h = (put_one text at b h).head

-- ---- numbers

appends : AppendsLastDigit digits
unfolding digits
appends =
    record {
      one = λ k n h. rw (lt-ltb n 10 h);
      more = λ k n h. rw (le-ltb n 10 h);
    }

-- the library's digits are these
pub decimal_of_std : (n : ℕ) → n < 2 ^ 64 → decimal·std n ≡ decimal n
unfolding decimal
decimal_of_std n h = sym (decimal_from_appends digits appends 20 n h (length-decimal-le 20 n (omega arith) (omega arith) h))

pub decimal_small : (n : ℕ) → n < 10 → decimal n ≡ (48 + n) ∷ []
unfolding decimal digits
decimal_small n h = rw (lt-ltb n 10 h)

pub decimal_more : (n : ℕ) → 10 ≤ n → n < 18446744073709551616 → decimal n ≡ decimal (n / 10) ++ ((48 + n % 10) ∷ [])
decimal_more n h w =
    sym (decimal_of_std n w) ∙ decimal_step n h w ∙ ap (λ (l : List ℕ). l ++ ((48 + n % 10) ∷ [])) (decimal_of_std (n / 10) (omega arith))

digits_length : (k n : ℕ) → length (digits k n) ≤ k
unfolding digits
digits_length zero n = omega arith
digits_length (suc k) n = go (ltb n 10) (digits_length k (n / 10))
  where
    go : (b : Bool) → length (digits k (n / 10)) ≤ k → length (cond b ((48 + n) ∷ []) (digits k (n / 10) ++ ((48 + n % 10) ∷ []))) ≤ suc k
    go true h = omega arith
    go false h = simp length-append (omega arith)

pub decimal_length : (n : ℕ) → length (decimal n) ≤ 20
unfolding decimal
decimal_length n = digits_length 20 n

pub field_length : (n : ℕ) → length (field_text n) ≡ length (decimal n) + 1
unfolding field_text
field_length n = omega arith

pub field_short : (n : ℕ) → length (field_text n) ≤ 21
field_short n = omega (arith, field_length n, decimal_length n)

-- a byte has three digits at most
pub field_byte : (n : ℕ) → n < 256 → length (field_text n) ≤ 4
field_byte n h =
    let w : n < 2 ^ 64 = omega arith in
    omega (arith, field_length n, ap length (decimal_of_std n w), length-decimal-le 3 n (omega arith) (omega arith) w)

-- one field more
fields_more : (l : List ℕ) (n : ℕ) → fields_text (l ++ (n ∷ [])) ≡ fields_text l ++ field_text n
unfolding fields_text
fields_more [] n = append-nil (field_text n)
fields_more (x ∷ l) n = ap (λ (r : List ℕ). field_text x ++ r) (fields_more l n) ∙ sym (append_assoc (field_text x) (fields_text l) (field_text n))

pub fields_next : (l : List ℕ) (i : ℕ) → i < length l → fields_text (take (i + 1) l) ≡ fields_text (take i l) ++ field_text (get_or l i 0)
fields_next l i h = rw (add-one, take-suc l i 0 h) (fields_more (take i l) (get_or l i 0))

-- ---- the other parts

pub answer_short : (answer : Result Reply) → length (answer_text answer) ≤ 34
answer_short (value (packet n true)) = simp length-append (omega (arith, field_short n))
answer_short (value (packet n false)) = simp length-append (omega (arith, field_short n))
answer_short (value (kept true)) = omega arith
answer_short (value (kept false)) = omega arith
answer_short (value filtered) = omega arith
answer_short (refused n) = simp length-append (omega (arith, field_short n))

pub bus_short : (bus : ℕ) → length (bus_name bus) ≡ 2
bus_short zero = refl
bus_short (suc n) = refl

pub broke_short : (broke : Bool) → length (broke_or broke) ≤ 6
broke_short true = omega arith
broke_short false = omega arith

-- for `grind`: what a push leaves, a number's digits, how long the parts are, and what a column more pushes
pub ruleset pushed = (words_pushed, byte_pushed, length-take-le)

pub ruleset numbers = (length-append, decimal_small, decimal_more, append_assoc)

pub ruleset lengths = (length-append, decimal_length, field_length, bus_short, broke_short, answer_short)

pub ruleset columns = (length-append, field_byte, fields_next, append_assoc, append-nil)
