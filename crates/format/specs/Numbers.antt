-- A format, a flag or a refusal read from its number. Document 01 numbers flags and refusals; the formats' numbers are those of the
-- programs' requests and of lent bytes.
use Rattle.std.specs.Prelude.{ℕ, ◌≡◌, Result, MatchResult}
use Rattle.format.specs.declared.Format.{Format}
use Rattle.format.specs.declared.Format.TheVariants.{Extended, Standard}
use Rattle.format.specs.declared.NoSuch.{NoSuch}

abbrev pub format_number : Format → ℕ
format_number Extended = 0
format_number Standard = 1

-- reading n gives what n is the number of, or says that n is the number of none
abbrev pub Reads : {A : Type 0} → (A → ℕ) → ℕ → Result A NoSuch → Type 0
Reads {A} number n r = MatchResult r (λ x. number x ≡ n) (λ e. (e.0 ≡ n) × ((x : A) → ¬ (number x ≡ n)))
