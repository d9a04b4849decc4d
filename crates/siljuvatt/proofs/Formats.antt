-- A format handed in as a number: read as one, or refused.
use Rattle.std.proofs.Common.{◌≡◌, ℕ, zero, suc, true, false, leb, sym, refl, arith}
use borrow.Author.Tests.{lt-leb}
use Rattle.format.specs.declared.Format.{Format}
use Rattle.format.specs.declared.Format.TheVariants.{Extended, Standard}
use Rattle.format.specs.Numbers.{format_number}
use Rattle.station_bytes.specs.States.{format_in}

pub a_format : (format : Format) (n : ℕ) → format_number format ≡ n → (leb n 1 ≡ true) × (format_in n ≡ format)
a_format Extended n e = rw (sym e) (refl, refl)
a_format Standard n e = rw (sym e) (refl, refl)

pub no_format : (n : ℕ) → ((format : Format) → ¬ (format_number format ≡ n)) → leb n 1 ≡ false
no_format zero h = absurd (h Extended refl)
no_format (suc zero) h = absurd (h Standard refl)
no_format (suc (suc n)) h = lt-leb _ _ (omega arith)
