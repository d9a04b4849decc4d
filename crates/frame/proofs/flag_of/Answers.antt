-- `frame::flag_of` meets its contract: a flag read back from its bits, and a single where no flag has them.
use Rattle.std.proofs.Common.{◌≡◌, ℕ, refl, sym, ap, ◌∙◌}
use Rattle.std.specs.Prelude.{Result, Ok, Err}
use Rattle.std.specs.Result.{result_unwrap_or}
use borrow.Author.Tests.{ne_eqb}
use Rattle.format.specs.declared.Flag.{Flag}
use Rattle.format.specs.declared.Flag.TheVariants.{Middle, Start, End, Single}
use Rattle.format.specs.declared.NoSuch.{NoSuch}
use Rattle.format.specs.Formats.{flag_bits}
use Rattle.format.specs.Numbers.{Reads}
use Rattle.frame.specs.Layout.{flag_of}
use Rattle.frame.proofs.Flags.{flag_of_bits}
use Rattle.frame.proofs.flag_of.Goals as goal

read : (n : ℕ) (r : Result Flag NoSuch) → Reads flag_bits n r → result_unwrap_or r Single ≡ flag_of n
unfolding flag_of
read n (Ok flag) h = sym (flag_of_bits flag) ∙ ap flag_of h
read n (Err none) h =
    rw (ne_eqb n 1 (λ e. h.1 Start (sym e)), ne_eqb n 0 (λ e. h.1 Middle (sym e)), ne_eqb n 2 (λ e. h.1 End (sym e))) refl

pub returns : goal.returns
returns c = c.unwrap_or.ensures ∙ read _ c.try_from.result c.try_from.ensures
