-- Bytes for a lent output: written where it has room, else refused with ROOM.
use Prim.Native.Nat.{ℕ, ◌≤◌, ◌<◌}
use mathlib.Core.Path.{◌≡◌, ap, ◌∙◌}
use mathlib.Core.List.{List}
use native.Mathlib.Omega.{arith}
use lib.ListN.{length}
use borrow.Author.Tests.{le-leb, lt-leb}
use Rattle.format.specs.declared.Refusal.TheVariants.{Room}
use Rattle.format.specs.Refusals.{Result, value, refused}
use Rattle.format.specs.Outputs.{fitting, answer, over, output_after, Writes}
use Rattle.format.proofs.Checks.{stop, pass, none_left}

-- so many bytes, which the output has room for or not
module _ (bytes output : List ℕ) (n : ℕ) (e : n ≡ length bytes) where
  pub no_room : length output < n → refused 12 ≡ fitting bytes (length output)
  unfolding fitting
  no_room h = let m : length output < length bytes = omega arith in stop Room _ _ (lt-leb _ _ m)

  pub has_room : n ≤ length output → value bytes ≡ fitting bytes (length output)
  unfolding fitting
  has_room h = let m : length bytes ≤ length output = omega arith in pass Room _ _ (le-leb _ _ m) (none_left _)

module _ (given : Result (List ℕ)) (output : List ℕ) where
  -- a refusal writes nothing
  pub not_written : (n : ℕ) → refused n ≡ given → Writes given output (refused n) output
  not_written n e = (ap answer e, ap (λ (r : Result (List ℕ)). output_after r output) e)

  -- bytes written over its head
  pub written_over : (bytes : List ℕ) (n : ℕ) (last : List ℕ) → value bytes ≡ given → n ≡ length bytes → last ≡ over bytes output
      → Writes given output (value n) last
  written_over bytes n last e en el =
      (ap value en ∙ ap answer e, el ∙ ap (λ (r : Result (List ℕ)). output_after r output) e)
