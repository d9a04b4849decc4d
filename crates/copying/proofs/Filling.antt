-- Bytes that fill what they are copied to, in one part or in two: nothing of what stood there stays.
use Prim.Native.Nat.{ℕ, ◌+◌}
use mathlib.Core.Path.{◌≡◌, ap, ◌∙◌}
use mathlib.Core.List.{List, [], ◌++◌, append-nil}
use native.Mathlib.Omega.{arith}
use lib.ListN.{length, drop, drop_of_length-le}
use lib.Seq.{take_at}
use Rattle.copying.specs.Copy.{written, copied}
use Rattle.copying.proofs.Copying.{all_copied, written_length}

module _ (target : List ℕ) where
  pub whole : (bytes : List ℕ) → length bytes ≡ length target → copied target 0 bytes ≡ bytes
  unfolding written
  whole bytes n =
      all_copied target 0 bytes (omega arith) ∙ ap (λ rest. bytes ++ rest) (drop_of_length-le target {i = 0 + length bytes} (omega arith)) ∙ append-nil bytes

  -- the second part follows the first
  pub filled : (first second : List ℕ) (at : ℕ) → length first ≡ at → at + length second ≡ length target
      → copied (copied target 0 first) at second ≡ first ++ second
  unfolding written
  filled first second at n m =
      let next = first ++ drop (0 + length first) target in
      let size : length next ≡ length target = written_length target 0 first (omega arith) in
      let left : drop (at + length second) next ≡ [] = drop_of_length-le next {i = at + length second} (omega arith) in
      rw (all_copied target 0 first (omega arith), all_copied next at second (omega arith), take_at first (drop (0 + length first) target) at n, left, append-nil second)
