-- Bytes written one after the other.
use Prim.Native.Nat.{ℕ, ◌+◌, ◌≤◌}
use mathlib.Core.Path.{◌≡◌, sym, ap, ◌∙◌}
use mathlib.Core.List.{List, ◌++◌, append_assoc}
use native.Mathlib.Omega.{arith}
use lib.ListN.{length, take, drop, length-append, length-drop}
use lib.Seq.{length-take-le, take_at, drop-append-add, drop-drop}
use Rattle.copying.specs.Copy.{written, copied}
use Rattle.copying.proofs.Copying.{head_copied, all_copied}
use Rattle.format.specs.Outputs.{over}

-- after what stands at the start
after_head : (x bytes output : List ℕ) → written (over x output) (length x) bytes ≡ over (x ++ bytes) output
unfolding written
after_head x bytes output = rw (take_at x (drop (length x) output) (length x), drop-append-add, drop-drop, length-append, append_assoc)

module _ (x bytes output : List ℕ) (room : length x + length bytes ≤ length output) where
  long : length (over x output) ≡ length output
  long = rw (length-append, length-drop) (omega arith)

  both : copied (copied output 0 x) (length x) bytes ≡ over (x ++ bytes) output
  both =
      let l = long in
      rw (head_copied output x (omega arith)) (all_copied (over x output) (length x) bytes (omega arith) ∙ after_head x bytes output)

pub then : (head bytes output : List ℕ) (m : ℕ) → m ≤ length head → m + length bytes ≤ length output
    → copied (copied output 0 (take m head)) m bytes ≡ over (take m head ++ bytes) output
then head bytes output m h room =
    let n = length-take-le m head h in
    ap (λ (k : ℕ). copied (copied output 0 (take m head)) k bytes) (sym n) ∙ both (take m head) bytes output (omega arith)
