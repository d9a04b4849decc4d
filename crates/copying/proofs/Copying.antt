-- What copying does where the bytes end within the list, and where they do not.
use Prim.Native.Nat.{ℕ, suc, ◌+◌, ◌≤◌, ◌<◌}
use mathlib.Core.Path.{◌≡◌}
use mathlib.Core.Bool.{true, false}
use mathlib.Core.List.{List, ◌++◌, append_assoc}
use native.Mathlib.Nat.{zero-add}
use native.Mathlib.Omega.{arith}
use lib.ListN.{length, drop, get_or, set, length-append, length-drop}
use lib.Seq.{paste, paste-zero, paste-suc, length-take-le, take-length}
use borrow.Author.Tests.{le-leb, lt-leb}
use Rattle.copying.specs.Copy.{written, within, copied}

-- bytes copied to the head of a list that has room for them
pub head_copied : (list bytes : List ℕ) → length bytes ≤ length list → copied list 0 bytes ≡ bytes ++ drop (length bytes) list
unfolding copied within written
head_copied list bytes h =
    let m : 0 + length bytes ≤ length list = omega arith in
    rw (le-leb _ _ m, zero-add)

module _ (list : List ℕ) (at : ℕ) (bytes : List ℕ) where
  -- they end within: all of them are written, and the length stays
  pub fits : at + length bytes ≤ length list → within list at bytes ≡ true
  unfolding within
  fits h = le-leb _ _ h

  pub all_copied : at + length bytes ≤ length list → copied list at bytes ≡ written list at bytes
  unfolding copied
  all_copied h = rw (fits h)

  pub written_length : at + length bytes ≤ length list → length (written list at bytes) ≡ length list
  unfolding written
  written_length h =
      let n = length-take-le at list (omega arith) in
      simp (length-append, length-drop, n) (omega arith)

  -- they do not: nothing is
  pub past : length list < at + length bytes → within list at bytes ≡ false
  unfolding within
  past h = lt-leb _ _ h

  pub none_copied : length list < at + length bytes → copied list at bytes ≡ list
  unfolding copied
  none_copied h = rw (past h)

  -- a loop's paste of all of them
  pub pasted : paste list at bytes (length bytes) ≡ written list at bytes
  unfolding written
  pasted = rw (take-length, append_assoc)

-- eight of them, one after the other
module _ (list : List ℕ) (at : ℕ) (bytes : List ℕ) (n : length bytes ≡ 8) (room : at + 8 ≤ length list) where
  turn : (j : ℕ) → j < 8 → set (paste list at bytes j) (at + j) (get_or bytes j 0) ≡ paste list at bytes (suc j)
  turn j h = paste-suc list at bytes j 0 (omega arith) (omega arith)

  pub eight : set (set (set (set (set (set (set (set list at (get_or bytes 0 0)) (at + 1) (get_or bytes 1 0)) (at + 2) (get_or bytes 2 0)) (at + 3) (get_or bytes 3 0)) (at + 4) (get_or bytes 4 0)) (at + 5) (get_or bytes 5 0)) (at + 6) (get_or bytes 6 0)) (at + 7) (get_or bytes 7 0)
      ≡ written list at bytes
  eight =
      let z : at + 0 ≡ at = omega arith in
      let s = paste-zero list at bytes in
      let t0 = turn 0 (omega arith) in
      let t1 = turn 1 (omega arith) in
      let t2 = turn 2 (omega arith) in
      let t3 = turn 3 (omega arith) in
      let t4 = turn 4 (omega arith) in
      let t5 = turn 5 (omega arith) in
      let t6 = turn 6 (omega arith) in
      let t7 = turn 7 (omega arith) in
      let p = pasted list at bytes in
      cc
