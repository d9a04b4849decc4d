-- Calls on lent bytes: those that are no watch's, and those that are.
use mathlib.Core.Path.{◌≡◌}
use mathlib.Core.Bool.{true, false}
use mathlib.Core.List.{List}
use Prim.Native.Nat.{ℕ}
use borrow.Author.Tests.{eqb-true}
use lib.ListN.{length}
use Rattle.format.proofs.Tests.{each}
use Rattle.watch_bytes.specs.States.{WatchBytesAfter, is_state, not_state, on_state}

module _ (state : List ℕ) where
  pub sized : is_state state ≡ true → length state ≡ 9
  unfolding is_state
  sized s = eqb-true (length state) 9 (each _ s).0

  module _ (given : WatchBytesAfter) where
    pub no-watch : is_state state ≡ false → not_state state ≡ on_state state given
    no-watch s = rw s

    pub a-watch : is_state state ≡ true → given ≡ on_state state given
    a-watch s = rw s
