-- Calls on lent bytes: those that are no master's, and those that are; and how a start asks for a kind that is none.
use Prim.Native.Nat.{ℕ}
use mathlib.Core.Path.{◌≡◌, refl, ap}
use mathlib.Core.Bool.{Bool, true, false, cond}
use mathlib.Core.List.{List, [], ◌∷◌}
use borrow.Author.Tests.{eqb-true, leb-true}
use native.Mathlib.Omega.{arith}
use lib.Dec.{leb}
use Rattle.std.specs.declared.result.Result.{Result as CoreResult}
use Rattle.format.specs.declared.NoSuch.{NoSuch}
use Rattle.format.specs.Numbers.{Reads}
use Rattle.format.specs.Tests.{all_true}
use Rattle.master.specs.declared.Kind.{Kind}
use Rattle.master.specs.declared.Kind.TheVariants.{Poll, DataBlock, Command}
use Rattle.master.specs.Masters.{kind_number, sound}
use lib.ListN.{length}
use Rattle.format.specs.Refusals.{guarded}
use Rattle.format.proofs.Tests.{each}
use Rattle.std.specs.Prelude.{Option, None, Some, Ok, Err}
use Rattle.master.specs.declared.Exchange.{Exchange}
use Rattle.format.specs.declared.Refusal.TheVariants.{State}
use Rattle.master.specs.declared.Master.{Master}
use Rattle.master.specs.Exchanges as exchanges
use Rattle.master_bytes.specs.States.{last_bytes, kind_of, master_in, is_state, loaded}
use Rattle.master_bytes.specs.Calls.{moved_in_bytes, not_state, on_state, is_kind, kind_handed_in, starting_as}

pub four : (activity : Option Exchange) → length (last_bytes activity) ≡ 4
four None = refl
four (Some exchange) = refl

module _ (state : List ℕ) where
  pub sized : is_state state ≡ true → length state ≡ 68
  unfolding is_state
  sized s = eqb-true (length state) 68 (each _ s).0

  module _ (given : exchanges.MasterAfter) where
    pub no-master : is_state state ≡ false → not_state state ≡ on_state state given
    no-master s = rw s

    pub a-master : is_state state ≡ true → moved_in_bytes given ≡ on_state state given
    a-master s = rw s

-- a number read as a kind: one of 1 to 3
pub kind_read : (n : ℕ) (r : CoreResult Kind NoSuch) → Reads kind_number n r → r ≡ cond (is_kind n) (Ok (kind_of n)) (Err (record { 0 = n }))
unfolding all_true
kind_read n (Ok Poll) e = rw (← e)
kind_read n (Ok DataBlock) e = rw (← e)
kind_read n (Ok Command) e = rw (← e)
kind_read n (Err e) h = go (leb 1 n) (leb n 3) refl refl
  where
    go : (a b : Bool) → leb 1 n ≡ a → leb n 3 ≡ b → Err e ≡ cond (all_true (a ∷ b ∷ [])) (Ok (kind_of n)) (Err (record { 0 = n }))
    go true true f g = absurd (omega (arith, leb-true 1 n f, leb-true n 3 g, h.1 Poll, h.1 DataBlock, h.1 Command))
    go true false f g = ap (λ (k : ℕ). Err (record { 0 = k })) h.0
    go false b f g = ap (λ (k : ℕ). Err (record { 0 = k })) h.0

-- bytes from which a master is read
pub is_loaded : (state : List ℕ) (master : Master) → Ok master ≡ loaded state → (is_state state ≡ true) × (master ≡ master_in state)
is_loaded state master = go (is_state state) refl
  where
    go : (b : Bool) → is_state state ≡ b → Ok master ≡ cond b (Ok (master_in state)) (Err State)
        → (is_state state ≡ true) × (master ≡ master_in state)
    go true s e = (s, (cc))
    go false s e = cc

pub loaded_sized : (state : List ℕ) (master : Master) → Ok master ≡ loaded state → length state ≡ 68
loaded_sized state master e = sized state (is_loaded state master e).0

-- node 64 is refused where the kind is to be: after STATE, before BUSY
pub asked_for : (master : Master) (kind node : ℕ)
    → exchanges.starting master (kind_of kind) (cond (is_kind kind) node 64) ≡ starting_as master node (kind_handed_in master kind)
unfolding exchanges.starting guarded
asked_for master kind node = go (sound master) (is_kind kind) refl refl
  where
    go : (s k : Bool) → sound master ≡ s → is_kind kind ≡ k
        → exchanges.starting master (kind_of kind) (cond (is_kind kind) node 64) ≡ starting_as master node (kind_handed_in master kind)
    go false k e f = simp e
    go true true e f = simp (e, f)
    go true false e f = simp (e, f)
