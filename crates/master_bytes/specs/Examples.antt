-- Examples that hold the layout of the bytes and the calls on them to each of their bounds: a field for each rule, a line for each example.
-- proofs/Examples.antt proves them.
use Rattle.std.specs.Prelude.{ℕ, ◌≡◌, List, [], ◌∷◌, ◌++◌, replicate}
use Rattle.format.specs.Refusals.{value, refused}
use Rattle.master.specs.Exchanges.{Told, send, done, gave_up}
use Rattle.master_bytes.specs.Calls.{MasterBytesAfter, renew, starting, replying, timing_out}

-- that bus for node 5 and A for every other, then the kind, the node and the send count, then the layout's number
abbrev laid_out : (layout bus kind node sends : ℕ) → List ℕ
laid_out layout bus kind node sends = replicate 5 0 ++ bus ∷ replicate 58 0 ++ kind ∷ node ∷ sends ∷ layout ∷ []

abbrev bytes : (bus kind node sends : ℕ) → List ℕ
bytes = laid_out 1

abbrev start : (kind node : ℕ) → List ℕ → MasterBytesAfter Told
start kind node state = starting state kind node

-- refused with that number, and the bytes stay
abbrev RefusedAs : (List ℕ → MasterBytesAfter Told) → List ℕ → ℕ → Type 0
RefusedAs call state n = call state ≡ record { answer = refused n; state = state }

-- a send on that bus, and the bytes afterwards
abbrev SendsOn : MasterBytesAfter Told → (bus : ℕ) → List ℕ → Type 0
SendsOn given bus state = given ≡ record { answer = value (send bus); state = state }

pub record Examples : Type 0 where
  -- 68 bytes, no fewer and no more
  pub lengths : (renew (replicate 67 9) ≡ record { answer = refused 21; state = replicate 67 9 })
      × (renew (replicate 68 9) ≡ record { answer = value 0; state = bytes 0 0 0 0 })
      × (renew (replicate 69 9) ≡ record { answer = refused 21; state = replicate 69 9 })
      × RefusedAs timing_out (replicate 67 1) 21
      × RefusedAs timing_out (bytes 0 0 0 0) 19
      × RefusedAs timing_out (replicate 64 0 ++ 0 ∷ 0 ∷ 0 ∷ 1 ∷ 1 ∷ []) 21
  -- the layout's number is 1: bytes of no layout, all 0, are no master's
  pub layouts : RefusedAs timing_out (laid_out 0 0 0 0 0) 21
      × RefusedAs timing_out (laid_out 2 0 0 0 0) 21
      × RefusedAs (start 1 5) (laid_out 255 0 0 0 0) 21
  -- a kind handed in is 1 to 3
  pub kinds : RefusedAs (start 0 5) (bytes 0 0 0 0) 9
      × SendsOn (start 1 5 (bytes 1 0 0 0)) 1 (bytes 1 1 5 1)
      × SendsOn (start 2 5 (bytes 1 0 0 0)) 1 (bytes 1 2 5 1)
      × SendsOn (start 3 5 (bytes 1 0 0 0)) 1 (bytes 1 3 5 1)
      × RefusedAs (start 4 5) (bytes 0 0 0 0) 9
  -- so is one in the bytes: 1 poll, 2 data block, 3 command; with 0 there is no node and no send count
  pub written : (timing_out (bytes 0 1 5 1) ≡ record { answer = value gave_up; state = bytes 1 0 0 0 })
      × SendsOn (timing_out (bytes 0 2 5 1)) 0 (bytes 0 2 5 2)
      × SendsOn (timing_out (bytes 0 3 5 2)) 1 (bytes 1 3 5 3)
      × RefusedAs timing_out (bytes 0 4 5 1) 21
      × RefusedAs timing_out (bytes 0 0 5 0) 21
      × RefusedAs timing_out (bytes 0 0 0 1) 21
      × (replying (bytes 1 2 5 1) 1 5 4 ≡ record { answer = value done; state = bytes 1 0 0 0 })
  -- order: 21, then 9, for a kind as for a node, then 18
  pub in_order : RefusedAs (start 0 64) (bytes 0 1 64 1) 21
      × RefusedAs (start 0 5) (bytes 0 1 5 1) 9
      × RefusedAs (start 1 64) (bytes 0 1 5 1) 9
      × RefusedAs (start 1 5) (bytes 0 1 5 1) 18
