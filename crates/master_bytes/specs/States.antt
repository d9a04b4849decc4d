-- Document 01, "Filters, exchanges and watch", second paragraph: "A master holds one chosen bus for each of 64 nodes (A when new) and
-- at most one exchange (extended only; none when new)." Here the master is in 68 bytes that a caller lends: the bus chosen for each
-- node, then the kind of the exchange under way (1 poll, 2 data block, 3 command), its node and its send count; these three are 0 if
-- there is no exchange; last the number of this layout. Bytes that no master writes are refused as 21 (STATE): another number of bytes,
-- another layout, a kind over 3, or kind 0 with a node or a send count.
use Rattle.std.specs.Prelude.{ℕ, Bool, cond, List, [], ◌∷◌, ◌++◌, leb, eqb, length, take, get_or, Option, None, Some, Ok, Err}
use Rattle.format.specs.Tests.{all_true}
use Rattle.master.specs.declared.Kind.{Kind}
use Rattle.master.specs.declared.Kind.TheVariants.{Poll, DataBlock, Command}
use Rattle.master.specs.declared.Exchange.{Exchange}
use Rattle.master.specs.declared.Master.{Master}
use Rattle.master.specs.Masters.{kind_number}
use Rattle.format.specs.declared.Refusal.TheVariants.{State}
use Rattle.format.specs.Refusals.{Returned}

-- ---- the bytes of a master

abbrev pub activity_bytes : Option Exchange → List ℕ
activity_bytes None = 0 ∷ 0 ∷ 0 ∷ []
activity_bytes (Some exchange) = kind_number exchange.kind ∷ exchange.node ∷ exchange.sends ∷ []

-- a release that writes other bytes for a master gives them another number
abbrev pub layout_number : ℕ
layout_number = 1

abbrev pub last_bytes : Option Exchange → List ℕ
last_bytes activity = activity_bytes activity ++ (layout_number ∷ [])

unfoldable pub state_bytes : Master → List ℕ
state_bytes master = master.chosen ++ last_bytes master.activity

-- ---- the master read back

-- of a number 1 to 3
abbrev pub kind_of : ℕ → Kind
kind_of n = cond (eqb n 1) Poll (cond (eqb n 2) DataBlock Command)

abbrev pub activity_of : (kind node sends : ℕ) → Option Exchange
activity_of kind node sends = cond (eqb kind 0) None (Some (record { kind = kind_of kind; node = node; sends = sends }))

unfoldable pub master_in : List ℕ → Master
master_in state =
    record { chosen = take 64 state; activity = activity_of (get_or state 64 0) (get_or state 65 0) (get_or state 66 0) }

-- ---- whether bytes are those of a master, sound or not

unfoldable pub activity_written : (kind node sends : ℕ) → Bool
activity_written kind node sends = cond (eqb kind 0) (all_true (eqb node 0 ∷ eqb sends 0 ∷ [])) (leb kind 3)

unfoldable pub is_state : List ℕ → Bool
is_state state =
    all_true
    (eqb (length state) 68
    ∷ eqb (get_or state 67 0) layout_number
    ∷ activity_written (get_or state 64 0) (get_or state 65 0) (get_or state 66 0)
    ∷ [])

-- STATE: bytes that no master writes
abbrev pub loaded : List ℕ → Returned Master
loaded state = cond (is_state state) (Ok (master_in state)) (Err State)
