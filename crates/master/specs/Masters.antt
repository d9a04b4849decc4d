-- Document 01, "Filters, exchanges and watch", second paragraph: "A master holds one chosen bus for each of 64 nodes (A when new) and
-- at most one exchange (extended only; none when new). [..] Poll: 1 send, awaits function 2. Data block: 2 sends, awaits 4. Command: 2
-- sends, then a third on the other bus, awaits 4 (source 9.3). [..] A master is sound when its chosen buses are 0 or 1 and an exchange
-- under way has a node 0 to 63 and a send count from 1 to its kind's total."
use Rattle.std.specs.Prelude.{ℕ, ◌-◌, Bool, true, List, [], ◌∷◌, leb, eqb, length, get_or, set, replicate, Option, None, Some}
use Rattle.format.specs.Tests.{all_true}
use Rattle.master.specs.declared.Kind.{Kind}
use Rattle.master.specs.declared.Kind.TheVariants.{Poll, DataBlock, Command}
use Rattle.master.specs.declared.Plan.{Plan}
use Rattle.master.specs.declared.Exchange.{Exchange}
use Rattle.master.specs.declared.Master.{Master}

abbrev pub new_master : Master
new_master = record { chosen = replicate 64 0; activity = None }

-- a kind's number, where it is handed over as a byte
abbrev pub kind_number : Kind → ℕ
kind_number Poll = 1
kind_number DataBlock = 2
kind_number Command = 3

-- how an exchange of a kind goes: the sends on the first bus, that chosen at the start; all its sends; the function awaited
abbrev pub plan_of : Kind → Plan
plan_of Poll = record { first = 1; total = 1; awaited = 2 }
plan_of DataBlock = record { first = 2; total = 2; awaited = 4 }
plan_of Command = record { first = 2; total = 3; awaited = 4 }

-- the function that an exchange of a kind is sent with (source Table 12): 1 polls, and 2 replies to it; 3 carries a command or data that
-- is to be answered, and 4 replies to it
abbrev pub function_sent : Kind → ℕ
function_sent Poll = 1
function_sent DataBlock = 3
function_sent Command = 3

-- the bus chosen for a node
unfoldable pub chosen_bus : List ℕ → ℕ → ℕ
chosen_bus chosen node = get_or chosen node 0

-- 0 is A, 1 is B
abbrev pub other : ℕ → ℕ
other bus = 1 - bus

-- the chosen bus of a node becomes the other one
unfoldable pub switched : List ℕ → ℕ → List ℕ
switched chosen node = set chosen node (other (chosen_bus chosen node))

unfoldable pub buses_in_range : List ℕ → Bool
buses_in_range [] = true
buses_in_range (bus ∷ buses) = all_true (leb bus 1 ∷ buses_in_range buses ∷ [])

-- one chosen bus for each of 64 nodes, each 0 or 1
unfoldable pub chosen_sound : List ℕ → Bool
chosen_sound chosen = all_true (eqb (length chosen) 64 ∷ buses_in_range chosen ∷ [])

unfoldable pub exchange_sound : Option Exchange → Bool
exchange_sound None = true
exchange_sound (Some exchange) =
    all_true (leb exchange.node 63 ∷ leb 1 exchange.sends ∷ leb exchange.sends (plan_of exchange.kind).total ∷ [])

unfoldable pub sound : Master → Bool
sound master = all_true (chosen_sound master.chosen ∷ exchange_sound master.activity ∷ [])
