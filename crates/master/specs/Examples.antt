-- Examples that hold each rule to its bounds, and document 01's own ("Examples to hold against the rules"): a field for each rule, a line
-- for each example. proofs/Examples.antt proves them.
use Rattle.std.specs.Prelude.{ℕ, ◌≡◌, true, false, List, [], ◌∷◌, ◌++◌, replicate, None, Some}
use Rattle.format.specs.Refusals.{value, refused}
use Rattle.master.specs.declared.Kind.{Kind}
use Rattle.master.specs.declared.Kind.TheVariants.{Poll, DataBlock, Command}
use Rattle.master.specs.declared.Master.{Master}
use Rattle.master.specs.Masters.{new_master, chosen_bus, sound}
use Rattle.master.specs.Exchanges.{send, done, gave_up}
use Rattle.master.specs.Runs.{Call, start, reply, timeout, answers, run}

-- a master with these chosen buses; and with bus A for every node and an exchange
abbrev choosing : List ℕ → Master
choosing buses = record { chosen = buses; activity = None }

abbrev waiting : Kind → (node sends : ℕ) → Master
waiting kind node sends = record { chosen = replicate 64 0; activity = Some (record { kind = kind; node = node; sends = sends }) }

-- "Command to node 22 chosen A, two timeouts: third send on B. A reply on A then is NOTAWAITED; on B it is done, B chosen."
abbrev to_node22 : List Call
to_node22 = start Command 22 ∷ timeout ∷ timeout ∷ reply 0 22 4 ∷ reply 1 22 4 ∷ []

pub record Examples : Type 0 where
  -- "one chosen bus for each of 64 nodes", "its chosen buses are 0 or 1"
  pub chosen_buses : (sound (choosing (replicate 63 0)) ≡ false)
      × (sound (choosing (replicate 64 0)) ≡ true)
      × (sound (choosing (replicate 65 0)) ≡ false)
      × (sound (choosing (replicate 64 1)) ≡ true)
      × (sound (choosing (2 ∷ replicate 63 0)) ≡ false)
      × (sound (choosing (replicate 63 0 ++ 2 ∷ [])) ≡ false)
  -- "a node 0 to 63"
  pub nodes : (sound (waiting Poll 0 1) ≡ true) × (sound (waiting Poll 63 1) ≡ true) × (sound (waiting Poll 64 1) ≡ false)
  -- "a send count from 1 to its kind's total"
  pub send_counts : (sound (waiting Poll 5 0) ≡ false)
      × (sound (waiting Poll 5 1) ≡ true)
      × (sound (waiting Poll 5 2) ≡ false)
      × (sound (waiting DataBlock 5 0) ≡ false)
      × (sound (waiting DataBlock 5 1) ≡ true)
      × (sound (waiting DataBlock 5 2) ≡ true)
      × (sound (waiting DataBlock 5 3) ≡ false)
      × (sound (waiting Command 5 0) ≡ false)
      × (sound (waiting Command 5 1) ≡ true)
      × (sound (waiting Command 5 3) ≡ true)
      × (sound (waiting Command 5 4) ≡ false)
  -- FIELD: a node over 63; of a reply a bus over 1, a node over 63, a function over 31
  pub fields : (answers new_master (start Poll 63 ∷ []) ≡ value (send 0) ∷ [])
      × (answers new_master (start Poll 64 ∷ []) ≡ refused 9 ∷ [])
      × (answers new_master (reply 1 63 31 ∷ []) ≡ refused 19 ∷ [])
      × (answers new_master (reply 2 63 31 ∷ []) ≡ refused 9 ∷ [])
      × (answers new_master (reply 1 64 31 ∷ []) ≡ refused 9 ∷ [])
      × (answers new_master (reply 1 63 32 ∷ []) ≡ refused 9 ∷ [])
  -- "Order: 21 [..] 9 [..] for a master 18, or 19 then 20": a master that is not sound, a node or a bus out of range, an exchange or none
  pub starts_in_order : (answers (waiting Poll 5 2) (start Poll 64 ∷ []) ≡ refused 21 ∷ [])
      × (answers (waiting Poll 5 1) (start Poll 64 ∷ []) ≡ refused 9 ∷ [])
      × (answers (waiting Poll 5 1) (start Poll 5 ∷ []) ≡ refused 18 ∷ [])
  pub replies_in_order : (answers (choosing (replicate 64 2)) (reply 2 6 4 ∷ timeout ∷ []) ≡ refused 21 ∷ refused 21 ∷ [])
      × (answers new_master (reply 2 6 4 ∷ reply 1 6 4 ∷ timeout ∷ []) ≡ refused 9 ∷ refused 19 ∷ refused 19 ∷ [])
      × (answers (waiting Poll 5 2) (reply 2 6 4 ∷ timeout ∷ []) ≡ refused 21 ∷ refused 21 ∷ [])
      × (answers (waiting Poll 5 1) (reply 2 6 4 ∷ reply 1 6 4 ∷ []) ≡ refused 9 ∷ refused 20 ∷ [])
  -- NOTAWAITED: another bus, another node, another function; else "done"
  pub awaited : (answers (waiting Poll 5 1) (reply 1 5 2 ∷ reply 0 4 2 ∷ reply 0 6 2 ∷ []) ≡ refused 20 ∷ refused 20 ∷ refused 20 ∷ [])
      × (answers (waiting Poll 5 1) (reply 0 5 1 ∷ reply 0 5 3 ∷ reply 0 5 2 ∷ []) ≡ refused 20 ∷ refused 20 ∷ value done ∷ [])
      × (answers (waiting DataBlock 5 2) (reply 0 5 3 ∷ reply 0 5 5 ∷ reply 0 5 4 ∷ []) ≡ refused 20 ∷ refused 20 ∷ value done ∷ [])
      × (answers (waiting Command 5 2) (reply 0 5 3 ∷ reply 0 5 5 ∷ reply 0 5 4 ∷ []) ≡ refused 20 ∷ refused 20 ∷ value done ∷ [])
  -- document 01's; and from B the other one is A
  pub switches : (answers new_master to_node22 ≡ value (send 0) ∷ value (send 0) ∷ value (send 1) ∷ refused 20 ∷ value done ∷ [])
      × (chosen_bus (run new_master to_node22).chosen 22 ≡ 1)
      × (answers (choosing (replicate 64 1)) (start Poll 5 ∷ timeout ∷ []) ≡ value (send 1) ∷ value gave_up ∷ [])
      × (chosen_bus (run (choosing (replicate 64 1)) (start Poll 5 ∷ timeout ∷ [])).chosen 5 ≡ 0)
