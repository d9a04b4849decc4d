-- Calls on a master one after another, for the claims: what they answer, the master that they end with, and the bus of the latest send.
use Rattle.std.specs.Prelude.{ℕ, List, [], ◌∷◌}
use Rattle.format.specs.Refusals.{Result, value, refused}
use Rattle.master.specs.declared.Kind.{Kind}
use Rattle.master.specs.declared.Master.{Master}
use Rattle.master.specs.Exchanges.{Told, send, done, gave_up, MasterAfter, starting, replying, timing_out}

pub data Call : Type 0 where
  start : (kind : Kind) (node : ℕ) → Call
  reply : (bus node function : ℕ) → Call
  timeout : Call

abbrev pub call : Master → Call → MasterAfter
call master (start kind node) = starting master kind node
call master (reply bus node function) = replying master bus node function
call master timeout = timing_out master

-- each call gets the master that the last handed back
abbrev pub answers : Master → List Call → List (Result Told)
answers master [] = []
answers master (c ∷ calls) = (call master c).answer ∷ answers (call master c).master calls

abbrev pub run : Master → List Call → Master
run master [] = master
run master (c ∷ calls) = run (call master c).master calls

-- the bus of a send; any other answer leaves that before it
abbrev pub sent_on : ℕ → Result Told → ℕ
sent_on bus (value (send b)) = b
sent_on bus (value done) = bus
sent_on bus (value gave_up) = bus
sent_on bus (refused n) = bus

-- the bus of the latest send, or the one given where none is among the answers
abbrev pub latest : ℕ → List (Result Told) → ℕ
latest bus [] = bus
latest bus (answer ∷ answers) = latest (sent_on bus answer) answers

-- a call or an answer, unless it was refused
abbrev pub unless_refused : {A : Type 0} → Result Told → A → List A → List A
unless_refused (value given) x rest = x ∷ rest
unless_refused (refused n) x rest = rest

abbrev pub not_refused : Master → List Call → List Call
not_refused master [] = []
not_refused master (c ∷ calls) = unless_refused (call master c).answer c (not_refused (call master c).master calls)

abbrev pub without_refusals : List (Result Told) → List (Result Told)
without_refusals [] = []
without_refusals (answer ∷ answers) = unless_refused answer answer (without_refusals answers)
