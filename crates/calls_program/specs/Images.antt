-- compare/PROTOCOL.md, the calls that hold no state: the response to each, and the output that it is written to.
use Rattle.std.specs.Prelude.{ℕ, zero, suc, ◌+◌, ◌%◌, Bool, cond, List, [], ◌∷◌, ◌==◌}
use Rattle.copying.specs.Copy.{written, copied}
use Rattle.format.specs.declared.Fields.{Fields}
use Rattle.format.specs.declared.Flag.{Flag}
use Rattle.format.specs.Formats.{flag_bits}
use Rattle.format.specs.Refusals.{Result, value, refused}
use Rattle.format.specs.Refusals as refusals
use Rattle.frame.specs.Judge.{Judged, judge}
use Rattle.packet.specs.Send.{piece_count, send}
use Rattle.filter.specs.Filters.{accepts, either_accepts, row_pair}
use Rattle.trace.specs.Lines.{writing}
use Rattle.trace.specs.Records.{record_at}
use Rattle.calls_program.specs.Requests.{byte_at, number2_at, number8_at, bytes_from, format_named, fields_at, refusal_named, line_of}
use Rattle.calls_program.specs.Responses.{answer_bytes, outcome_bytes, found_bytes, field_bytes, flag_byte}
use Rattle.calls_program.specs.Responses.{Responded, responds, room_for, answer_alone, lent_in}

-- 7 PIECE: "format, 5 fields, k (2 bytes), room (1 byte), then the packet"; "all EE"
unfoldable pub piece_in : List ℕ → (room : ℕ) → Result (List ℕ)
piece_in args room = send (fields_at args 1 (format_named (byte_at args 0))) (bytes_from args 9) (number2_at args 6) room

unfoldable pub piece_done : List ℕ → (out : List ℕ) → Responded
piece_done args out =
    let room = byte_at args 8 in
    room_for (4 + room) out (lent_in 4 (piece_in args room) room 0xEE out)

-- 13 JUDGE: "answer (value: where its packet bytes begin), then format, 5 fields, flag, number; a refusal's answer stands alone"
unfoldable pub with_frame : List ℕ → (start : ℕ) → Fields → Flag → (number : ℕ) → List ℕ
with_frame out start fields flag number =
    copied (copied (copied out 0 (answer_bytes 5 start 0)) 4 (field_bytes fields)) 10 (flag_bits flag ∷ number ∷ [])

abbrev pub judged_done : Result Judged → (out : List ℕ) → Responded
judged_done (value j) out =
    responds 12 (with_frame out j.start j.frame.fields j.frame.flag j.frame.number)
judged_done (refused n) out = answer_alone (answer_bytes 4 n 0) out

unfoldable pub judge_done : List ℕ → (out : List ℕ) → Responded
judge_done args out = judged_done (judge (format_named (byte_at args 0)) (bytes_from args 1)) out

-- "n identifiers, from the one given; after 65,535 comes 0": "n bytes, each 1 if the identifier is accepted, else 0"
unfoldable pub accepted_bytes : (ℕ → Bool) → (n from : ℕ) → List ℕ
accepted_bytes accepted zero from = []
accepted_bytes accepted (suc n) from = flag_byte (accepted from) ∷ accepted_bytes accepted n ((from + 1) % 65536)

-- from (2 bytes) and n (2 bytes) stand at a place of the request
unfoldable pub accepted_done : (ℕ → Bool) → List ℕ → (at : ℕ) → (out : List ℕ) → Responded
accepted_done accepted args at out =
    let n = number2_at args (at + 2) in
    room_for n out (written out 0 (accepted_bytes accepted n (number2_at args at)))

-- 15 FILTER: "code (2 bytes), mask (2 bytes)"
unfoldable pub filter_done : List ℕ → (out : List ℕ) → Responded
filter_done args out = accepted_done (accepts (record { code = number2_at args 0; mask = number2_at args 2 })) args 4 out

-- 16 ROW: "the 8 bytes of a row of Table A.1"; "asks the row's pair of filters"
unfoldable pub row_done : List ℕ → (out : List ℕ) → Responded
row_done args out = accepted_done (either_accepts (row_pair args)) args 8 out

-- 18 LINE: "room, line"; "all '-'"
unfoldable pub line_done : List ℕ → (out : List ℕ) → Responded
line_done args out =
    let room = byte_at args 0 in
    room_for (4 + room) out (lent_in 4 (writing (line_of args) room) room 45 out)

-- 6 COUNT, 7 PIECE, 13 JUDGE, 14 NUMBER, 15 FILTER, 16 ROW, 17 RECORD, 18 LINE
unfoldable pub image_done : ℕ → List ℕ → (out : List ℕ) → Responded
image_done operation args out =
    cond (operation == 6) (answer_alone (outcome_bytes (piece_count (format_named (byte_at args 0)) (number8_at args 1))) out)
    (cond (operation == 7) (piece_done args out)
    (cond (operation == 13) (judge_done args out)
    (cond (operation == 14) (answer_alone (answer_bytes 4 (refusals.number (refusal_named (byte_at args 0))) 0) out)
    (cond (operation == 15) (filter_done args out)
    (cond (operation == 16) (row_done args out)
    (cond (operation == 17) (answer_alone (found_bytes (record_at args)) out)
    (cond (operation == 18) (line_done args out)
    (responds 0 out))))))))
