-- Document 01, "Splitting": the pieces of a packet, as frames.
use Rattle.std.specs.Prelude.{ℕ, zero, suc, ◌+◌, ◌-◌, ◌*◌, ◌/◌, ◌%◌, cond, List, [], ◌∷◌, leb, eqb, length, take, drop}
use Rattle.format.specs.declared.Fields.{Fields}
use Rattle.format.specs.declared.Flag.{Flag}
use Rattle.format.specs.declared.Flag.TheVariants.{Middle, Start, End, Single}
use Rattle.format.specs.Formats.{piece_size, number_range, format_of}
use Rattle.frame.specs.Judge.{Frame}

-- "A packet of 0 to 8 bytes is one single piece. A longer one is a start, middles and an end, every piece but the end
-- filled": how many pieces of z bytes a packet of n bytes is
unfoldable pub count_of : (z n : ℕ) → ℕ
count_of z n = cond (leb n 8) 1 ((n + (z - 1)) / z)

unfoldable pub piece_flag : (count k : ℕ) → Flag
piece_flag count k = cond (eqb count 1) Single (cond (eqb k 0) Start (cond (eqb (k + 1) count) End Middle))

-- the packet bytes of piece k: all of them in a single, else z of them from z × k on, or what is left
unfoldable pub piece_bytes : ℕ → List ℕ → ℕ → List ℕ
piece_bytes z packet k = cond (leb (length packet) 8) packet (take z (drop (z * k) packet))

abbrev pub frame_with : Fields → Flag → ℕ → List ℕ → Frame
frame_with fields flag number bytes = record { fields = fields; flag = flag; number = number; bytes = bytes }

-- "Piece k has number k, taken modulo 64 in extended. [..] The priority is the same in all pieces of a packet", as all fields
unfoldable pub piece : Fields → List ℕ → ℕ → Frame
piece fields packet k =
    let z : ℕ = piece_size (format_of fields) in
    frame_with fields (piece_flag (count_of z (length packet)) k) (k % number_range (format_of fields)) (piece_bytes z packet k)

-- n pieces from piece k on; all pieces
unfoldable pub pieces_from : Fields → List ℕ → (k n : ℕ) → List Frame
pieces_from fields packet k zero = []
pieces_from fields packet k (suc n) = piece fields packet k ∷ pieces_from fields packet (suc k) n

unfoldable pub pieces : Fields → List ℕ → List Frame
pieces fields packet = pieces_from fields packet 0 (count_of (piece_size (format_of fields)) (length packet))
