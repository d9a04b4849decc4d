-- Document 01, "Splitting", last sentence: "A caller may ask for [..] piece k written to a lent output; only the bytes of that image are
-- written"; and "Refusal numbers", 12: "output shorter than the image". So it is with all that is written to a lent output, lines too.
use Rattle.std.specs.Prelude.{ℕ, ◌≡◌, List, [], ◌∷◌, ◌++◌, leb, length, drop}
use Rattle.format.specs.declared.Refusal.TheVariants.{Room}
use Rattle.format.specs.Refusals.{Result, value, refused, check, guarded}

-- bytes for an output of `room` bytes. ROOM: output shorter than they are
unfoldable pub fitting : (bytes : List ℕ) (room : ℕ) → Result (List ℕ)
fitting bytes room = guarded (check Room (leb (length bytes) room) ∷ []) bytes

-- the call answers how many bytes it wrote
abbrev pub answer : Result (List ℕ) → Result ℕ
answer (value bytes) = value (length bytes)
answer (refused n) = refused n

-- the output with bytes written over its head
abbrev pub over : List ℕ → List ℕ → List ℕ
over bytes output = bytes ++ drop (length bytes) output

-- the output afterwards; a refusal leaves it as it was
abbrev pub output_after : Result (List ℕ) → List ℕ → List ℕ
output_after (value bytes) output = over bytes output
output_after (refused n) output = output

-- both: what a call that writes such bytes says, and the output that it leaves
abbrev pub Writes : Result (List ℕ) → (output : List ℕ) → Result ℕ → (last : List ℕ) → Type 0
Writes given output said last = (said ≡ answer given) × (last ≡ output_after given output)
