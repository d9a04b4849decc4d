-- Document 01, "Streams and receiving", the rules for a frame of an open key: each case, each end of each range from both sides, and the
-- order ORPHAN, STEP, LONG. The figures are literals, so that a bound changed alike in a definition and in the code breaks the claim.
-- proofs/Bounds.antt proves it.
use Rattle.std.specs.Prelude.{ℕ, ◌≡◌, true, false, List, [], ◌∷◌, replicate}
use Rattle.format.specs.declared.Format.{Format}
use Rattle.format.specs.declared.Format.TheVariants.{Extended, Standard}
use Rattle.format.specs.declared.Flag.{Flag}
use Rattle.format.specs.declared.Flag.TheVariants.{Middle, Start, End, Single}
use Rattle.format.specs.Formats.{piece_size, number_range}
use Rattle.format.specs.Refusals.{Result, value, refused}
use Rattle.format.specs.Tables.{AllHold}
use Rattle.stream.specs.declared.Progress.{Progress}
use Rattle.stream.specs.declared.Progress.TheVariants.{Idle, Collecting, Done}
use Rattle.stream.specs.Answers.{Reply, packet, kept}
use Rattle.stream.specs.Step.{Next, stepped, offered}

pub data Bound : Type 0 where
  -- a progress, a frame by its flag, number and how many packet bytes it carries, and the answer and the progress after it
  steps : Format → Progress → Flag → (n size : ℕ) → Result Reply → Progress → Bound
  -- an area, a progress, a frame by its flag, number and packet bytes, and the area after it
  writes : Format → (area : List ℕ) → Progress → Flag → (n : ℕ) → List ℕ → (last : List ℕ) → Bound
  -- the public call at an area of that size and so many packet bytes: the answer
  offers : (area size : ℕ) → Result Reply → Bound

abbrev pub table : List Bound
table =
    -- single: done; "packet" with the length; "broke" only while collecting
    steps Extended Idle Single 0 0 (value (packet 0 false)) (Done 0)
    ∷ steps Extended Idle Single 0 8 (value (packet 8 false)) (Done 8)
    ∷ steps Extended (Done 9) Single 0 1 (value (packet 1 false)) (Done 1)
    ∷ steps Extended (Collecting 8) Single 0 1 (value (packet 1 true)) (Done 1)
    ∷ steps Standard (Collecting 7) Single 0 8 (value (packet 8 true)) (Done 8)
    -- start: likewise; collecting; "kept"
    ∷ steps Extended Idle Start 0 8 (value (kept false)) (Collecting 8)
    ∷ steps Extended (Done 9) Start 0 8 (value (kept false)) (Collecting 8)
    ∷ steps Extended (Collecting 16) Start 0 8 (value (kept true)) (Collecting 8)
    ∷ steps Standard Idle Start 0 7 (value (kept false)) (Collecting 7)
    -- middle or end when not collecting: ORPHAN, nothing changes; a done packet stays
    ∷ steps Extended Idle Middle 1 8 (refused 6) Idle
    ∷ steps Extended Idle End 1 1 (refused 6) Idle
    ∷ steps Extended (Done 9) Middle 1 8 (refused 6) (Done 9)
    ∷ steps Standard (Done 9) End 1 2 (refused 6) (Done 9)
    -- another number than awaited: STEP, then idle
    ∷ steps Extended (Collecting 8) Middle 1 8 (value (kept false)) (Collecting 16)
    ∷ steps Extended (Collecting 8) Middle 0 8 (refused 7) Idle
    ∷ steps Extended (Collecting 8) Middle 2 8 (refused 7) Idle
    ∷ steps Extended (Collecting 8) End 2 1 (refused 7) Idle
    ∷ steps Extended (Collecting 8) End 1 1 (value (packet 9 false)) (Done 9)
    ∷ steps Standard (Collecting 7) End 1 2 (value (packet 9 false)) (Done 9)
    ∷ steps Standard (Collecting 14) Middle 2 7 (value (kept false)) (Collecting 21)
    -- modulo 64 in extended: 63, then 0; not in standard
    ∷ steps Extended (Collecting 504) Middle 63 8 (value (kept false)) (Collecting 512)
    ∷ steps Extended (Collecting 512) Middle 0 8 (value (kept false)) (Collecting 520)
    ∷ steps Extended (Collecting 512) Middle 64 8 (refused 7) Idle
    ∷ steps Standard (Collecting 448) Middle 64 7 (value (kept false)) (Collecting 455)
    ∷ steps Standard (Collecting 448) Middle 0 7 (refused 7) Idle
    -- the sum 2,048 is kept, one more is LONG, then idle; the longest packets
    ∷ steps Extended (Collecting 2040) Middle 63 8 (value (kept false)) (Collecting 2048)
    ∷ steps Extended (Collecting 2040) End 63 8 (value (packet 2048 false)) (Done 2048)
    ∷ steps Extended (Collecting 2048) End 0 1 (refused 8) Idle
    ∷ steps Extended (Collecting 2048) Middle 0 8 (refused 8) Idle
    ∷ steps Standard (Collecting 1785) End 255 7 (value (packet 1792 false)) (Done 1792)
    ∷ steps Standard (Collecting 1785) End 254 7 (refused 7) Idle
    -- STEP before LONG
    ∷ steps Extended (Collecting 2048) End 1 1 (refused 7) Idle
    -- the bytes go to the head of the area, or follow those held; a refusal writes none; bytes not written stay
    ∷ writes Extended (1 ∷ 2 ∷ 3 ∷ 4 ∷ []) (Collecting 8) Single 0 (7 ∷ 8 ∷ []) (7 ∷ 8 ∷ 3 ∷ 4 ∷ [])
    ∷ writes Extended (1 ∷ 2 ∷ 3 ∷ 4 ∷ []) (Done 3) Start 0 (7 ∷ 8 ∷ []) (7 ∷ 8 ∷ 3 ∷ 4 ∷ [])
    ∷ writes Extended (1 ∷ 2 ∷ 3 ∷ 4 ∷ 5 ∷ 6 ∷ 7 ∷ 8 ∷ 9 ∷ 10 ∷ []) (Collecting 8) End 1 (99 ∷ [])
    (1 ∷ 2 ∷ 3 ∷ 4 ∷ 5 ∷ 6 ∷ 7 ∷ 8 ∷ 99 ∷ 10 ∷ [])
    ∷ writes Standard (1 ∷ 2 ∷ 3 ∷ 4 ∷ 5 ∷ 6 ∷ 7 ∷ 8 ∷ 9 ∷ 10 ∷ []) (Collecting 7) Middle 1 (99 ∷ 98 ∷ [])
    (1 ∷ 2 ∷ 3 ∷ 4 ∷ 5 ∷ 6 ∷ 7 ∷ 99 ∷ 98 ∷ 10 ∷ [])
    ∷ writes Extended (1 ∷ 2 ∷ []) Idle Middle 1 (7 ∷ []) (1 ∷ 2 ∷ [])
    ∷ writes Extended (1 ∷ 2 ∷ []) (Collecting 8) Middle 2 (7 ∷ []) (1 ∷ 2 ∷ [])
    ∷ writes Extended (1 ∷ 2 ∷ []) (Collecting 2048) Middle 0 (7 ∷ []) (1 ∷ 2 ∷ [])
    -- the area's 2,048 bytes, then 8 packet bytes
    ∷ offers 2048 8 (value (packet 8 false))
    ∷ offers 2047 8 (refused 13)
    ∷ offers 2049 8 (refused 13)
    ∷ offers 2048 9 (refused 25)
    ∷ offers 2047 9 (refused 13)
    ∷ []

-- the step of a frame of so many packet bytes, or of those bytes
abbrev pub step_of : Format → (area : List ℕ) → Progress → Flag → (n : ℕ) → List ℕ → Next
step_of format area progress flag n bytes = stepped (piece_size format) (number_range format) progress area flag n bytes

abbrev pub Holds : Bound → Type 0
Holds (steps format progress flag n size said next) =
    ((step_of format [] progress flag n (replicate size 7)).answer ≡ said)
    × ((step_of format [] progress flag n (replicate size 7)).progress ≡ next)
Holds (writes format area progress flag n bytes last) = (step_of format area progress flag n bytes).area ≡ last
Holds (offers area size said) = (offered Extended Idle (replicate area 0) Single 0 (replicate size 7)).answer ≡ said

unfoldable pub StepBounds : Type 0
StepBounds = AllHold Holds table
