-- Document 01, "Streams and receiving", second paragraph: what a frame of its key does to an open slot. This is also the one
-- step of the one-stream receiver: "At each it does what the rules above say for a frame of its key: that gives its answer
-- ("broke" or a refusal's number included), its next state and its bytes. Bytes not written stay. It knows no other stream."
use Rattle.std.specs.Prelude.{ℕ, ◌+◌, ◌/◌, ◌%◌, Bool, true, false, cond, List, [], ◌∷◌, leb, eqb, length}
use Rattle.copying.specs.Copy.{written}
use Rattle.format.specs.declared.Format.{Format}
use Rattle.format.specs.declared.Flag.{Flag}
use Rattle.format.specs.declared.Flag.TheVariants.{Middle, Start, End, Single}
use Rattle.format.specs.declared.Refusal.TheVariants as refusal
use Rattle.format.specs.Formats.{piece_size, number_range}
use Rattle.format.specs.Refusals.{Result, value, refused, number, Check, check, guarded}
use Rattle.frame.specs.Judge.{Frame}
use Rattle.stream.specs.declared.Stepped.{Stepped}
use Rattle.stream.specs.declared.Progress.{Progress}
use Rattle.stream.specs.declared.Progress.TheVariants.{Idle, Collecting, Done}
use Rattle.stream.specs.Answers.{Reply, packet, kept, meaning}

-- the answer, the next progress, the area's bytes
pub record Next : Type 0 where
  pub answer : Result Reply
  pub progress : Progress
  pub area : List ℕ

abbrev pub collecting : Progress → Bool
collecting Idle = false
collecting (Collecting h) = true
collecting (Done h) = false

-- h; 0 where nothing is held
abbrev pub held : Progress → ℕ
held Idle = 0
held (Collecting h) = h
held (Done h) = h

-- "The number awaited is h divided by the piece size, modulo 64 in extended": over the piece size z and the number range m. A sound
-- standard stream holds 1,785 bytes at most while collecting, so that modulo 256 is no change there
abbrev pub awaited : (z m h : ℕ) → ℕ
awaited z m h = h / z % m

-- a middle or end of number n with that many packet bytes. ORPHAN: when not collecting. STEP: another number than awaited. LONG: the sum
-- would pass 2,048
unfoldable pub follows : (z m : ℕ) → Progress → (n size : ℕ) → List Check
follows z m progress n size =
    check refusal.Orphan (collecting progress)
    ∷ check refusal.Step (eqb n (awaited z m (held progress)))
    ∷ check refusal.Long (leb (held progress + size) 2048)
    ∷ []

-- "ORPHAN, nothing changes"; "STEP, then idle, no byte written"; "LONG, then idle, no byte written"
unfoldable pub progress_after : (n : ℕ) → Progress → Progress
progress_after n progress = cond (eqb n (number refusal.Orphan)) progress Idle

abbrev pub or_refused : Progress → (area : List ℕ) → Result Next → Next
or_refused progress area (value next) = next
or_refused progress area (refused n) = record { answer = refused n; progress = progress_after n progress; area = area }

-- "else the bytes follow those held; "kept", or "packet" and done for an end": `last` for an end
abbrev pub appended : (last : Bool) (h : ℕ) (area bytes : List ℕ) → Next
appended false h area bytes =
    record { answer = value (kept false); progress = Collecting (h + length bytes); area = written area h bytes }
appended true h area bytes =
    record { answer = value (packet (h + length bytes) false); progress = Done (h + length bytes); area = written area h bytes }

unfoldable pub followed : (z m : ℕ) (last : Bool) → Progress → (area : List ℕ) (n : ℕ) (bytes : List ℕ) → Next
followed z m last progress area n bytes =
    or_refused progress area (guarded (follows z m progress n (length bytes)) (appended last (held progress) area bytes))

-- a frame by its flag, number n and packet bytes.
-- single: its bytes go to the head of the area; done; answer "packet" with the length.
-- start: likewise; collecting; answer "kept".
-- either of these while collecting drops the older packet and adds "broke" to the answer.
unfoldable pub stepped : (z m : ℕ) → Progress → (area : List ℕ) → Flag → (n : ℕ) (bytes : List ℕ) → Next
stepped z m progress area Single n bytes =
    record {
      answer = value (packet (length bytes) (collecting progress));
      progress = Done (length bytes);
      area = written area 0 bytes;
    }
stepped z m progress area Start n bytes =
    record {
      answer = value (kept (collecting progress));
      progress = Collecting (length bytes);
      area = written area 0 bytes;
    }
stepped z m progress area Middle n bytes = followed z m false progress area n bytes
stepped z m progress area End n bytes = followed z m true progress area n bytes

unfoldable pub step : Format → Progress → (area : List ℕ) → Frame → Next
step format progress area frame =
    stepped (piece_size format) (number_range format) progress area frame.flag frame.number frame.bytes

-- The public call is this step, over any lent bytes: STORE where the area is not 2,048 bytes, SURPLUS where there are over 8 packet
-- bytes, and then nothing changes. A receiving call never meets either: its store has been measured and its image judged. Nor does
-- it hand on a progress that is not sound; such a one, of which document 01 says nothing here, steps as the lines above say.
abbrev pub kept_as : Progress → List ℕ → Result Next → Next
kept_as progress area (value next) = next
kept_as progress area (refused n) = record { answer = refused n; progress = progress; area = area }

unfoldable pub offered : Format → Progress → (area : List ℕ) → Flag → (n : ℕ) (bytes : List ℕ) → Next
offered format progress area flag n bytes =
    kept_as progress area
    (guarded (check refusal.Store (eqb (length area) 2048) ∷ check refusal.Surplus (leb (length bytes) 8) ∷ [])
    (stepped (piece_size format) (number_range format) progress area flag n bytes))

-- what the code hands back, and the area afterwards, say
abbrev pub next_of : Stepped → List ℕ → Next
next_of r area = record { answer = meaning r.answer; progress = r.progress; area = area }
