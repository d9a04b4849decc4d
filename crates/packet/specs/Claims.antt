-- What is proved of splitting, in both formats; proofs/Pieces.antt has the proofs.
use Rattle.std.specs.Prelude.{ℕ, ◌+◌, ◌%◌, ◌≤◌, ◌<◌, ◌≡◌, true, List, [], ◌∷◌, ◌++◌, length, get_or}
use Rattle.format.specs.declared.Fields.{Fields}
use Rattle.format.specs.declared.Flag.TheVariants.{Middle, Start, End, Single}
use Rattle.format.specs.Formats.{packet_limit, piece_size, number_range, packet_start, format_of, in_range}
use Rattle.format.specs.Refusals.{value}
use Rattle.frame.specs.Judge.{Frame, judge}
use Rattle.frame.specs.Image.{image_of, sound_frame}
use Rattle.packet.specs.Split.{piece, pieces}
use Rattle.packet.specs.Send.{piece_count}

-- the packet bytes of frames, put together
unfoldable pub joined : List Frame → List ℕ
joined [] = []
joined (frame ∷ frames) = frame.bytes ++ joined frames

pub record IsSplit (fields : Fields) (packet : List ℕ) : Type 0 where
  -- there are exactly as many pieces as the count says, 1 to 256: one for a packet of 0 to 8 bytes, more for a longer one
  pub counted : piece_count (format_of fields) (length packet) ≡ value (length (pieces fields packet))
  pub few : length (pieces fields packet) ≤ 256
  pub one : length packet ≤ 8 → length (pieces fields packet) ≡ 1
  pub more : 8 < length packet → 2 ≤ length (pieces fields packet)
  -- piece k is the k-th of them
  pub in_order : (k : ℕ) → k < length (pieces fields packet) → (other : Frame) → get_or (pieces fields packet) k other ≡ piece fields packet k
  -- a single, or a start, middles and an end; piece k has number k, taken modulo the number range
  pub single : length (pieces fields packet) ≡ 1 → (piece fields packet 0).flag ≡ Single
  pub start : 2 ≤ length (pieces fields packet) → (piece fields packet 0).flag ≡ Start
  pub middle : (k : ℕ) → 0 < k → k + 1 < length (pieces fields packet) → (piece fields packet k).flag ≡ Middle
  pub end : (k : ℕ) → 0 < k → k + 1 ≡ length (pieces fields packet) → (piece fields packet k).flag ≡ End
  pub number : (k : ℕ) → (piece fields packet k).number ≡ k % number_range (format_of fields)
  -- each is a sound frame of the packet's fields
  pub sound : (k : ℕ) → k < length (pieces fields packet) → sound_frame (piece fields packet k) ≡ true
  pub of_packet : (k : ℕ) → (piece fields packet k).fields ≡ fields
  -- its image is judged to be that piece
  pub judged : (k : ℕ) → k < length (pieces fields packet)
      → judge (format_of fields) (image_of (piece fields packet k))
      ≡ value (record { frame = piece fields packet k; start = packet_start (format_of fields) (piece fields packet k).flag })
  -- the packet bytes of all, put together, are the packet
  pub whole : joined (pieces fields packet) ≡ packet
  -- every piece but the end is filled
  pub filled : (k : ℕ) → k + 1 < length (pieces fields packet) → length (piece fields packet k).bytes ≡ piece_size (format_of fields)

unfoldable pub Splitting : Type 0
Splitting =
    (fields : Fields) (packet : List ℕ) → in_range fields ≡ true → length packet ≤ packet_limit (format_of fields) → IsSplit fields packet
