-- The checks of sending, one after the other, for the code that makes them.
use Prim.Native.Nat.{ℕ, ◌%◌, ◌≤◌, ◌<◌}
use mathlib.Core.Path.{◌≡◌, refl, ap, subst, ◌∙◌}
use mathlib.Core.Bool.{Bool, true, false}
use mathlib.Core.List.{List}
use native.Mathlib.Nat.{mod-lt}
use native.Mathlib.Omega.{arith}
use lib.Dec.{leb}
use lib.ListN.{length, length-take}
use borrow.Author.Tests.{leb-true, leb-false, le-leb, lt-leb, lt-ltb, le-ltb}
use Rattle.format.specs.declared.Fields.{Fields}
use Rattle.format.specs.declared.Format.{Format}
use Rattle.format.specs.declared.Flag.{Flag}
use Rattle.format.specs.Refusals.{Returned}
use Rattle.std.specs.Prelude.{Err}
use Rattle.format.specs.declared.Refusal.{Refusal}
use Rattle.format.specs.declared.Refusal.TheVariants.{Field, Size, Index}
use Rattle.format.specs.Formats.{packet_limit, piece_size, number_range, format_of, in_range}
use Rattle.format.specs.Refusals.{Result, refused, number, meaning}
use Rattle.format.specs.Outputs.{fitting, Writes}
use Rattle.format.proofs.Checks.{stop_then, pass_then, none_left_then}
use Rattle.format.proofs.Outputs.{not_written}
use Rattle.format.proofs.Limits.{some_bytes, eight_bytes, most_bytes, some_numbers}
use Rattle.frame.specs.Judge.{Frame}
use Rattle.frame.specs.Image.{image_of}
use Rattle.packet.specs.Split.{count_of, piece_flag, piece_bytes, frame_with, piece}
use Rattle.packet.specs.Send.{send}
use Rattle.packet.proofs.Counts.{bytes_single, bytes_several}

-- a piece carries eight bytes at most
pub bytes_small : (z : ℕ) (packet : List ℕ) (k : ℕ) → z ≤ 8 → length (piece_bytes z packet k) ≤ 8
bytes_small z packet k small = go (leb (length packet) 8) refl
  where
    go : (b : Bool) → leb (length packet) 8 ≡ b → length (piece_bytes z packet k) ≤ 8
    go true e = let h = leb-true (length packet) 8 e in rw (bytes_single z packet k h) h
    go false e = rw (bytes_several z packet k (leb-false (length packet) 8 e), length-take) (omega arith)

-- the answer and the output of sending, as the contract has them
abbrev Sent : Fields → List ℕ → ℕ → List ℕ → Returned ℕ → List ℕ → Type 0
Sent fields packet k output r last = Writes (send fields packet k (length output)) output (meaning r) last

-- what the code knows once the packet fits its format: z is the piece size
pub record Sized (fields : Fields) (packet : List ℕ) (format : Format) (z : ℕ) : Type 0 where
  pub range : in_range fields ≡ true
  pub of_format : format ≡ format_of fields
  pub within : length packet ≤ packet_limit format
  pub size : z ≡ piece_size format

-- and once there is a piece k
pub record Indexed (fields : Fields) (packet : List ℕ) (k : ℕ) (format : Format) (z count : ℕ) : Type 0 where
  pub sized : Sized fields packet format z
  pub counted : count ≡ count_of z (length packet)
  pub index : k < count

pub sizes : {fields : Fields} {packet : List ℕ} {format : Format} {z : ℕ} → Sized fields packet format z
    → (0 < z) × (z ≤ 8) × (length packet ≤ 2048)
sizes {format} s =
    let e = s.size in
    let w = s.within in
    (omega (arith, some_bytes format), omega (arith, eight_bytes format), omega (arith, most_bytes format))

pub fits : {fields : Fields} (packet : List ℕ) {format : Format} {z : ℕ} → in_range fields ≡ true → format ≡ format_of fields
    → length packet ≤ packet_limit format → z ≡ piece_size format → Sized fields packet format z
fits packet r f w e = record { range = r; of_format = f; within = w; size = e }

-- the number of piece k is in its format's range
pub number_small : (fields : Fields) {format : Format} (k n : ℕ) → format ≡ format_of fields → n ≡ k % number_range format
    → n < number_range (format_of fields)
number_small fields k n f e = rw (e, f) (mod-lt k (some_numbers (format_of fields)))

module _ (fields : Fields) (packet : List ℕ) (k : ℕ) (output : List ℕ) where
  as_refused : (name : Refusal) → refused (number name) ≡ send fields packet k (length output) → Sent fields packet k output (Err name) output
  as_refused name e = not_written _ output (number name) e

  pub bad_field : in_range fields ≡ false → Sent fields packet k output (Err Field) output
  unfolding send
  bad_field h = as_refused Field (stop_then Field _ _ h)

  pub bad_size : in_range fields ≡ true → (format : Format) → format ≡ format_of fields → packet_limit format < length packet
      → Sent fields packet k output (Err Size) output
  unfolding send
  bad_size r format e h =
      let m : packet_limit (format_of fields) < length packet = rw (← e) h in
      as_refused Size (pass_then Field _ _ r (stop_then Size _ _ (lt-leb _ _ m)))

  module _ {format : Format} {z count : ℕ} (s : Sized fields packet format z) (ec : count ≡ count_of z (length packet)) where
    within-limit : leb (length packet) (packet_limit (format_of fields)) ≡ true
    within-limit = let m : length packet ≤ packet_limit (format_of fields) = rw (← s.of_format) s.within in le-leb _ _ m

    pub bad-index : count ≤ k → Sent fields packet k output (Err Index) output
    unfolding send
    bad-index h =
        let m : count_of (piece_size (format_of fields)) (length packet) ≤ k = rw (← s.of_format, ← s.size, ← ec) h in
        as_refused Index (pass_then Field _ _ s.range (pass_then Size _ _ within-limit (stop_then Index _ _ (le-ltb _ _ m))))

    -- then only ROOM is left
    is-fitting : k < count → fitting (image_of (piece fields packet k)) (length output) ≡ send fields packet k (length output)
    unfolding send
    is-fitting h =
        let m : k < count_of (piece_size (format_of fields)) (length packet) = rw (← s.of_format, ← s.size, ← ec) h in
        pass_then Field _ _ s.range (pass_then Size _ _ within-limit (pass_then Index _ _ (lt-ltb _ _ m) (none_left_then _)))

-- piece k as the code has it: flag, number n and bytes
module _ {fields : Fields} {packet : List ℕ} {k : ℕ} {format : Format} {z count : ℕ} (i : Indexed fields packet k format z count) (flag : Flag) (eg : flag ≡ piece_flag count k) (n : ℕ) (en : n ≡ k % number_range format) (bytes : List ℕ) (eb : bytes ≡ piece_bytes z packet k) where
  pub ready : (in_range fields ≡ true) × (n < number_range (format_of fields)) × (length bytes ≤ 8)
  ready =
      let s = i.sized in
      (s.range, number_small fields k n s.of_format en, rw eb (bytes_small z packet k (sizes s).1))

  is_piece : frame_with fields flag n bytes ≡ piece fields packet k
  unfolding piece
  is_piece = let s = i.sized in rw (eg, en, eb, i.counted, s.size, s.of_format)

  pub whole : (output : List ℕ) (r : Returned ℕ) (last : List ℕ)
      → Writes (fitting (image_of (frame_with fields flag n bytes)) (length output)) output (meaning r) last → Sent fields packet k output r last
  whole output r last p =
      let e = is-fitting fields packet k output i.sized i.counted i.index in
      let given = ap (λ (f : Frame). fitting (image_of f) (length output)) is_piece ∙ e in
      subst (λ (g : Result (List ℕ)). Writes g output (meaning r) last) given p
