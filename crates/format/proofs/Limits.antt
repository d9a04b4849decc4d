-- The formats' limits, as far as proofs over both need them.
use Prim.Native.Nat.{◌+◌, ◌≤◌, ◌<◌}
use mathlib.Core.Bool.{Bool, true, false, cond}
use native.Mathlib.Omega.{arith}
use Rattle.format.specs.declared.Format.{Format}
use Rattle.format.specs.declared.Format.TheVariants.{Extended, Standard}
use Rattle.format.specs.declared.Flag.{Flag}
use Rattle.format.specs.Formats.{packet_limit, piece_size, header_size, number_range, numbered, packet_start}

pub some_bytes : (format : Format) → 0 < piece_size format
some_bytes Extended = omega arith
some_bytes Standard = omega arith

pub eight_bytes : (format : Format) → piece_size format ≤ 8
eight_bytes Extended = omega arith
eight_bytes Standard = omega arith

pub most_bytes : (format : Format) → packet_limit format ≤ 2048
most_bytes Extended = omega arith
most_bytes Standard = omega arith

pub some_numbers : (format : Format) → 0 < number_range format
some_numbers Extended = omega arith
some_numbers Standard = omega arith

pub five_bytes : (format : Format) → header_size format ≤ 5
five_bytes Extended = omega arith
five_bytes Standard = omega arith

-- the packet bytes begin at the header's end, or one byte after it
pub start_near : (format : Format) (flag : Flag) → (header_size format ≤ packet_start format flag) × (packet_start format flag ≤ header_size format + 1)
start_near format flag = go (numbered format flag)
  where
    go : (b : Bool) → (header_size format ≤ cond b (header_size format + 1) (header_size format)) × (cond b (header_size format + 1) (header_size format) ≤ header_size format + 1)
    go true = (omega arith, omega arith)
    go false = (omega arith, omega arith)

pub range_small : (format : Format) → number_range format ≤ 256
range_small Extended = omega arith
range_small Standard = omega arith
