-- Document 01, "Streams and receiving": the answers of a receiving call, and "Refusal numbers": "Each returns its number".
use Rattle.std.specs.Prelude.{ℕ, Bool}
use Rattle.format.specs.Refusals.{Result, value, refused, number}
use Rattle.format.specs.Refusals.{Returned}
use Rattle.stream.specs.declared.Answer.{Answer}
use Rattle.stream.specs.declared.Answer.TheVariants.{Packet, Kept, Filtered}
use Rattle.std.specs.Prelude.{Err, Ok}

-- answer "packet" with the length, and "kept", each with "broke" or without; "filtered"
pub data Reply : Type 0 where
  packet : (length : ℕ) (broke : Bool) → Reply
  kept : (broke : Bool) → Reply
  filtered : Reply

-- what the code's answer says: a reply, or a refusal's number
abbrev pub meaning : Returned Answer → Result Reply
meaning (Ok (Packet length broke)) = value (packet length broke)
meaning (Ok (Kept broke)) = value (kept broke)
meaning (Ok Filtered) = value filtered
meaning (Err name) = refused (number name)
