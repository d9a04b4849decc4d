-- `packet::write_piece` meets its contract: each return is the first check that fails (Sending), or what `Header::write` did.
use Rattle.std.proofs.Common.{◌%◌, ℕ, sym, ap, ◌∙◌, arith}
use Rattle.packet.proofs.Sending.{Indexed, fits, bad_field, bad_size, bad-index, number_small, ready, whole}
use Rattle.packet.proofs.write_piece.Goals as goal

pub returns-then-not-in_range-clause-result_value : goal.returns-then-not-in_range-clause-result_value
returns-then-not-in_range-clause-result_value c =
    (bad_field _ _ _ c.args.output.now (sym c.in_range.ensures ∙ c.if-not-in_range.true)).0

pub returns-then-not-in_range-clause-output_after : goal.returns-then-not-in_range-clause-output_after
returns-then-not-in_range-clause-output_after c =
    (bad_field _ _ _ c.args.output.now (sym c.in_range.ensures ∙ c.if-not-in_range.true)).1

pub returns-then-n-packet_limit-clause-result_value : goal.returns-then-n-packet_limit-clause-result_value
returns-then-n-packet_limit-clause-result_value c =
    let r = sym c.in_range.ensures ∙ c.if-not-in_range.false in
    (bad_size _ _ _ c.args.output.now r _ c.format-format.ensures (omega (arith, c.packet_limit.ensures))).0

pub returns-then-n-packet_limit-clause-output_after : goal.returns-then-n-packet_limit-clause-output_after
returns-then-n-packet_limit-clause-output_after c =
    let r = sym c.in_range.ensures ∙ c.if-not-in_range.false in
    (bad_size _ _ _ c.args.output.now r _ c.format-format.ensures (omega (arith, c.packet_limit.ensures))).1

pub returns-then-k-count-clause-result_value : goal.returns-then-k-count-clause-result_value
returns-then-k-count-clause-result_value c =
    let r = sym c.in_range.ensures ∙ c.if-not-in_range.false in
    let s = fits c.args.packet.now r c.format-format.ensures (omega (arith, c.packet_limit.ensures)) c.piece_size-z.ensures in
    (bad-index _ _ c.args.k c.args.output.now s c.count_of-count.ensures (omega arith)).0

pub returns-then-k-count-clause-output_after : goal.returns-then-k-count-clause-output_after
returns-then-k-count-clause-output_after c =
    let r = sym c.in_range.ensures ∙ c.if-not-in_range.false in
    let s = fits c.args.packet.now r c.format-format.ensures (omega (arith, c.packet_limit.ensures)) c.piece_size-z.ensures in
    (bad-index _ _ c.args.k c.args.output.now s c.count_of-count.ensures (omega arith)).1

pub invariant_of-header : goal.invariant_of-header
invariant_of-header c =
    let e = c.number_at.ensures ∙ ap (λ (m : ℕ). c.args.k % m) c.number_range-range.ensures in
    record {
      fields_in_range = sym c.in_range.ensures ∙ c.if-not-in_range.false;
      number_in_range = number_small c.args.fields c.args.k _ c.format-format.ensures e;
    }

pub write-requires : goal.write-requires
write-requires c =
    let r = sym c.in_range.ensures ∙ c.if-not-in_range.false in
    let s = fits c.args.packet.now r c.format-format.ensures (omega (arith, c.packet_limit.ensures)) c.piece_size-z.ensures in
    let i : Indexed c.args.fields c.args.packet.now c.args.k c.format-format.result c.piece_size-z.result c.count_of-count.result =
    record { sized = s; counted = c.count_of-count.ensures; index = omega arith }
    in
    let e = c.number_at.ensures ∙ ap (λ (m : ℕ). c.args.k % m) c.number_range-range.ensures in
    (ready i _ c.flag_at.ensures _ e _ c.bytes_at.ensures).2

pub returns-clause-result_value : goal.returns-clause-result_value
returns-clause-result_value c =
    let r = sym c.in_range.ensures ∙ c.if-not-in_range.false in
    let s = fits c.args.packet.now r c.format-format.ensures (omega (arith, c.packet_limit.ensures)) c.piece_size-z.ensures in
    let i : Indexed c.args.fields c.args.packet.now c.args.k c.format-format.result c.piece_size-z.result c.count_of-count.result =
    record { sized = s; counted = c.count_of-count.ensures; index = omega arith }
    in
    let e = c.number_at.ensures ∙ ap (λ (m : ℕ). c.args.k % m) c.number_range-range.ensures in
    (whole i _ c.flag_at.ensures _ e _ c.bytes_at.ensures c.args.output.now c.write.result c.write.new.output c.write.ensures).0

pub returns-clause-output_after : goal.returns-clause-output_after
returns-clause-output_after c =
    let r = sym c.in_range.ensures ∙ c.if-not-in_range.false in
    let s = fits c.args.packet.now r c.format-format.ensures (omega (arith, c.packet_limit.ensures)) c.piece_size-z.ensures in
    let i : Indexed c.args.fields c.args.packet.now c.args.k c.format-format.result c.piece_size-z.result c.count_of-count.result =
    record { sized = s; counted = c.count_of-count.ensures; index = omega arith }
    in
    let e = c.number_at.ensures ∙ ap (λ (m : ℕ). c.args.k % m) c.number_range-range.ensures in
    (whole i _ c.flag_at.ensures _ e _ c.bytes_at.ensures c.args.output.now c.write.result c.write.new.output c.write.ensures).1
