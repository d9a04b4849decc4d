-- `trace::push_columns`: the values before this one are pushed, in four bytes each at most (Texts).
use Rattle.std.proofs.Common.{◌≡◌, ◌+◌, ◌*◌, ◌≤◌, ◌++◌, length, take}
use Rattle.trace.specs.Lines.{fields_text}
use Rattle.trace.proofs.push_columns.Given as goal

abbrev pub invariant-loop-value : goal.invariant-loop-value
invariant-loop-value l =
    (length l.text ≤ length l.initial.text + 4 * l.value-index)
    × (l.text ≡ l.initial.text ++ fields_text (take l.value-index l.value-items))
