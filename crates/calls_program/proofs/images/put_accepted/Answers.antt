-- The bytes were lent to the call from the output's start on.
use Rattle.std.proofs.Common.{◌≡◌, length, sym, ap, ◌∙◌, le-ltb}
use Rattle.copying.specs.Copy.{written}
use Rattle.calls_program.specs.Responses.{responds}
use Rattle.calls_program.proofs.Parts.{head_size, head_written}
use Rattle.calls_program.proofs.images.put_accepted.Goals as goal

pub returns : goal.returns
returns g c = λ test is.
    let n = c.args.n in
    let out = c.args.out.now in
    let s = head_size out n c.if-n-out.false in
    let e = rw (sym s) at (c.accepted.ensures test is) in
    let m : length c.accepted.new.bytes ≡ n = c.accepted.auto.bytes ∙ sym s in
    rw (le-ltb _ _ c.if-n-out.false) (ap (responds n) (head_written out c.accepted.new.bytes n m ∙ ap (written out 0) e))
