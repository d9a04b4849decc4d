-- The two times and the layout's number fill the bytes (Filling).
use Rattle.std.proofs.Common.{arith, [], ◌∷◌, ◌++◌}
use Rattle.words.specs.Words.{word_bytes}
use Rattle.words.proofs.Laws.{four}
use Rattle.copying.proofs.Filling.{filled}
use Rattle.watch_bytes.specs.States.{layout_number, state_bytes}
use Rattle.watch_bytes.proofs.put.Goals as goal

pub returns : goal.returns
unfolding state_bytes word_bytes
returns c =
    let g = c.args in
    rw (c.copy_in-2.ensures.target_after, c.copy_in.ensures.target_after, c.word_bytes.ensures, c.word_bytes-2.ensures)
    (filled g.state.now (word_bytes g.watch.a) (word_bytes g.watch.b ++ (layout_number ∷ [])) 4 (four g.watch.a) (omega arith))
