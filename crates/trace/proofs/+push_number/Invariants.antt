-- `trace::push_number`: the number falls with each call of itself.
use Rattle.trace.proofs.+push_number.Given as goal

abbrev pub decreases-push_number : goal.decreases-push_number
decreases-push_number l = l.n
