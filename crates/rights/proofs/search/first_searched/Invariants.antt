use Rattle.rights.specs.Rights.{NoneBelow}
use Rattle.rights.proofs.search.first_searched.Given as goal

abbrev pub invariant-loop-place : goal.invariant-loop-place
invariant-loop-place l = NoneBelow l.holdings l.place
