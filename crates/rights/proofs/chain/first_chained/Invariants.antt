use Rattle.rights.specs.Rights.{NoneBelow}
use Rattle.rights.specs.Chains.{Chained}
use Rattle.rights.proofs.chain.first_chained.Given as goal

abbrev pub invariant-loop-place : goal.invariant-loop-place
invariant-loop-place l = NoneBelow l.holdings l.place × Chained l.holdings l.chains.heads l.chains.next l.place
