use Rattle.rights.proofs.Walks.{ChainWalk}
use Rattle.rights.proofs.chain.Chains.has_right_at.Given as goal

abbrev pub invariant-loop-link : goal.invariant-loop-link
invariant-loop-link l = ChainWalk l.holdings l.place l.link

abbrev pub decreases-loop-link : goal.decreases-loop-link
decreases-loop-link l = l.link
