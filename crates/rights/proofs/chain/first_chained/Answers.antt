use Rattle.std.proofs.Common.{below_none}
use Rattle.rights.proofs.Tables.{none_chained}
use Rattle.rights.proofs.chain.first_chained.Goals as goal

pub loop-place-init : goal.loop-place-init
loop-place-init c = (below_none _, none_chained c.args.holdings.now)
