use Rattle.statement.proofs.Table.{pair_right}
use Rattle.statement.proofs.digits.pair.Goals as goal

pub returns : goal.returns
returns c = pair_right c.args.n c.requires
