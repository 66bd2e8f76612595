use Rattle.std.proofs.Common.{rules}
use Rattle.hour_explained.proofs.Counted.{counted_all}
use Rattle.hour_explained.proofs.owners.owners_in.Goals as goal

pub returns : goal.returns
returns c = counted_all _ c.args.holdings.now (search rules)
