use Rattle.std.proofs.Common.{arith}
use Rattle.rights.specs.Chains.{bucket_of}
use Rattle.rights.proofs.right.bucket_of.Goals as goal

pub returns : goal.returns
unfolding bucket_of
returns c = record { value = cc; small = omega arith }
