use Rattle.payoff.specs.View.{tables_of}
use Rattle.payoff.specs.Passed.{passed}
use Rattle.payoff.proofs.tested.TestedTables.pair.Goals as goal

pub typed_point-requires : goal.typed_point-requires
typed_point-requires c = (passed (tables_of c.args.self.now) c.args.self.now.passed).point _ c.if-source-self.false

pub typed_point-requires-2 : goal.typed_point-requires-2
typed_point-requires-2 c = (passed (tables_of c.args.self.now) c.args.self.now.passed).point _ c.if-sink-self.false
