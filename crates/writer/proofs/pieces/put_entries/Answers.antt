use Rattle.std.proofs.Common.{subst}
use Rattle.std.proofs.ByRecursion.{All-more}
use Rattle.writer.proofs.Runs.{next_room, next_put}
use Rattle.writer.proofs.pieces.put_entries.Goals as goal

pub put_bytes-requires : goal.put_bytes-requires
put_bytes-requires g c = next_room g.R.Encoded.bytes c.args.rows.now c.loop-row.row-index c.row-item.result c.loop-row-test.true c.row-item.is c.args.out.now c.loop-row.out c.loop-row.invariant.0 c.requires

pub loop-row-preserved : goal.loop-row-preserved
loop-row-preserved g c = (
  next_put g.R.Encoded.bytes c.args.rows.now c.loop-row.row-index c.row-item.result c.loop-row-test.true c.row-item.is c.args.out.now c.loop-row.out c.loop-row.invariant.0 c.put_bytes.new.out c.put_bytes.ensures.wrote,
  All-more g.R.Encoded.fits c.args.rows.now c.loop-row.row-index c.row-item.result c.loop-row-test.true c.loop-row.invariant.1 (subst g.R.Encoded.fits c.row-item.is c.put_bytes.ensures.fits),
)
