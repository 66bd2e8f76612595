use Rattle.std.proofs.Common.{refl}
use Rattle.units.specs.Rounding.{round_tenths, round_deration}
use Rattle.rows.specs.Ranges.{constraint_ok, point_ok, holding_ok}
use Rattle.payoff.specs.Tables.{sizes_ok, tables_test, servable}
use Rattle.examples.proofs.settled.settled_examples.Goals as goal

pub returns : goal.returns
unfolding round_tenths round_deration constraint_ok point_ok holding_ok sizes_ok tables_test servable
returns c = record { count = refl; hold = (refl, (refl, (refl, (refl, (refl, (refl, (refl, (refl, (refl, (refl, (refl, (refl, tt)))))))))))) }
