use Rattle.statement.proofs.digits.+put_long.Given as goal

abbrev pub decreases-put-long : goal.decreases-put-long
decreases-put-long l = l.n
