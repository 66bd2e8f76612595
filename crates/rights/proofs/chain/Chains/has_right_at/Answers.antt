use Rattle.std.proofs.Common.{◌≡◌, suc, ◌-◌, ◌<◌, sym, arith}
use Rattle.rights.specs.Chains.{bucket_at}
use Rattle.rights.proofs.Buckets.{last_within}
use Rattle.rights.proofs.Walks.{walk_start, walk_on, to_last}
use Rattle.rights.proofs.chain.Chains.has_right_at.Goals as goal

pub loop-link-init : goal.loop-link-init
loop-link-init c =
    let hs = c.args.holdings.now in
    let place = c.args.place in
    to_last hs place c.requires.inside.0 c.args.bucket place _ (walk_start hs place c.requires.inside.0) c.requires.own.0 (c.requires.chained.begins c.args.bucket c.requires.own.1)

pub loop-link-smaller : goal.loop-link-smaller
loop-link-smaller c =
    let hs = c.args.holdings.now in
    let k = c.loop-link.link - 1 in
    let before : k < c.args.place = omega (arith, c.loop-link.invariant.walk.within) in
    omega (arith, c.requires.chained.leads k before, last_within hs (bucket_at hs k) k)

pub loop-link-preserved : goal.loop-link-preserved
loop-link-preserved c =
    let hs = c.args.holdings.now in
    let place = c.args.place in
    let k = c.loop-link.link - 1 in
    let is : c.loop-link.link ≡ suc k = omega arith in
    let before : k < place = omega (arith, c.loop-link.invariant.walk.within) in
    to_last hs place c.requires.inside.0 (bucket_at hs k) k _ (walk_on hs place c.requires.inside.0 c.loop-link.link k is c.loop-link.invariant.walk (sym c.if-is_same_right.ensures)) (c.loop-link.invariant.there k is) (c.requires.chained.leads k before)
