use Rattle.std.proofs.Common.{◌≡◌, arith}
use Rattle.shuffle.specs.Round.{round}
use Rattle.shuffle.specs.Hash.{mask, hash}
use Rattle.shuffle.specs.Walks.{arrived, falls}
use Rattle.shuffle.specs.Hashes.{out_going, hash_stands}
use Rattle.shuffle.proofs.point.Point.hashed.Goals as goal

pub loop-x-init : goal.loop-x-init
loop-x-init c =
    let p = c.args.self in
    let e : c.round-x.result ≡ round (mask p.size) p.key p.number = cc in
    rw e (out_going p.key p.size p.keyed (omega arith) p.few p.number p.below)

pub loop-x-smaller : goal.loop-x-smaller
loop-x-smaller c =
    let e : c.round-x-in-loop-x.result ≡ round (mask c.args.self.size) c.args.self.key c.loop-x.x = cc in
    rw e (falls 65536 c.loop-x.invariant.1 c.loop-x.invariant.2 c.loop-x-test.true)

pub returns : goal.returns
returns c =
    let p = c.args.self in
    let arrives = arrived c.loop-x.invariant.2 c.loop-x-test.false in
    let e : c.rotate.result ≡ hash p.key p.size p.number = cc in
    record { value = e; hashed = rw e (hash_stands p.key p.size p.number p.keyed p.few p.below) }
