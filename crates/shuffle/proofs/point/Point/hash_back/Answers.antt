use Rattle.std.proofs.Common.{◌≡◌, sym, ◌∙◌, arith}
use Rattle.shuffle.specs.Hash.{mask}
use Rattle.shuffle.specs.Inverses.{unround}
use Rattle.shuffle.specs.Turns.{unturn, turn_perm, unturn_is}
use Rattle.shuffle.specs.Perms.{preimage_is}
use Rattle.shuffle.specs.Walks.{arrived, goes_on, falls}
use Rattle.shuffle.specs.Hashes.{turned_under, unround_is, unround_le, back_going, hash_perm}
use Rattle.shuffle.proofs.point.Point.hash_back.Goals as goal

pub unround-x-requires : goal.unround-x-requires
unround-x-requires c =
    let p = c.args.self in
    omega (arith, c.rotate_back.ensures, unturn_is p.key p.size p.number p.below, turned_under p.key p.size p.keyed (omega arith) p.few p.number p.below)

pub loop-x-init : goal.loop-x-init
loop-x-init c =
    let p = c.args.self in
    let i = unturn p.key p.size p.number in
    let le = turned_under p.key p.size p.keyed (omega arith) p.few p.number p.below in
    let turned = unturn_is p.key p.size p.number p.below in
    let u = unround_is p.key p.size p.keyed (omega arith) p.few i le in
    let e : c.unround-x.result ≡ unround (mask p.size) p.key i = cc in
    rw e record {
      under = unround_le p.key p.size p.keyed (omega arith) p.few i le;
      going = back_going p.key p.size p.keyed (omega arith) p.few i ((turn_perm p.key p.size).g_lt p.number p.below);
    }

-- the next number is one inverse round on
next : (c : goal.After-unround-x-in-loop-x) → c.unround-x-in-loop-x.result ≡ unround (mask c.args.self.size) c.args.self.key c.loop-x.x
next c =
    let p = c.args.self in
    let u = unround_is p.key p.size p.keyed (omega arith) p.few c.loop-x.x c.loop-x.invariant.under in
    cc

pub loop-x-smaller : goal.loop-x-smaller
loop-x-smaller c = rw (next c) (falls 65536 c.loop-x.invariant.going.1 c.loop-x.invariant.going.2 c.loop-x-test.true)

pub loop-x-preserved : goal.loop-x-preserved
loop-x-preserved c =
    let p = c.args.self in
    rw (next c) record {
      under = unround_le p.key p.size p.keyed (omega arith) p.few c.loop-x.x c.loop-x.invariant.under;
      going = goes_on 65536 c.loop-x.invariant.going.1 c.loop-x.invariant.going.2 c.loop-x-test.true;
    }

pub returns : goal.returns
returns c =
    let p = c.args.self in
    arrived c.loop-x.invariant.going.2 c.loop-x-test.false
    ∙ sym (preimage_is (hash_perm p.key p.size p.keyed (omega arith) p.few) p.number p.below)
