use Rattle.shuffle.specs.Turns.{unturn_up, unturn_down}
use Rattle.shuffle.proofs.point.Point.rotate_back.Goals as goal

pub returns-then-self-turned : goal.returns-then-self-turned
returns-then-self-turned c = unturn_up c.args.self.key c.args.self.size c.args.self.number c.args.self.below c.if-self-turned.true

pub returns-else-self-turned : goal.returns-else-self-turned
returns-else-self-turned c = unturn_down c.args.self.key c.args.self.size c.args.self.number c.args.self.below c.if-self-turned.false
