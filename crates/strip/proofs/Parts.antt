-- What holds of the parts of a strip's labels holds of the strip. Assumes nothing.
use Rattle.std.proofs.Common.{◌≡◌, subst}
use Rattle.plan.specs.declared.shape.Plan.{Plan}

pub by_parts : {A B : Type 0} (Q : Plan → A → B → Type 0) (P p : Plan) (R r : A) (S s : B) → (p ≡ P) × (r ≡ R) × (s ≡ S) → Q p r s → Q P R S
by_parts Q P p R r S s is h = subst (λ z. Q P R z) is.2 (subst (λ z. Q P z s) is.1 (subst (λ z. Q z r s) is.0 h))
