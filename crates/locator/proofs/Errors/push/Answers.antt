-- Where there is room both arrays take one cell more, else they are full.
use mathlib.Core.Path.{ap, ◌∙◌}
use native.Mathlib.Omega.{arith}
use Rattle.locator.specs.declared.Errors.{Errors}
use Rattle.locator.proofs.Places.{store_more, store_none, place_more}
use Rattle.locator.proofs.Errors.push.Goals as goal
use Rattle.locator.proofs.Errors.push.Goals.{then-count-lt32, else-count-lt32}

pub returns-clause-pushed : goal.returns-clause-pushed
returns-clause-pushed c = λ E e.
    let f = c.args.self.now in
    elim c.if-count-lt32.branch [
      | then-count-lt32 w ↦ place_more f E c.args.place c.args.point _ _ c.requires.point_value
          (λ F l q. ap (λ (u : Errors). u.places) w.self-is ∙ store_more 32 f.count _ f.places F (omega arith) l q)
          (λ F l q. ap (λ (u : Errors). u.points) w.self-is ∙ store_more 32 f.count _ f.points F (omega arith) l q) e
      | else-count-lt32 w ↦ place_more f E c.args.place c.args.point _ _ c.requires.point_value
          (λ F l q. ap (λ (u : Errors). u.places) w.self-is ∙ store_none 32 f.count _ f.places F (omega arith) l q)
          (λ F l q. ap (λ (u : Errors). u.points) w.self-is ∙ store_none 32 f.count _ f.points F (omega arith) l q) e
    ]
