-- Three doublings and eleven sums: each number below 16 is a sum of powers of two.
use Rattle.register.proofs.Multiples.{rows_law}
use Rattle.register.proofs.rows.Goals as goal

pub returns : goal.returns
returns c = λ d. rows_law d _ _ _ _ _ _ _ _ _ _ _ _ _ _ _ _ c.blank.ensures
    c.twice-x2.ensures
    c.twice-x4.ensures
    c.twice-x8.ensures
    c.add-x3.ensures
    c.add-x5.ensures
    c.add-x6.ensures
    c.add-x7.ensures
    c.add-x9.ensures
    c.add-x10.ensures
    c.add-x11.ensures
    c.add-x12.ensures
    c.add-x13.ensures
    c.add-x14.ensures
    c.add-x15.ensures
