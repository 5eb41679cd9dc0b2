-- `profile::Profile::in_range` meets its contract: each refusal names a number that is out of its range, and past all of them each is in it.
use native.Mathlib.Omega.{arith}
use mathlib.Core.Path.{sym}
use Rattle.profile.proofs.Ranges.{in_range_lem, out_of_range}
use Rattle.profile.proofs.Profile.in_range.Goals as goal

pub returns-then-n-lt3 : goal.returns-then-n-lt3
returns-then-n-lt3 c = out_of_range _ (λ v. omega (arith, c.if-n-lt3.true))

pub returns-then-n-gt255 : goal.returns-then-n-gt255
returns-then-n-gt255 c = out_of_range _ (λ v. omega (arith, c.if-n-gt255.true))

pub returns-then-r-lt2 : goal.returns-then-r-lt2
returns-then-r-lt2 c = out_of_range _ (λ v. omega (arith, c.if-r-lt2.true))

pub returns-then-r-gt64 : goal.returns-then-r-gt64
returns-then-r-gt64 c = out_of_range _ (λ v. omega (arith, c.if-r-gt64.true))

pub returns-then-n-r : goal.returns-then-n-r
returns-then-n-r c = out_of_range _ (λ v. omega (arith, c.if-n-r.true))

pub returns-then-self-gt254 : goal.returns-then-self-gt254
returns-then-self-gt254 c = out_of_range _ (λ v. omega (arith, c.if-self-gt254.true))

pub returns-then-r-self : goal.returns-then-r-self
returns-then-r-self c = out_of_range _ (λ v. omega (arith, c.if-r-self.true))

pub returns-then-depth-lt1 : goal.returns-then-depth-lt1
returns-then-depth-lt1 c = out_of_range _ (λ v. omega (arith, c.if-depth-lt1.true))

pub returns-then-depth-gt16 : goal.returns-then-depth-gt16
returns-then-depth-gt16 c = out_of_range _ (λ v. omega (arith, c.if-depth-gt16.true))

pub returns : goal.returns
returns c =
    sym ((in_range_lem _).1 (record {
      n_least = omega arith;
      n_most = omega arith;
      r_least = omega arith;
      r_most = omega arith;
      r_below = omega arith;
      b_most = omega arith;
      limit_below = omega arith;
      depth_least = omega arith;
      depth_most = omega arith;
    }))
