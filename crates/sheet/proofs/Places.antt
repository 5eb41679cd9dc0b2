-- Where the cells of a block and the bytes of a message stand. Place i D + d with d < D has quotient i and remainder d by D, and lies
-- within D × n cells where i < n.
use mathlib.Core.Path.{◌≡◌, sym, ◌∙◌}
use Prim.Native.Nat.{ℕ, zero, suc, ◌+◌, ◌*◌, ◌/◌, ◌%◌, ◌<◌, ◌≤◌}
use native.Mathlib.Nat.{suc-mul, add-mul, mul_comm, mul-le-mul_right, mul-add-div_right, mul-add-mod_self_right, div-eq_of_lt, mod-eq_of_lt, div-lt_iff_lt-mul, mod-lt, div-add-mod', zero-mul}
use native.Mathlib.Omega.{arith}

-- cell i of block d lies within the sheet
pub cell_inside : (D n i d : ℕ) → d < D → i < n → i * D + d < D * n
cell_inside D n i d h g = omega (arith, mul-le-mul_right D g, suc-mul i D, mul_comm n D)

-- the k bytes from d k on lie within D × k
pub part_inside : (D k d : ℕ) → d < D → d * k + k ≤ D * k
part_inside D k d h = omega (arith, mul-le-mul_right k h, suc-mul d k)

-- the D × k message cells follow the r × D check cells
pub checks_below : (D n r k : ℕ) → r + k ≡ n → r * D + D * k ≡ D * n
checks_below D n r k e = rw (sym e) (omega (arith, mul_comm (r + k) D, mul_comm k D, add-mul r k D))

module _ (D i d : ℕ) (h : d < D) where
  pub quotient_of : (i * D + d) / D ≡ i
  quotient_of =
      let z : 0 < D = omega arith in
      mul-add-div_right z i d ∙ rw (div-eq_of_lt h) (omega arith)

  pub remainder_of : (i * D + d) % D ≡ d
  remainder_of = mul-add-mod_self_right i D d ∙ mod-eq_of_lt h

-- every place within D × n cells has its block below D and its cell below n
module _ (D n p : ℕ) (h : p < D * n) where
  pub some : 0 < D
  some = positive D h
    where
      positive : (D : ℕ) → p < D * n → 0 < D
      positive zero l = omega (arith, zero-mul n)
      positive (suc D) l = omega arith

  pub remainder_below : p % D < D
  remainder_below = mod-lt p some

  pub quotient_below : p / D < n
  quotient_below = (div-lt_iff_lt-mul some).1 (rw mul_comm at h)

  pub place_is : p / D * D + p % D ≡ p
  place_is = div-add-mod' p D
