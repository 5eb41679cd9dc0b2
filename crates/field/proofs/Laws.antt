-- The statements of specs/Laws.antt, from the laws of the sum, the product and the powers.
-- Assumes nothing.
use mathlib.Core.Path.{sym}
use Rattle.field.specs.Laws.{FieldLaws, AlphaLaws}
use Rattle.field.proofs.Sum.{add_comm, add_assoc, add_zero_l, add_self, add-lt}
use Rattle.field.proofs.Product.{mul_comm, mul_assoc, mul-add, one-mul, mul-two, mul-lt}
use Rattle.field.proofs.Power.{mul-inverse, inverse_zero, inverse-lt, mul-ne-zero, mul_cancel, alpha-255, alpha_inj, power-lt, alpha-ne-zero, alpha_bits, alpha_root}

pub field_laws : FieldLaws
field_laws = record {
  sum_commutes = add_comm;
  sum_associates = add_assoc;
  sum_zero = add_zero_l;
  sum_self = add_self;
  sum_byte = add-lt;
  product_commutes = mul_comm;
  product_associates = mul_assoc;
  product_distributes = mul-add;
  product_one = one-mul;
  product_byte = mul-lt;
  product_inverse = mul-inverse;
  inverse_zero = inverse_zero;
  inverse_byte = inverse-lt;
  product_nonzero = mul-ne-zero;
  product_cancels = mul_cancel;
}

pub alpha_laws : AlphaLaws
alpha_laws = record {
  order = alpha-255;
  distinct = alpha_inj;
  byte = power-lt 2;
  nonzero = alpha-ne-zero;
  bits = alpha_bits;
  root = alpha_root;
  doubles = λ a h. sym (mul-two a h);
}
