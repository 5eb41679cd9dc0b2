-- The field of document 01: "GF(256) with x^8+x^4+x^3+x^2+1 (hexadecimal 11D), α = 2. Sums are bitwise exclusive or." (F1, F2)
-- An element is a byte, a number below 256; the bit of value 2^i is the coefficient of x^i. There is no table of powers or of
-- logarithms, so no logarithm of zero is ever looked up (F3). What product and inverse are, apart from the way they are computed here, is in
-- Polynomial.antt and Operation.antt.
-- Assumes nothing.
use Rattle.std.specs.Prelude.{ℕ, zero, suc, ◌*◌, ◌/◌, ◌%◌}
use Rattle.std.specs.Int.Bits.{bit_xor}

-- the sum: exclusive or, bit by bit
unfoldable pub add : ℕ → ℕ → ℕ
add a b = bit_xor a b

-- v if the bit is set, else 0
abbrev pub gate : ℕ → ℕ → ℕ
gate zero v = 0
gate (suc n) v = v

-- times x: every bit goes up by one, and hexadecimal 11D is added if a bit reaches x^8
unfoldable pub double : ℕ → ℕ
double b = add (2 * (b % 256)) (gate (b / 128 % 2) 285)

-- the product of the k low bits of a with b: a = a₀ + x · a', so a · b = a₀ · b + x · (a' · b)
unfoldable pub mul_bits : ℕ → ℕ → ℕ → ℕ
mul_bits zero a b = 0
mul_bits (suc k) a b = add (gate (a % 2) b) (double (mul_bits k (a / 2) b))

-- the product of two bytes; of any two numbers it takes the low eight bits, so that the ring laws hold without a condition
unfoldable pub mul : ℕ → ℕ → ℕ
mul a b = mul_bits 8 (a % 256) (b % 256)

-- a^n
unfoldable pub power : ℕ → ℕ → ℕ
power a zero = 1
power a (suc n) = mul a (power a n)

-- α^i, with α = 2
abbrev pub alpha : ℕ → ℕ
alpha i = power 2 i

-- the product of the first k of a^2, a^4, a^8, ..
unfoldable pub squares : ℕ → ℕ → ℕ
squares zero a = 1
squares (suc k) a = mul (mul a a) (squares k (mul a a))

-- the inverse: a^254 = a^2 · a^4 · .. · a^128; that of 0 is 0
unfoldable pub inverse : ℕ → ℕ
inverse a = squares 7 a
