-- The bytes of a number, put together again.
-- Assumes nothing.
use Rattle.std.proofs.Common.{◌≡◌, ℕ, ◌+◌, ◌*◌, ◌/◌, ◌%◌, ◌^◌, ◌<◌, arith}
use native.Mathlib.Nat.{div-div-eq-div-mul, mod-add-div}

pub u16_bytes_lem : (n : ℕ) → n < 2 ^ 16 → n % 256 + 256 * (n / 256 % 256) ≡ n
u16_bytes_lem n h =
    let top : n / 256 % 256 ≡ n / 256 = omega arith in
    rw top (mod-add-div n 256)

horner : (n a b c d p q : ℕ) → a + 256 * p ≡ n → b + 256 * q ≡ p → c + 256 * d ≡ q
    → a + 256 * b + 65536 * c + 16777216 * d ≡ n
horner n a b c d p q e₁ e₂ e₃ = omega arith

pub u32_bytes_lem : (n : ℕ) → n < 2 ^ 32
    → n % 256 + 256 * (n / 256 % 256) + 65536 * (n / 65536 % 256) + 16777216 * (n / 16777216 % 256) ≡ n
u32_bytes_lem n h =
    let top : n / 16777216 % 256 ≡ n / 16777216 = omega arith in
    let second : n / 256 % 256 + 256 * (n / 65536) ≡ n / 256 =
    rw (← div-div-eq-div-mul n 256 256) (mod-add-div (n / 256) 256) in
    let third : n / 65536 % 256 + 256 * (n / 16777216) ≡ n / 65536 =
    rw (← div-div-eq-div-mul n 65536 256) (mod-add-div (n / 65536) 256) in
    rw top
    (horner n (n % 256) (n / 256 % 256) (n / 65536 % 256) (n / 16777216) (n / 256) (n / 65536)
    (mod-add-div n 256) second third)
