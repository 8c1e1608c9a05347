-- Sets of numbers below 64 as words: what is in a word after a number is put in, and how many digits are then set.
use Prim.Native.Nat.{ℕ, zero, suc, ◌+◌, ◌-◌, ◌*◌, ◌/◌, ◌%◌, ◌^◌, ◌≤◌, ◌<◌}
use native.Mathlib.Nat.{mod-eq_of_lt, div-eq_of_lt, one-mul, pow-suc}
use native.Mathlib.Omega.{arith}
use mathlib.Core.Path.{◌≡◌, refl, sym, ap, ap₂, subst, ◌∙◌}
use mathlib.Core.Bool.{Bool, true, false}
use lib.Dec.{ltb, eqb}
use lib.Bits.{bit_or, or_zero_r, or_lt, or_shr, or_mod}
use lib.Pow.{pow_pos, pow-lt, pow-add, shl-shr}
use lib.Count.{ones, ones_step}
use borrow.Author.Tests.{eqb-false, ltb-true, ltb-false}
use Rattle.basics.specs.WordSet.{WORD_BITS, digit_of, in_word, put_in_word}

-- ---------------------------------------------------------------- the digits of a power, and of two numbers joined

-- digit m of x
abbrev digit : ℕ → ℕ → ℕ
digit m x = x / 2 ^ m % 2

own_digit : (n : ℕ) → digit n (2 ^ n) ≡ 1
own_digit n = ap (λ (x : ℕ). x / 2 ^ n % 2) (sym (one-mul (2 ^ n))) ∙ ap (◌% 2) (shl-shr 1 n)

higher_digit : (n m : ℕ) → n < m → digit m (2 ^ n) ≡ 0
higher_digit n m h = ap (◌% 2) (div-eq_of_lt (pow-lt h))

lower_digit : (n d m : ℕ) → n ≡ suc d + m → digit m (2 ^ n) ≡ 0
lower_digit n d m e =
    ap (λ (x : ℕ). 2 ^ x / 2 ^ m % 2) e ∙ ap (λ (x : ℕ). x / 2 ^ m % 2) (pow-add 2 (suc d) m) ∙ ap (◌% 2) (shl-shr (2 ^ suc d) m)
    ∙ ap (◌% 2) (pow-suc 2 d) ∙ (let x = 2 ^ d in let e : x * 2 % 2 ≡ 0 = omega arith in e)

other_digit : (n m : ℕ) → eqb m n ≡ false → digit m (2 ^ n) ≡ 0
other_digit n m e = by_order (ltb n m) refl
  where
    by_order : (b : Bool) → ltb n m ≡ b → digit m (2 ^ n) ≡ 0
    by_order true l = higher_digit n m (ltb-true n m l)
    by_order false l = lower_digit n (n - m - 1) m (let h : m ≤ n = ltb-false n m l in omega (arith, eqb-false m n e))

join_digit : (m x y : ℕ) → digit m (bit_or x y) ≡ bit_or (digit m x) (digit m y)
join_digit m x y = ap (◌% 2) (or_shr x y m) ∙ or_mod (x / 2 ^ m) (y / 2 ^ m) 1

set_digit : (d : ℕ) → d < 2 → bit_or d 1 ≡ 1
set_digit zero h = refl
set_digit (suc zero) h = refl
set_digit (suc (suc d)) h = absurd (let k : suc (suc d) < 2 = h in omega arith)

-- ---------------------------------------------------------------- what is in a word

own : (n : ℕ) → n < WORD_BITS → digit_of n ≡ 2 ^ n
own n h = ap (λ (x : ℕ). 2 ^ x) (mod-eq_of_lt h)

put_is : (n x : ℕ) → n < WORD_BITS → put_in_word n x ≡ bit_or x (2 ^ n)
unfolding put_in_word
put_is n x h = ap (bit_or x) (own n h)

in_is : (n x : ℕ) → n < WORD_BITS → in_word n x ≡ eqb (digit n x) 1
unfolding in_word
in_is n x h = ap (λ (y : ℕ). eqb (x / y % 2) 1) (own n h)

pub in_put : (n x : ℕ) → n < WORD_BITS → in_word n (put_in_word n x) ≡ true
in_put n x h =
    in_is n (put_in_word n x) h
    ∙ ap (λ (y : ℕ). eqb (digit n y) 1) (put_is n x h)
    ∙ ap (λ (y : ℕ). eqb y 1) (join_digit n x (2 ^ n) ∙ ap (bit_or (digit n x)) (own_digit n) ∙ set_digit (digit n x) (let y = x / 2 ^ n in let l : y % 2 < 2 = omega arith in l))

pub in_put_other : (m n x : ℕ) → m < WORD_BITS → n < WORD_BITS → eqb m n ≡ false → in_word m (put_in_word n x) ≡ in_word m x
in_put_other m n x k h e =
    in_is m (put_in_word n x) k
    ∙ ap (λ (y : ℕ). eqb (digit m y) 1) (put_is n x h)
    ∙ ap (λ (y : ℕ). eqb y 1) (join_digit m x (2 ^ n) ∙ ap (bit_or (digit m x)) (other_digit n m e) ∙ or_zero_r (digit m x))
    ∙ sym (in_is m x k)

pub in_nothing : (n : ℕ) → n < WORD_BITS → in_word n 0 ≡ false
in_nothing n h = in_is n 0 h ∙ ap (λ (y : ℕ). eqb (y % 2) 1) (div-eq_of_lt (pow_pos n))

-- ---------------------------------------------------------------- how many

-- a number below k put into a word of k digits
pub put_below : (k n x : ℕ) → n < k → k ≤ WORD_BITS → x < 2 ^ k → put_in_word n x < 2 ^ k
put_below k n x h l b = subst (λ (y : ℕ). y < 2 ^ k) (sym (put_is n x (omega arith))) (or_lt k x (2 ^ n) b (pow-lt h))

-- one digit more is set
join_counts : (n x : ℕ) → digit n x ≡ 0 → ones (bit_or x (2 ^ n)) ≡ suc (ones x)
join_counts zero x e =
    ones_step (bit_or x 1)
    ∙ ap₂ (λ (a b : ℕ). a + ones b) (or_mod x 1 1 ∙ ap (λ (d : ℕ). bit_or d 1) low) (or_shr x 1 1 ∙ or_zero_r (x / 2))
    ∙ (let k = ones (x / 2) in let s : ones x ≡ x % 2 + k = ones_step x in let e : 1 + k ≡ suc (ones x) = omega (arith, low, s) in e)
  where
    low : x % 2 ≡ 0
    low = sym (ap (◌% 2) (native.Mathlib.Nat.div-one x)) ∙ e
join_counts (suc n) x e =
    ones_step (bit_or x (2 ^ suc n))
    ∙ ap₂ (λ (a b : ℕ). a + ones b) (or_mod x (2 ^ suc n) 1 ∙ ap (bit_or (x % 2)) even ∙ or_zero_r (x % 2)) (or_shr x (2 ^ suc n) 1 ∙ ap (bit_or (x / 2)) half)
    ∙ ap (λ (c : ℕ). x % 2 + c) (join_counts n (x / 2) e')
    ∙ native.Mathlib.Nat.add-suc (x % 2) (ones (x / 2))
    ∙ ap suc (sym (ones_step x))
  where
    even : 2 ^ suc n % 2 ≡ 0
    even = ap (◌% 2) (pow-suc 2 n) ∙ (let y = 2 ^ n in let l : y * 2 % 2 ≡ 0 = omega arith in l)

    half : 2 ^ suc n / 2 ≡ 2 ^ n
    half = ap (◌/ 2) (pow-suc 2 n) ∙ (let y = 2 ^ n in let l : y * 2 / 2 ≡ y = omega arith in l)

    e' : digit n (x / 2) ≡ 0
    e' = ap (◌% 2) (lib.Pow.shr-shr x 1 n) ∙ ap (λ (k : ℕ). x / 2 ^ k % 2) (native.Mathlib.Numerals.one-add n) ∙ e

pub put_counts : (n x : ℕ) → n < WORD_BITS → in_word n x ≡ false → ones (put_in_word n x) ≡ suc (ones x)
put_counts n x h e = ap ones (put_is n x h) ∙ join_counts n x unset
  where
    unset : digit n x ≡ 0
    unset = let y = x / 2 ^ n in let l : y % 2 < 2 = omega arith in omega (arith, l, eqb-false (digit n x) 1 (sym (in_is n x h) ∙ e))
