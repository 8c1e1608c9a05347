-- A buffer cleared from a number on.
use Prim.Native.Nat.{ℕ, suc, ◌+◌, ◌-◌, ◌≤◌, ◌<◌}
use native.Mathlib.Numerals.{add-one}
use native.Mathlib.Omega.{arith}
use mathlib.Core.Path.{◌≡◌, sym, ap, ◌∙◌}
use mathlib.Core.List.{List, [], ◌∷◌, ◌++◌, append_assoc, append-nil}
use lib.ListN.{length, take, drop, set, replicate, length-append, length-drop, length-set}
use lib.Seq.{take_at, take_all, take-suc-set}
use Rattle.definitions.specs.Call.{zeros, written}
use Rattle.machine.specs.Machine.{Buffer}
use Rattle.machine.specs.Outcome.{onto, StartsWith}
use Rattle.refinement.specs.Ends.{wiped}

-- from the start on: all zero
pub wiped_whole : (b c : List ℕ) → length c ≡ length b → wiped 0 c ≡ zeros b
unfolding wiped
wiped_whole b c h =
    let e : length c - 0 ≡ length b = omega arith in
    ap (λ (n : ℕ). replicate n 0) e

-- after the numbers l that it starts with
pub wiped_written : (l b c : List ℕ) (n : ℕ) → length c ≡ length b → n ≡ length l → take n c ≡ l → wiped n c ≡ written l b
unfolding wiped
wiped_written l b c n k e t =
    let d : length c - n ≡ length b - length l = omega arith in
    rw (t, d)

-- numbers written to the front stand there
pub onto_front : (l b c : List ℕ) (n : ℕ) → c ≡ onto l b → n ≡ length l → take n c ≡ l
onto_front l b c n h e = ap (take n) h ∙ take_at l (drop (length l) b) n (sym e)

pub held_front : (l b : List ℕ) (x : Buffer) → StartsWith l b x → take x.count x.numbers ≡ l
held_front l b x h = onto_front l b x.numbers x.count h.numbers h.count

-- and leave the length as it is
pub held_length : (l b : List ℕ) (x : Buffer) → StartsWith l b x → length x.numbers ≡ length b
held_length l b x h =
    let k : length x.numbers ≡ length l + length (drop (length l) b) = ap length h.numbers ∙ length-append l (drop (length l) b) in
    omega (arith, k, h.inside, length-drop (length l) b)

-- ---------------------------------------------------------------- one number after the other

-- a zero stored at the place from which on all is zero
pub wiped_step : (l : List ℕ) (i : ℕ) → i < length l → wiped (i + 1) (set l i 0) ≡ wiped i l
unfolding wiped
wiped_step l i h =
    let n : length (set l i 0) - (i + 1) ≡ length l - suc i = omega (arith, length-set l i 0) in
    let m : length l - i ≡ suc (length l - suc i) = omega arith in
    let t : take (i + 1) (set l i 0) ≡ take i l ++ (0 ∷ []) = ap (λ (k : ℕ). take k (set l i 0)) (add-one i) ∙ take-suc-set l i 0 h in
    rw (n, m, t) (append_assoc (take i l) (0 ∷ []) (replicate (length l - suc i) 0))

-- after its last number
pub wiped_past : (l : List ℕ) (i : ℕ) → length l ≤ i → wiped i l ≡ l
unfolding wiped
wiped_past l i h =
    let n : length l - i ≡ 0 = omega arith in
    rw (n, take_all i l h) (append-nil l)
