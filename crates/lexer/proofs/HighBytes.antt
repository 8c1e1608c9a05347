-- The search for a byte of 128 or more: groups of eight bytes, then one byte further.
use Rattle.std.proofs.Common.{◌≡◌, ℕ, zero, suc, ◌+◌, ◌*◌, ◌<◌, ◌≤◌, Bool, true, false, List, [], ◌∷◌, length, take, drop, length-drop, refl, ap, ◌∙◌, arith}
use Rattle.std.specs.Prelude.{cond, not, ◌||◌, leb, position, option_map, unwrap_or, Option, Some, None, IfSome}
use Rattle.std.specs.List.{list_any, prefix_len}
use Rattle.std.specs.Simd.{first_chunks}
use Rattle.std.proofs.Math.Nat.{zero-add}
use lib.Seq.{drop-drop}
use Rattle.definitions.specs.Text.{found_at, high_byte}
use Rattle.lexer.specs.Found.{offset_of}
use Rattle.lexer.proofs.Search.{position_cons}

abbrev pub high : ℕ → Bool
high = leb 128

-- n bytes are passed
past_low : (n i : ℕ) (s : List ℕ) → list_any high (take n s) ≡ false → n ≤ length s → high_byte i s ≡ high_byte (i + n) (drop n s)
unfolding high_byte
past_low zero i s e h = let z : i + 0 ≡ i = omega arith in rw z
past_low (suc n) i [] e h = absurd (omega (arith, h))
past_low (suc n) i (b ∷ s) e h = go (high b) e (λ f. past_low n (suc i) s f (omega (arith, h)))
  where
    go : (t : Bool) → (t || list_any high (take n s)) ≡ false
        → (list_any high (take n s) ≡ false → high_byte (suc i) s ≡ high_byte (suc i + n) (drop n s))
        → cond t (found_at i) (high_byte (suc i) s) ≡ high_byte (i + suc n) (drop n s)
    go true e f = cc
    go false e f = let z : i + suc n ≡ suc i + n = omega arith in rw z (f e)

abbrev pub low_groups : ℕ → List ℕ → ℕ
low_groups groups s = prefix_len (λ g. not (list_any high g)) (first_chunks 8 groups s)

-- the groups of eight before the first with such a byte are passed
groups_from : (groups i : ℕ) (s : List ℕ) → groups * 8 ≤ length s
    → high_byte i s ≡ high_byte (i + 8 * low_groups groups s) (drop (8 * low_groups groups s) s)
groups_from zero i s h = let z : i + 0 ≡ i = omega arith in rw z
groups_from (suc groups) i s h =
    go (list_any high (take 8 s)) refl (groups_from groups (i + 8) (drop 8 s) (omega (arith, h, length-drop 8 s)))
  where
    n : ℕ
    n = low_groups groups (drop 8 s)

    go : (t : Bool) → list_any high (take 8 s) ≡ t → high_byte (i + 8) (drop 8 s) ≡ high_byte (i + 8 + 8 * n) (drop (8 * n) (drop 8 s))
        → high_byte i s ≡ high_byte (i + 8 * cond (not t) (1 + n) 0) (drop (8 * cond (not t) (1 + n) 0) s)
    go true e f = let z : i + 0 ≡ i = omega arith in rw z
    go false e f =
        let z : i + 8 * (1 + n) ≡ i + 8 + 8 * n = omega arith in
        let w : 8 * (1 + n) ≡ 8 + 8 * n = omega arith in
        rw (z, w, ← drop-drop (8 * n) 8 s) (past_low 8 i s e (omega (arith, h)) ∙ f)

pub past_groups : (groups : ℕ) (s : List ℕ) → groups * 8 ≤ length s → high_byte 0 s ≡ high_byte (8 * low_groups groups s) (drop (8 * low_groups groups s) s)
past_groups groups s h =
    let n = 8 * low_groups groups s in
    groups_from groups 0 s h ∙ ap (λ (i : ℕ). high_byte i (drop n s)) (zero-add n)

pub unwrapped : (r : Option ℕ) (n : ℕ) → IfSome r (λ i. i < n) → unwrap_or r n ≤ n
unwrapped None n h = omega arith
unwrapped (Some i) n h = omega (arith, h)

further : (i : ℕ) (r : Option ℕ) → option_map (λ n. i + n) (option_map (λ n. n + 1) r) ≡ option_map (λ n. suc i + n) r
further i None = refl
further i (Some n) = let z : i + (n + 1) ≡ suc i + n = omega arith in rw z

pub high_found : (i : ℕ) (s : List ℕ) → offset_of (option_map (λ n. i + n) (position high s)) ≡ high_byte i s
unfolding high_byte
high_found i [] = refl
high_found i (b ∷ s) = rw (position_cons high b s) (go (high b) (high_found (suc i) s))
  where
    go : (t : Bool) → offset_of (option_map (λ n. suc i + n) (position high s)) ≡ high_byte (suc i) s
        → offset_of (option_map (λ n. i + n) (cond t (Some 0) (option_map (λ n. n + 1) (position high s)))) ≡ cond t (found_at i) (high_byte (suc i) s)
    go true h = let z : i + 0 ≡ i = omega arith in rw z
    go false h = rw (further i (position high s)) h
