-- Laws of plain lists that the proofs share: stores one after the other, and the codes that a report names.
use Rattle.std.proofs.Common.{ℕ, ◌+◌, ◌≤◌, ◌<◌, ◌≡◌, refl, sym, ◌∙◌, ap, List, [], ◌∷◌, ◌++◌, length, get_or, take, arith}
use Prim.Native.Nat.{suc}
use Rattle.std.specs.Prelude.{false, ◌&&◌, ◌||◌, eqb}
use lib.ListN.{set}
use lib.Seq.{take-suc, length-take-le}
use Rattle.std.proofs.lemmas.List.Edits.{sets}
use Rattle.definitions.specs.TokenKind as K
use Rattle.definitions.specs.Run.{only_separators}

-- ---------------------------------------------------------------- stores

sets_snoc : (vs l : List ℕ) (i v : ℕ) → set (sets l i vs) (i + length vs) v ≡ sets l i (vs ++ (v ∷ []))
sets_snoc [] l i v = let e : i + 0 ≡ i = omega arith in ap (λ (j : ℕ). set l j v) e
sets_snoc (a ∷ vs) l i v =
    let e : i + suc (length vs) ≡ suc i + length vs = omega arith in
    ap (λ (j : ℕ). set (sets (set l i a) (suc i) vs) j v) e ∙ sets_snoc vs (set l i a) (suc i) v

-- one code more
pub codes_more : (l codes : List ℕ) (first i : ℕ) → i < length codes → set (sets l first (take i codes)) (first + i) (get_or codes i 0) ≡ sets l first (take (i + 1) codes)
codes_more l codes first i h =
    let e : suc i ≡ i + 1 = omega arith in
    let n : length (take i codes) ≡ i = length-take-le i codes (omega (arith, h)) in
    ap (λ (j : ℕ). set (sets l first (take i codes)) (first + j) (get_or codes i 0)) (sym n)
    ∙ sets_snoc (take i codes) l first (get_or codes i 0)
    ∙ ap (sets l first) (sym (take-suc codes i 0 h) ∙ ap (λ (j : ℕ). take j codes) e)

-- ---------------------------------------------------------------- what a report says of the pending codes

pub only_one : (l : List ℕ) → 1 ≤ length l → length l < 2 → only_separators l ≡ (eqb (get_or l 0 0) K.Semicolon || eqb (get_or l 0 0) K.Comma)
unfolding only_separators
only_one [] h k = absurd (omega (arith, h))
only_one (a ∷ []) h k = refl
only_one (a ∷ b ∷ l) h k = absurd (omega (arith, k))

pub only_two : (l : List ℕ) → 2 ≤ length l → length l < 3 → only_separators l ≡ (eqb (get_or l 0 0) K.Comma && eqb (get_or l 1 0) K.Semicolon)
unfolding only_separators
only_two [] h k = absurd (omega (arith, h))
only_two (a ∷ []) h k = absurd (omega (arith, h))
only_two (a ∷ b ∷ []) h k = refl
only_two (a ∷ b ∷ d ∷ l) h k = absurd (omega (arith, k))

pub only_none : (l : List ℕ) → length l < 1 → false ≡ only_separators l
unfolding only_separators
only_none [] h = refl
only_none (a ∷ l) h = absurd (omega (arith, h))

pub only_many : (l : List ℕ) → 3 ≤ length l → false ≡ only_separators l
unfolding only_separators
only_many [] h = absurd (omega (arith, h))
only_many (a ∷ []) h = absurd (omega (arith, h))
only_many (a ∷ b ∷ []) h = absurd (omega (arith, h))
only_many (a ∷ b ∷ d ∷ l) h = refl
