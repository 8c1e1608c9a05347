-- Of the judged Names those that break the rule: none is lost, none is added, and their order stays. Their report rows.
use Prim.Native.Nat.{ℕ, suc, ◌+◌, ◌-◌, ◌*◌}
use native.Mathlib.Omega.{arith}
use mathlib.Core.Path.{◌≡◌, refl, ap, sym, ◌∙◌, subst}
use mathlib.Core.Bool.{Bool, true, false, cond}
use mathlib.Core.List.{List, [], ◌∷◌, ◌++◌, append_assoc}
use lib.ListN.{length, take, drop}
use lib.Seq.{drop-append-add}
use Rattle.definitions.specs.Layout.{REPORT_ROW}
use Rattle.definitions.specs.Errors as E
use Rattle.definitions.specs.Strict.{NameAt, keeps_rule, breaking, name_numbers}
use Rattle.basics.proofs.Tests.{cond-all, cond-with}
use Rattle.strict.proofs.Listed.{At, first, later, All, Rising, rising_without}

-- whether a Name keeps the rule
abbrev pub keeps : List ℕ → NameAt → Bool
keeps bytes n = keeps_rule (take (n.end - n.start) (drop n.start bytes))

-- ---------------------------------------------------------------- those that break it

abbrev pub Broken : List ℕ → (NameAt → Type 0) → NameAt → Type 0
Broken bytes P n = P n × (keeps bytes n ≡ false)

pub all_breaking : (bytes : List ℕ) (P : NameAt → Type 0) (l : List NameAt) → All P l → All (Broken bytes P) (breaking bytes l)
unfolding All breaking
all_breaking bytes P [] h = tt
all_breaking bytes P (n ∷ l) h =
    cond-with (All (Broken bytes P)) (keeps bytes n) {x = breaking bytes l} {y = n ∷ breaking bytes l} (λ e. all_breaking bytes P l h.1) (λ e. ((h.0, e), all_breaking bytes P l h.1))

pub at_breaking : (bytes : List ℕ) {n : NameAt} {j : ℕ} {l : List NameAt} → At n j l → keeps bytes n ≡ false → (i : ℕ) × At n i (breaking bytes l)
unfolding breaking
at_breaking bytes {n} (first {l}) e = subst (λ (b : Bool). (i : ℕ) × At n i (cond b (breaking bytes l) (n ∷ breaking bytes l))) (sym e) (0, first)
at_breaking bytes {n} (later {y} {l} h) e = go (keeps bytes y) (at_breaking bytes h e)
  where
    go : (b : Bool) → (i : ℕ) × At n i (breaking bytes l) → (i : ℕ) × At n i (cond b (breaking bytes l) (y ∷ breaking bytes l))
    go true w = w
    go false w = (suc w.0, later w.1)

pub rising_breaking : (bytes : List ℕ) (lo hi : ℕ) (l : List NameAt) → Rising lo hi l → Rising lo hi (breaking bytes l)
unfolding breaking Rising
rising_breaking bytes lo hi [] h = h
rising_breaking bytes lo hi (n ∷ l) h =
    cond-all (Rising lo hi) (keeps bytes n) {x = breaking bytes l} {y = n ∷ breaking bytes l}
    (rising_breaking bytes lo hi l (rising_without lo hi n l h)) (h.0, rising_breaking bytes (suc n.first_token) hi l h.1)

-- ---------------------------------------------------------------- their rows

-- the row of the Name at an index, whatever follows the rows
pub row_at : (pool : ℕ) (z : List ℕ) {n : NameAt} {j : ℕ} {l : List NameAt} → At n j l
    → take REPORT_ROW (drop (REPORT_ROW * j) (name_numbers pool l ++ z))
    ≡ E.not_a_label ∷ n.start ∷ n.end ∷ n.first_token ∷ pool ∷ 0 ∷ E.no_hint ∷ 0 ∷ 0 ∷ []
unfolding name_numbers
row_at pool z first = refl
row_at pool z {n} (later {y} {j} {l} h) =
    let e : REPORT_ROW * suc j ≡ REPORT_ROW + REPORT_ROW * j = omega arith in
    ap (λ (i : ℕ). take REPORT_ROW (drop i (name_numbers pool (y ∷ l) ++ z))) e
    ∙ ap (take REPORT_ROW)
    (drop-append-add (E.not_a_label ∷ y.start ∷ y.end ∷ y.first_token ∷ pool ∷ 0 ∷ E.no_hint ∷ 0 ∷ 0 ∷ []) (name_numbers pool l ++ z) (REPORT_ROW * j))
    ∙ row_at pool z h

-- rows behind c others
pub row_behind : (r n z : List ℕ) (c j : ℕ) → length r ≡ REPORT_ROW * c → take REPORT_ROW (drop (REPORT_ROW * (c + j)) ((r ++ n) ++ z)) ≡ take REPORT_ROW (drop (REPORT_ROW * j) (n ++ z))
row_behind r n z c j h =
    let e : REPORT_ROW * (c + j) ≡ length r + REPORT_ROW * j = omega arith in
    ap (λ (i : ℕ). take REPORT_ROW (drop i ((r ++ n) ++ z))) e
    ∙ ap (λ (l : List ℕ). take REPORT_ROW (drop (length r + REPORT_ROW * j) l)) (append_assoc r n z)
    ∙ ap (take REPORT_ROW) (drop-append-add r (n ++ z) (REPORT_ROW * j))
