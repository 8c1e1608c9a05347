-- A list without repeats: dropping them twice is dropping them once, and to push onto it what is not in it (the
-- definitions' `pushed_once`) is to push first and to drop then.
use Prim.Native.Nat.{ℕ, suc, ◌≤◌}
use native.Mathlib.Nat.{le_refl}
use native.Mathlib.Omega.{arith}
use mathlib.Core.Path.{◌≡◌, refl, sym, ap, subst, ◌∙◌}
use mathlib.Core.Bool.{Bool, true, false, cond}
use mathlib.Core.List.{List, [], ◌∷◌, ◌++◌, append-nil}
use lib.Dec.{eqb}
use lib.ListN.{length}
use borrow.Author.Tests.{eqb-true}
use Rattle.definitions.specs.Token.{one_of}
use Rattle.definitions.specs.Once.{pushed_once}
use Rattle.basics.proofs.Tests.{cond-with}
use Rattle.pending.specs.Once.{without, once}

-- ---------------------------------------------------------------- a list without one number

without_same : (k j : ℕ) (l : List ℕ) → eqb k j ≡ true → without k (j ∷ l) ≡ without k l
unfolding without
without_same k j l e = ap (λ (b : Bool). cond b (without k l) (j ∷ without k l)) e

without_other : (k j : ℕ) (l : List ℕ) → eqb k j ≡ false → without k (j ∷ l) ≡ j ∷ without k l
unfolding without
without_other k j l e = ap (λ (b : Bool). cond b (without k l) (j ∷ without k l)) e

-- by whether the first number is the one left out
by_first : (P : Type 0) (k j : ℕ) → (eqb k j ≡ true → P) → (eqb k j ≡ false → P) → P
by_first P k j p q = go (eqb k j) refl
  where
    go : (b : Bool) → eqb k j ≡ b → P
    go true e = p e
    go false e = q e

without_append : (k : ℕ) (l m : List ℕ) → without k (l ++ m) ≡ without k l ++ without k m
unfolding without
without_append k [] m = refl
without_append k (j ∷ l) m =
    by_first _ k j (λ e. without_same k j (l ++ m) e ∙ without_append k l m ∙ ap (◌++ without k m) (sym (without_same k j l e)))
    (λ e. without_other k j (l ++ m) e ∙ ap (j ∷◌) (without_append k l m) ∙ ap (◌++ without k m) (sym (without_other k j l e)))

without_twice : (k : ℕ) (l : List ℕ) → without k (without k l) ≡ without k l
unfolding without
without_twice k [] = refl
without_twice k (j ∷ l) =
    by_first _ k j (λ e. ap (without k) (without_same k j l e) ∙ without_twice k l ∙ sym (without_same k j l e))
    (λ e. ap (without k) (without_other k j l e) ∙ without_other k j (without k l) e ∙ ap (j ∷◌) (without_twice k l) ∙ sym (without_other k j l e))

without_both : (k j : ℕ) (l : List ℕ) → without k (without j l) ≡ without j (without k l)
unfolding without
without_both k j [] = refl
without_both k j (i ∷ l) =
    by_first _ k i
    (λ e. by_first _ j i
    (λ f. ap (without k) (without_same j i l f) ∙ without_both k j l ∙ ap (without j) (sym (without_same k i l e)))
    (λ f. ap (without k) (without_other j i l f) ∙ without_same k i (without j l) e ∙ without_both k j l ∙ ap (without j) (sym (without_same k i l e))))
    (λ e. by_first _ j i
    (λ f. ap (without k) (without_same j i l f) ∙ without_both k j l ∙ sym (without_same j i (without k l) f) ∙ ap (without j) (sym (without_other k i l e)))
    (λ f.
    ap (without k) (without_other j i l f) ∙ without_other k i (without j l) e ∙ ap (i ∷◌) (without_both k j l) ∙ sym (without_other j i (without k l) f)
    ∙ ap (without j) (sym (without_other k i l e))))

without_length : (k : ℕ) (l : List ℕ) → length (without k l) ≤ length l
unfolding without
without_length k [] = le_refl 0
without_length k (j ∷ l) =
    let h : length (without k l) ≤ length l = without_length k l in
    cond-with (λ (u : List ℕ). length u ≤ suc (length l)) (eqb k j) {x = without k l} {y = j ∷ without k l} (λ _. omega arith) (λ _. omega arith)

-- whether another number is in it
without_in : (k j : ℕ) (l : List ℕ) → eqb k j ≡ false → one_of (without k l) j ≡ one_of l j
unfolding without one_of
without_in k j [] e = refl
without_in k j (i ∷ l) e =
    by_first _ k i
    (λ f.
    ap (λ (u : List ℕ). one_of u j) (without_same k i l f) ∙ without_in k j l e
    ∙ sym (ap (λ (b : Bool). cond b true (one_of l j)) (subst (λ (x : ℕ). eqb x j ≡ false) (eqb-true k i f) e)))
    (λ f. ap (λ (u : List ℕ). one_of u j) (without_other k i l f) ∙ ap (cond (eqb i j) true) (without_in k j l e))

-- ---------------------------------------------------------------- a list without repeats

once_without : (k : ℕ) (l : List ℕ) → once (without k l) ≡ without k (once l)
unfolding once without
once_without k [] = refl
once_without k (j ∷ l) =
    by_first _ k j
    (λ e.
    ap once (without_same k j l e) ∙ once_without k l ∙ sym (without_twice k (once l))
    ∙ ap (λ (x : ℕ). without k (without x (once l))) (eqb-true k j e) ∙ sym (without_same k j (without j (once l)) e))
    (λ e. ap once (without_other k j l e) ∙ ap (λ (x : List ℕ). j ∷ without j x) (once_without k l) ∙ ap (j ∷◌) (without_both j k (once l)) ∙ sym (without_other k j (without j (once l)) e))

pub once_once : (l : List ℕ) → once (once l) ≡ once l
unfolding once
once_once [] = refl
once_once (k ∷ l) = ap (λ (u : List ℕ). k ∷ without k u) (once_without k (once l)) ∙ ap (k ∷◌) (without_twice k (once (once l))) ∙ ap (λ (u : List ℕ). k ∷ without k u) (once_once l)

pub once_length : (l : List ℕ) → length (once l) ≤ length l
unfolding once
once_length [] = le_refl 0
once_length (k ∷ l) =
    let h : length (once l) ≤ length l = once_length l in
    let g : length (without k (once l)) ≤ length (once l) = without_length k (once l) in
    omega arith

-- ---------------------------------------------------------------- a push

-- onto a list that begins with j and has no other j
push_after : (j k : ℕ) (l : List ℕ) → pushed_once k (j ∷ without j l) ≡ j ∷ without j (pushed_once k l)
unfolding pushed_once one_of without
push_after j k l =
    by_first _ j k
    (λ e. ap (λ (b : Bool). cond (cond b true (one_of (without j l) k)) (j ∷ without j l) (j ∷ (without j l ++ (k ∷ [])))) e ∙ ap (j ∷◌) (sym (same e (one_of l k))))
    (λ e.
    ap (λ (b : Bool). cond (cond b true (one_of (without j l) k)) (j ∷ without j l) (j ∷ (without j l ++ (k ∷ [])))) e
    ∙ ap (λ (b : Bool). cond b (j ∷ without j l) (j ∷ (without j l ++ (k ∷ [])))) (without_in j k l e)
    ∙ other e (one_of l k))
  where
    same : eqb j k ≡ true → (b : Bool) → without j (cond b l (l ++ (k ∷ []))) ≡ without j l
    same e true = refl
    same e false = without_append j l (k ∷ []) ∙ ap (without j l ++◌) (without_same j k [] e) ∙ append-nil (without j l)

    other : eqb j k ≡ false → (b : Bool) → cond b (j ∷ without j l) (j ∷ (without j l ++ (k ∷ []))) ≡ j ∷ without j (cond b l (l ++ (k ∷ [])))
    other e true = refl
    other e false = ap (j ∷◌) (sym (without_append j l (k ∷ []) ∙ ap (without j l ++◌) (without_other j k [] e)))

pub once_push : (k : ℕ) (l : List ℕ) → once (l ++ (k ∷ [])) ≡ pushed_once k (once l)
unfolding once
once_push k [] = unfold pushed_once one_of without in refl
once_push k (j ∷ l) = ap (λ (u : List ℕ). j ∷ without j u) (once_push k l) ∙ sym (push_after j k (once l))
