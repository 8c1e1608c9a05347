-- How far the parser's moves bring its cursor, and which tokens are left there.
use Prim.Native.Nat.{ℕ, zero, suc, ◌+◌, ◌-◌, ◌≤◌, zero-le}
use native.Mathlib.Omega.{arith}
use mathlib.Core.Path.{◌≡◌, refl, sym, ◌∙◌, ap}
use mathlib.Core.Bool.{Bool, true, false, cond}
use mathlib.Core.List.{List, [], ◌∷◌}
use lib.ListN.{length, drop}
use lib.Seq.{drop-nil}
use Rattle.definitions.specs.Token.{Token, trivia, drop_trivia, past}
use Rattle.basics.proofs.Tests.{cond-all}
use Rattle.laws.proofs.Trivia.{drop_trivia_length}
use Rattle.machine.specs.Machine.{Machine, passed, skip, peek}
use Rattle.token_rows.specs.Tokens.{kind_of}
use Rattle.parser.specs.View.{take_first}
use Rattle.source.specs.Cursor.{start_of, after_trivia, after_token}

past_length : (l : List Token) → length (past l) ≤ length l
past_length [] = zero-le
past_length (t ∷ ts) = omega arith

-- ---------------------------------------------------------------- what is left

drop_more : (a b : ℕ) (l : List Token) → drop (a + b) l ≡ drop b (drop a l)
drop_more zero b l = let e : zero + b ≡ b = omega arith in ap (λ (n : ℕ). drop n l) e
drop_more (suc a) b [] = drop-nil {A = Token} (suc a + b) ∙ sym (drop-nil {A = Token} b)
drop_more (suc a) b (t ∷ ts) = let e : suc a + b ≡ suc (a + b) = omega arith in ap (λ (n : ℕ). drop n (t ∷ ts)) e ∙ drop_more a b ts

drop_run : (l : List Token) → drop (length l - length (drop_trivia l)) l ≡ drop_trivia l
unfolding drop_trivia
drop_run [] = refl
drop_run (t ∷ ts) =
    cond-all (λ (r : List Token). drop (suc (length ts) - length r) (t ∷ ts) ≡ r) (trivia t) {x = drop_trivia ts} {y = t ∷ ts}
    (let h = drop_trivia_length ts in let e : suc (length ts) - length (drop_trivia ts) ≡ suc (length ts - length (drop_trivia ts)) = omega (arith, h) in
    ap (λ (n : ℕ). drop n (t ∷ ts)) e ∙ drop_run ts)
    (let e : suc (length ts) - suc (length ts) ≡ 0 = omega arith in ap (λ (n : ℕ). drop n (t ∷ ts)) e)

drop_one : (l : List Token) → drop (length l - length (past l)) l ≡ past l
drop_one [] = refl
drop_one (t ∷ ts) = let e : suc (length ts) - length ts ≡ 1 = omega arith in ap (λ (n : ℕ). drop n (t ∷ ts)) e

-- at the place past trivia stand the tokens that are left of trivia
pub left_past_trivia : (ts : List Token) (at : ℕ) → drop (after_trivia ts at) ts ≡ drop_trivia (drop at ts)
left_past_trivia ts at = drop_more at (length (drop at ts) - length (drop_trivia (drop at ts))) ts ∙ drop_run (drop at ts)

-- how the two moves add up
join : (ts l : List Token) (at : ℕ) → l ≡ drop_trivia (drop at ts) → start_of ts at l + (length l - length (past l)) ≡ start_of ts at (past l)
join ts l at e = let h : length l ≤ length (drop at ts) = rw e (drop_trivia_length (drop at ts)) in let g = past_length l in omega (arith, h, g)

pub left_past_token : (ts : List Token) (at : ℕ) → drop (after_token ts at) ts ≡ past (drop_trivia (drop at ts))
left_past_token ts at =
    let l = drop_trivia (drop at ts) in
    ap (λ (n : ℕ). drop n ts) (sym (join ts l at refl))
    ∙ drop_more (after_trivia ts at) (length l - length (past l)) ts
    ∙ ap (drop (length l - length (past l))) (left_past_trivia ts at)
    ∙ drop_one l

-- ---------------------------------------------------------------- how far the cursor goes

skip_goes : (l : List Token) (m : Machine) → (skip l m).cursor ≡ m.cursor + (length l - length (drop_trivia l))
unfolding skip drop_trivia
skip_goes [] m = omega arith
skip_goes (t ∷ ts) m = go (trivia t) (drop_trivia ts) (skip ts (passed t m)) (drop_trivia_length ts) (skip_goes ts (passed t m))
  where
    go : (b : Bool) (r : List Token) (p : Machine) → length r ≤ length ts → p.cursor ≡ m.cursor + 1 + (length ts - length r)
        → (cond b p m).cursor ≡ m.cursor + (suc (length ts) - length (cond b r (t ∷ ts)))
    go true r p h e = omega (arith, h, e)
    go false r p h e = omega arith

-- where a peek from a place brings the cursor, and what is left there
pub peek_goes : (ts : List Token) (m p : Machine) (at : ℕ) → m.cursor ≡ at → p ≡ peek ts m → (p.cursor ≡ after_trivia ts at) × (drop p.cursor ts ≡ drop_trivia (drop at ts))
unfolding peek
peek_goes ts m p at a e =
    let c : p.cursor ≡ after_trivia ts at = ap (λ (x : Machine). x.cursor) e ∙ skip_goes (drop m.cursor ts) m ∙ ap (after_trivia ts) a in
    (c, ap (λ (n : ℕ). drop n ts) c ∙ left_past_trivia ts at)

take_goes : (l : List Token) (m : Machine) → (take_first l m).cursor ≡ m.cursor + (length l - length (past l))
unfolding take_first
take_goes [] m = omega arith
take_goes (t ∷ ts) m = omega arith

-- the same of a token taken after a peek
pub token_goes : (ts : List Token) (m p r : Machine) (at : ℕ) → m.cursor ≡ at → p ≡ peek ts m → r ≡ take_first (drop p.cursor ts) p
    → (r.cursor ≡ after_token ts at) × (drop r.cursor ts ≡ past (drop_trivia (drop at ts)))
token_goes ts m p r at a e f =
    let l = drop_trivia (drop at ts) in
    let g = peek_goes ts m p at a e in
    let c : r.cursor ≡ after_token ts at =
    ap (λ (x : Machine). x.cursor) f
    ∙ take_goes (drop p.cursor ts) p
    ∙ ap (λ (k : List Token). p.cursor + (length k - length (past k))) g.1
    ∙ ap (λ (n : ℕ). n + (length l - length (past l))) g.0
    ∙ join ts l at refl in
    (c, ap (λ (n : ℕ). drop n ts) c ∙ left_past_token ts at)

-- what is seen at the place past trivia is the first token that is none
pub sees : (ts : List Token) (at n k : ℕ) → n ≡ after_trivia ts at → k ≡ kind_of (drop n ts) → k ≡ kind_of (drop_trivia (drop at ts))
sees ts at n k e f = f ∙ ap (λ (x : ℕ). kind_of (drop x ts)) e ∙ ap kind_of (left_past_trivia ts at)
