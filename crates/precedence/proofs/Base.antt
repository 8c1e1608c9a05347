-- An expression's symbols in front of others, brackets counted over them, and what a result satisfies.
use Prim.Native.Nat.{ℕ, zero, suc, ◌≤◌, ◌<◌}
use native.Mathlib.Omega.{arith}
use mathlib.Core.Path.{◌≡◌, refl, sym, ◌∙◌, ap}
use mathlib.Core.Logic.{inl, inr}
use mathlib.Core.Bool.{Bool, true, false, cond}
use lib.Dec.{eqb}
use borrow.Author.Tests.{eqb-true}
use mathlib.Core.List.{List, [], ◌∷◌, ◌++◌, append_assoc}
use mathlib.Core.Option.{Option, none, some}
use Rattle.definitions.specs.TokenKind as K
use Rattle.definitions.specs.Token.{one_of}
use Rattle.definitions.specs.C.{Symbol, plain, arguments, Change, opens, closes, keeps, change, changed, open_after, Balanced, prefix_operators, line_in, line_of, Expr, literal, name, invocation, bracketed, prefix, binary, ternary, spelling, WellFormed}
use Rattle.precedence.proofs.Pratt.{Operator, asks, binds, operator, is, Res, done, report, refused, spent, bind, expect_if, expect}
use Rattle.precedence.proofs.Pratt as P
use Rattle.precedence.proofs.Tables.{OperatorOf, operator_of, Member, here, there, member, is_kind}
use Rattle.precedence.proofs.Powers.{lb, rb, Has}

-- ---------------------------------------------------------------- an expression in front of other symbols

abbrev pub onto : Expr → List Symbol → List Symbol
onto (literal k) us = plain k ∷ us
onto name us = plain K.Ident ∷ us
onto (invocation xs) us = plain K.Ident ∷ arguments ∷ (xs ++ (plain K.RParen ∷ us))
onto (bracketed e) us = plain K.LParen ∷ onto e (plain K.RParen ∷ us)
onto (prefix k e) us = plain k ∷ onto e us
onto (binary l k r) us = onto l (plain k ∷ onto r us)
onto (ternary c a b) us = onto c (plain K.QuestionMark ∷ onto a (plain K.Colon ∷ onto b us))

pub onto_written : (e : Expr) (us : List Symbol) → onto e us ≡ spelling e ++ us
onto_written (literal k) us = refl
onto_written name us = refl
onto_written (invocation xs) us = rw append_assoc
onto_written (bracketed e) us = rw (append_assoc, onto_written e (plain K.RParen ∷ us))
onto_written (prefix k e) us = rw (onto_written e us)
onto_written (binary l k r) us = rw (append_assoc, onto_written l (plain k ∷ onto r us), onto_written r us)
onto_written (ternary c a b) us =
    onto_written c (plain K.QuestionMark ∷ onto a (plain K.Colon ∷ onto b us))
    ∙ rw (onto_written a (plain K.Colon ∷ onto b us), onto_written b us) (simp append_assoc)

pub onto_append : (e : Expr) (c p : List Symbol) → onto e (c ++ p) ≡ onto e c ++ p
onto_append e c p = rw (onto_written e (c ++ p), onto_written e c, append_assoc)

-- ---------------------------------------------------------------- brackets

pub not_none : (n : ℕ) → some n ≡ none → ⊥
not_none n h = let z : ◌≡◌ {A = ℕ} 0 1 = cc in omega arith

up_turn : (t : Change) (f : ℕ → Option ℕ) (n m : ℕ) → ((a b : ℕ) → f a ≡ some b → f (suc a) ≡ some (suc b))
    → changed t f n ≡ some m → changed t f (suc n) ≡ some (suc m)
up_turn opens f n m ih h = ih (suc n) m h
up_turn closes f zero m ih h = absurd (not_none m (sym h))
up_turn closes f (suc n) m ih h = ih n m h
up_turn keeps f n m ih h = ih n m h

pub open_up : (xs : List Symbol) (n m : ℕ) → open_after xs n ≡ some m → open_after xs (suc n) ≡ some (suc m)
open_up [] n m h = cc
open_up (x ∷ xs) n m h = up_turn (change x) (open_after xs) n m (open_up xs) h

open_lift : (xs : List Symbol) → Balanced xs → (n : ℕ) → open_after xs n ≡ some n
open_lift xs h zero = h
open_lift xs h (suc n) = open_up xs n n (open_lift xs h n)

append_turn : (t : Change) (f g h : ℕ → Option ℕ) (n m : ℕ) → ((a b : ℕ) → f a ≡ some b → g a ≡ h b) → changed t f n ≡ some m → changed t g n ≡ h m
append_turn opens f g h n m ih e = ih (suc n) m e
append_turn closes f g h zero m ih e = absurd (not_none m (sym e))
append_turn closes f g h (suc n) m ih e = ih n m e
append_turn keeps f g h n m ih e = ih n m e

open_append : (xs ys : List Symbol) (n m : ℕ) → open_after xs n ≡ some m → open_after (xs ++ ys) n ≡ open_after ys m
open_append [] ys n m h = cc
open_append (x ∷ xs) ys n m h = append_turn (change x) (open_after xs) (open_after (xs ++ ys)) (open_after ys) n m (open_append xs ys) h

-- a symbol that is not a bracket
abbrev pub Flat : Symbol → Type 0
Flat x = change x ≡ keeps

flat_open : (x : Symbol) (xs : List Symbol) (n : ℕ) → Flat x → open_after (x ∷ xs) n ≡ open_after xs n
flat_open x xs n h = rw h

flat_prefix : {k : ℕ} → Member k prefix_operators → Flat (plain k)
flat_prefix here = refl
flat_prefix (there here) = refl
flat_prefix (there (there here)) = refl
flat_prefix (there (there (there here))) = refl
flat_prefix (there (there (there (there h)))) = elim h [ ]

-- no bracket is in C's table
bracket_not : (k j : ℕ) → line_of j ≡ 0 → 1 ≤ line_of k → k ≡ j → ⊥
bracket_not k j z h e = let y = ap line_of e in omega arith

flat_by : (k : ℕ) → 1 ≤ line_of k → (b c : Bool) → eqb k K.LParen ≡ b → eqb k K.RParen ≡ c → cond b opens (cond c closes keeps) ≡ keeps
unfolding line_in one_of
flat_by k h true c p q = absurd (bracket_not k K.LParen refl h (eqb-true k K.LParen p))
flat_by k h false true p q = absurd (bracket_not k K.RParen refl h (eqb-true k K.RParen q))
flat_by k h false false p q = refl

pub flat_binary : (k : ℕ) → 1 ≤ line_of k → Flat (plain k)
flat_binary k h = flat_by k h (eqb k K.LParen) (eqb k K.RParen) refl refl

pub flat_prefix_of : (k : ℕ) → one_of prefix_operators k ≡ true → Flat (plain k)
flat_prefix_of k h = flat_prefix (member prefix_operators k h)

flat_literal : {k : ℕ} → Member k (K.Number ∷ K.Char ∷ []) → Flat (plain k)
flat_literal here = refl
flat_literal (there here) = refl
flat_literal (there (there h)) = elim h [ ]

pub open_onto : (e : Expr) → WellFormed e → (us : List Symbol) (n : ℕ) → open_after (onto e us) n ≡ open_after us n
open_onto (literal k) a us n = flat_open (plain k) us n (flat_literal (member (K.Number ∷ K.Char ∷ []) k a))
open_onto name a us n = refl
open_onto (invocation xs) a us n = open_append xs (plain K.RParen ∷ us) (suc n) (suc n) (open_lift xs a (suc n))
open_onto (bracketed e) a us n = open_onto e a (plain K.RParen ∷ us) (suc n)
open_onto (prefix k e) a us n = flat_open (plain k) (onto e us) n (flat_prefix_of k a.0) ∙ open_onto e a.1 us n
open_onto (binary l k r) a us n =
    open_onto l a.1 (plain k ∷ onto r us) n ∙ flat_open (plain k) (onto r us) n (flat_binary k a.0) ∙ open_onto r a.2 us n
open_onto (ternary c x b) a us n =
    open_onto c a.0 (plain K.QuestionMark ∷ onto x (plain K.Colon ∷ onto b us)) n
    ∙ open_onto x a.1 (plain K.Colon ∷ onto b us) n
    ∙ open_onto b a.2 us n

-- p is what is left of us, and no bracket was closed on the way that had not been opened on the way
pub record Before (us p : List Symbol) : Type 0 where
  pub passed : List Symbol
  pub split : us ≡ passed ++ p
  pub inside : (n : ℕ) → open_after passed n ≡ none → ⊥

pub before_refl : (us : List Symbol) → Before us us
before_refl us = record { passed = []; split = refl; inside = not_none }

pub before_flat : (x : Symbol) (us p : List Symbol) → Flat x → Before us p → Before (x ∷ us) p
before_flat x us p f b =
    record { passed = x ∷ b.passed; split = rw b.split; inside = λ n h. b.inside n (sym (flat_open x b.passed n f) ∙ h) }

pub before_open : (us p : List Symbol) → Before us p → Before (plain K.LParen ∷ us) p
before_open us p b = record { passed = plain K.LParen ∷ b.passed; split = rw b.split; inside = λ n h. b.inside (suc n) h }

pub before_onto : (e : Expr) → WellFormed e → (us p : List Symbol) → Before us p → Before (onto e us) p
before_onto e a us p b =
    record {
      passed = onto e b.passed;
      split = ap (onto e) b.split ∙ onto_append e b.passed p;
      inside = λ n h. b.inside n (sym (open_onto e a b.passed n) ∙ h);
    }

-- ---------------------------------------------------------------- the operator ahead

abbrev pub Below : ℕ → Operator → Type 0
Below m asks = 2 < m
Below m (binds k l r) = l < m
Below m P.none = Unit {0}

-- the loop at the minimum m stops here
abbrev pub Stop : ℕ → List Symbol → Type 0
Stop m [] = Unit {0}
Stop m (x ∷ us) = Below m (operator x)

abbrev Bounded : Operator → Type 0
Bounded asks = Unit {0}
Bounded (binds k l r) = (2 ≤ l) × (l ≤ 21)
Bounded P.none = Unit {0}

bounded_from : (k : ℕ) (x : Operator) → OperatorOf k x → Bounded x
bounded_from k asks h = tt
bounded_from k (binds j l r) h = omega arith
bounded_from k P.none h = tt

bounded : (x : Symbol) → Bounded (operator x)
unfolding operator
bounded (plain k) = bounded_from k (operator (plain k)) (operator_of k)
bounded arguments = tt

below_all : (m : ℕ) → 22 ≤ m → (x : Operator) → Bounded x → Below m x
below_all m h asks b = omega arith
below_all m h (binds k l r) b = omega arith
below_all m h P.none b = tt

pub stop_all : (m : ℕ) → 22 ≤ m → (us : List Symbol) → Stop m us
stop_all m h [] = tt
stop_all m h (x ∷ us) = below_all m h (operator x) (bounded x)

below_weaken : (e : Expr) (m : ℕ) → m ≤ lb e → (x : Operator) → Bounded x → Has e → Below m x → Below (rb e) x
below_weaken e m h asks b (inl p) u = omega arith
below_weaken e m h asks b (inr p) u = omega arith
below_weaken e m h (binds k l r) b (inl p) u = omega arith
below_weaken e m h (binds k l r) b (inr p) u = omega arith
below_weaken e m h P.none b p u = tt

pub stop_weaken : (e : Expr) → Has e → (m : ℕ) → m ≤ lb e → (us : List Symbol) → Stop m us → Stop (rb e) us
stop_weaken e p m h [] u = tt
stop_weaken e p m h (x ∷ us) u = below_weaken e m h (operator x) (bounded x) p u

-- ---------------------------------------------------------------- results

-- a tree and what follows it satisfy D, the place of a report satisfies Q
abbrev pub Post : (Expr → List Symbol → Type 0) → (List Symbol → Type 0) → Res → Type 0
Post D Q (done e us) = D e us
Post D Q (report us) = Q us
Post D Q refused = Unit {0}
Post D Q spent = Unit {0}

pub post_bind : (D : Expr → List Symbol → Type 0) (Q : List Symbol → Type 0) (D' : Expr → List Symbol → Type 0) (Q' : List Symbol → Type 0) (x : Res)
    (f : Expr → List Symbol → Res) → Post D Q x → ((p : List Symbol) → Q p → Q' p)
    → ((e : Expr) (us : List Symbol) → D e us → Post D' Q' (f e us)) → Post D' Q' (bind x f)
post_bind D Q D' Q' (done e us) f h q g = g e us h
post_bind D Q D' Q' (report us) f h q g = q us h
post_bind D Q D' Q' refused f h q g = tt
post_bind D Q D' Q' spent f h q g = tt

post_expect_if : (D : Expr → List Symbol → Type 0) (Q : List Symbol → Type 0) (b : Bool) (us : List Symbol) (x : Res)
    → Q us → (b ≡ true → Post D Q x) → Post D Q (expect_if b us x)
post_expect_if D Q true us x q h = h refl
post_expect_if D Q false us x q h = q

pub post_expect : (D : Expr → List Symbol → Type 0) (Q : List Symbol → Type 0) (k : ℕ) (us : List Symbol) (f : List Symbol → Res)
    → Q us → ((vs : List Symbol) → us ≡ plain k ∷ vs → Post D Q (f vs)) → Post D Q (expect k us f)
post_expect D Q k [] f q h = q
post_expect D Q k (x ∷ us) f q h = post_expect_if D Q (is k x) (x ∷ us) (f us) q (λ e. h us (ap (λ (y : Symbol). y ∷ us) (is_kind k x e)))
