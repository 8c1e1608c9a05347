-- The action that takes a macro argument.
use Prim.Native.Nat.{ℕ, zero, suc, ◌≤◌, ◌<◌}
use native.Mathlib.Omega.{arith}
use mathlib.Core.Path.{◌≡◌, refl, sym, ap, ◌∙◌, subst}
use mathlib.Core.Bool.{Bool, true, false, cond}
use mathlib.Core.List.{List, [], ◌∷◌}
use lib.Dec.{leb, eqb}
use lib.ListN.{length}
use borrow.Author.Tests.{leb-true, ne_eqb}
use Rattle.definitions.specs.LexError as L
use Rattle.definitions.specs.TokenKind as K
use Rattle.definitions.specs.Token.{Token, is_error, seen, trivia, drop_trivia, ended, one_of, first_in}
use Rattle.definitions.specs.Skeleton.{done, token}
use Rattle.definitions.specs.Prog.{Ans, no, yes}
use Rattle.definitions.specs.Run.{State, Out, replies, makes, taken, peeked, do_bump, add, do_argument}
use Rattle.definitions.specs.Run as R
use Rattle.definitions.specs.Report.{reports}
use Rattle.basics.proofs.Tests.{eqb_swap}
use Rattle.laws.proofs.Trivia.{Solid, drop_none, dropped_solid}
use Rattle.machine.specs.Machine.{Machine, rest}
use Rattle.machine.specs.Machine as M
use Rattle.machine.specs.Walk.{Walked, said, at_depth, argument}
use Rattle.machine.proofs.Image.{Ground, Inside, moved, rest_is, inside_peeked}
use Rattle.machine.proofs.Moves.{peek_is}
use Rattle.machine.proofs.Sticky.{s_argument}
use Rattle.machine.proofs.Meets.{Sofar, Fitting, stand, grow, Sim, Tracks}
use Rattle.machine.proofs.Taking.{quiet, bump_sim}
use Rattle.machine.proofs.Sequences.{seq_with}
use Rattle.laws.proofs.Trivia.{drop_trivia_length}

-- ---------------------------------------------------------------- tests

-- the machine looks at the kind that is seen, the definitions at the row's: the same, for a kind that no error token is
-- seen as
pub same_test : (k : ℕ) (t : Token) (l : List Token) → k < L.UnexpectedEndIncbin → eqb k K.Unrecognized ≡ false → first_in (k ∷ []) (t ∷ l) ≡ eqb t.kind k
unfolding first_in one_of seen is_error
same_test k t l h u = by (leb L.UnexpectedEndIncbin t.kind) refl
  where
    plain : (b : Bool) → cond b true false ≡ b
    plain true = refl
    plain false = refl

    by : (b : Bool) → leb L.UnexpectedEndIncbin t.kind ≡ b → cond (eqb k (cond b K.Unrecognized t.kind)) true false ≡ eqb t.kind k
    by true e = rw u (sym (ne_eqb t.kind k (λ q. let w : L.UnexpectedEndIncbin ≤ t.kind = leb-true _ _ e in absurd (omega arith))))
    by false e = plain (eqb k t.kind) ∙ eqb_swap k t.kind

-- ---------------------------------------------------------------- the argument's next token

-- it stays
abbrev stays : State → Token → List Token → Ans → Out
stays s t l a = replies a (moved s (t ∷ l))

-- it is taken, and the rest of the argument is in m brackets
abbrev goes_in : Token → List Token → ℕ → Out
goes_in t l m = add (makes yes (token t (length l) done) (taken l)) (do_argument m (taken l) l)

-- a token that is not trivia
abbrev at_token : ℕ → State → Token → List Token → Out
at_token n s t l =
    cond (eqb t.kind K.LParen) (goes_in t l (suc n))
    (cond (eqb t.kind K.RParen) (R.at_depth n (stays s t l no) (goes_in t l))
    (cond (eqb t.kind K.Comma) (R.at_depth n (stays s t l yes) (λ m. goes_in t l (suc m))) (goes_in t l n)))

argument_peeked : (n : ℕ) (s : State) (l : List Token) → do_argument n s l ≡ do_argument n s (drop_trivia l)
unfolding do_argument drop_trivia
argument_peeked n s [] = refl
argument_peeked n s (t ∷ l) = by (trivia t) refl (argument_peeked n s l)
  where
    by : (b : Bool) → trivia t ≡ b → do_argument n s l ≡ do_argument n s (drop_trivia l) → cond (trivia t) (do_argument n s l) (at_token n s t l) ≡ do_argument n s (cond b (drop_trivia l) (t ∷ l))
    by true e h = ap (λ (b : Bool). cond b (do_argument n s l) (at_token n s t l)) e ∙ h
    by false e h = refl

argument_solid : (n : ℕ) (s : State) (t : Token) (l : List Token) → trivia t ≡ false → do_argument n s (t ∷ l) ≡ at_token n s t l
unfolding do_argument
argument_solid n s t l e = ap (λ (b : Bool). cond b (do_argument n s l) (at_token n s t l)) e

-- ---------------------------------------------------------------- the machine's side

abbrev Argues : Ground → ℕ → Type 0
Argues g f = (n : ℕ) (c : Sofar) (s : State) (l : List Token) → Fitting g c → Inside g (moved s l) → length l < f → Sim g c (do_argument n s l) (argument f g.tokens n (stand g c (moved s l)))

-- what the machine does at the token that stands first in u
abbrev step : Ground → ℕ → ℕ → Machine → List Token → Walked
step g f n p u =
    let go : ℕ → Walked = λ k. argument f g.tokens k (M.bump g.tokens p) in
    cond (ended u) (said no p)
    (cond (first_in (K.LParen ∷ []) u) (go (suc n))
    (cond (first_in (K.RParen ∷ []) u) (at_depth n (said no p) go) (cond (first_in (K.Comma ∷ []) u) (at_depth n (said yes p) (λ k. go (suc k))) (go n))))

module _ (g : Ground) (f : ℕ) (again : Argues g f) (c : Sofar) (s : State) (t : Token) (l : List Token) (fit : Fitting g c) (i : Inside g (moved s (t ∷ l))) (solid : trivia t ≡ false) (short : length l < f) where
  abbrev p : Machine
  p = stand g c (moved s (t ∷ l))

  abbrev go : ℕ → Walked
  go k = argument f g.tokens k (M.bump g.tokens p)

  taking : Sim g c (makes yes (token t (length l) done) (taken l)) (said yes (M.bump g.tokens p))
  unfolding peeked do_bump
  taking = subst (λ (u : List Token). Sim g c (do_bump (moved s u) u) (said yes (M.bump g.tokens p))) (drop_none t l solid) (bump_sim g c (moved s (t ∷ l)) fit i)

  goes_sim : (k : ℕ) → Sim g c (goes_in t l k) (go k)
  unfolding makes
  goes_sim k =
      seq_with g c (makes yes (token t (length l) done) (taken l)) (do_argument k (taken l) l) (said yes (M.bump g.tokens p)) (λ v. argument f g.tokens k v.on) taking
      (λ fit' i'. again k (grow c (token t (length l) done)) (taken l) l fit' i' short)
      (λ r h. s_argument g.tokens r f k (M.bump g.tokens p) h)

  stays_sim : (a : Ans) → Sim g c (stays s t l a) (said a p)
  unfolding replies
  stays_sim a = quiet g c a 0 (moved s (t ∷ l)) (said a p) fit i refl

  depth_sim : (n : ℕ) (a : Ans) (h : ℕ → ℕ) → Sim g c (R.at_depth n (stays s t l a) (λ m. goes_in t l (h m))) (at_depth n (said a p) (λ k. go (h k)))
  unfolding R.at_depth
  depth_sim zero a h = stays_sim a
  depth_sim (suc n) a h = goes_sim (h n)

  either_sim : (b : Bool) (o o' : Out) (w w' : Walked) → Sim g c o w → Sim g c o' w' → Sim g c (cond b o o') (cond b w w')
  either_sim true o o' w w' x y = x
  either_sim false o o' w w' x y = y

  token_sim : (n : ℕ) → Sim g c (at_token n s t l) (step g f n p (t ∷ l))
  token_sim n =
      rw (same_test K.LParen t l (omega arith) refl, same_test K.RParen t l (omega arith) refl, same_test K.Comma t l (omega arith) refl)
      (either_sim (eqb t.kind K.LParen) _ _ _ _ (goes_sim (suc n))
      (either_sim (eqb t.kind K.RParen) _ _ _ _ (depth_sim n no (λ k. k)) (either_sim (eqb t.kind K.Comma) _ _ _ _ (depth_sim n yes suc) (goes_sim n))))

step_sim : (g : Ground) (f n : ℕ) → Argues g f → (c : Sofar) (s : State) (u : List Token) → Fitting g c → Inside g (moved s u) → Solid u → length u < suc f → Sim g c (do_argument n s u) (step g f n (stand g c (moved s u)) u)
unfolding do_argument replies
step_sim g f n again c s [] fit i solid short = quiet g c no 0 (moved s []) _ fit i refl
step_sim g f n again c s (t ∷ l) fit i solid short =
    subst (λ (o : Out). Sim g c o (step g f n (stand g c (moved s (t ∷ l))) (t ∷ l))) (sym (argument_solid n s t l solid)) (token_sim g f again c s t l fit i solid (omega arith) n)

argues : (g : Ground) (f : ℕ) → Argues g f
unfolding argument peeked
argues g zero n c s l fit i short = absurd (omega arith)
argues g (suc f) n c s l fit i short =
    let u = drop_trivia l in
    let e = c.numbers in
    let x = reports c.pushed in
    let j : Inside g (moved s u) = inside_peeked g (moved s l) i in
    subst (λ (o : Out). Sim g c o (argument (suc f) g.tokens n (stand g c (moved s l)))) (sym (argument_peeked n s l))
    (subst (λ (m : Machine). Sim g c (do_argument n s u) (step g f n m (rest g.tokens m))) (sym (peek_is g e x (moved s l) i))
    (subst (λ (v : List Token). Sim g c (do_argument n s u) (step g f n (stand g c (moved s u)) v)) (sym (rest_is g e x (moved s u) j))
    (step_sim g f n (argues g f) c s u fit j (dropped_solid l) (omega (arith, drop_trivia_length l)))))

pub argument_sim : (g : Ground) → Tracks g (λ s. do_argument 0 s s.rest) (λ m. argument (suc (length (rest g.tokens m))) g.tokens 0 m)
argument_sim g c s fit i =
    subst (λ (l : List Token). Sim g c (do_argument 0 s s.rest) (argument (suc (length l)) g.tokens 0 (stand g c s))) (sym (rest_is g c.numbers (reports c.pushed) s i))
    (argues g (suc (length s.rest)) 0 c s s.rest fit i (omega arith))
