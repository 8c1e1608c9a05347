-- One macro argument: `bump_argument` takes the raw tokens whose symbols the reader passes over, up to a comma outside
-- inner brackets, to the bracket that closes the list, or to the end.
use Prim.Native.Nat.{ℕ, zero, suc}
use native.Mathlib.Omega.{arith}
use mathlib.Core.Path.{◌≡◌, refl, ◌∙◌, ap}
use mathlib.Core.Bool.{Bool, true, false, cond}
use mathlib.Core.List.{List, [], ◌∷◌}
use borrow.Author.Tests.{eqb-true}
use lib.Dec.{eqb}
use lib.ListN.{length}
use Rattle.definitions.specs.TokenKind as K
use Rattle.definitions.specs.Token.{Token, seen, trivia, drop_trivia}
use Rattle.definitions.specs.Prog.{Ans, no, yes}
use Rattle.definitions.specs.Skeleton.{done, token, ◌⧺◌}
use Rattle.definitions.specs.Run.{State, Out, replies, makes, taken, add, at_depth, do_argument}
use Rattle.definitions.specs.Report.{pushes}
use Rattle.definitions.specs.C.{Symbol, plain, symbol, symbols, opens, closes, keeps, change}
use Rattle.laws.proofs.Trivia.{drop_none, Passes, passes_none, passes_one, passes_then, passes_drop}
use Rattle.laws.proofs.Kept.{Stands}
use Rattle.precedence.specs.Nodes.{one, Split, argument, taking, next_argument, is_comma, split_change, split}
use Rattle.precedence.proofs.Pratt.{Args, closed, unclosed, push, args_turn, args}
use Rattle.precedence.proofs.Pushed.{Quiet, quiet_join}
use Rattle.precedence.proofs.Same.{Same, same_refl, same_join, same_one}
use Rattle.precedence.proofs.Symbols.{symbols_solid, symbols_end, symbols_next, raw_kind, turn_opens, symbol_kind, Tail, tail_refl, tail_trans, tail_next}
use Rattle.precedence.proofs.Rules.{took}

-- what holds wherever it stops
pub record Stopped (s : State) (o : Out) : Type 0 where
  pub stands : Stands o.state
  pub tail : Tail o.state.since s.since
  pub shape_is : o.shape ≡ 0

-- it made the first of the arguments
pub record Argued (s : State) (sp : Split) (o : Out) : Type 0 where
  pub same : Same o.made sp.first
  pub quiet : Quiet (pushes o.made)

-- the list is closed, and vs stands after the bracket that closes it
pub data Closing (s : State) (sp : Split) (vs : List Symbol) (o : Out) : Type 0 where
  at_comma : (c : Token) (cs : List Token) (xs : List Symbol) → Stopped s o → Argued s sp o → o.ans ≡ yes → drop_trivia o.state.since ≡ c ∷ cs
      → args (symbols false cs) 0 ≡ closed xs vs → sp.later ≡ one ⧺ argument (split xs 0) → Closing s sp vs o
  at_close : Stopped s o → Argued s sp o → o.ans ≡ no → symbols false o.state.since ≡ plain K.RParen ∷ vs → sp.later ≡ done → Closing s sp vs o

-- it is not
pub data Opening (s : State) (o : Out) : Type 0 where
  at_comma : (c : Token) (cs : List Token) → Stopped s o → o.ans ≡ yes → drop_trivia o.state.since ≡ c ∷ cs
      → args (symbols false cs) 0 ≡ unclosed → Opening s o
  at_end : Stopped s o → o.ans ≡ no → symbols false o.state.since ≡ [] → Opening s o

abbrev pub Takes : State → ℕ → Args → Out → Type 0
Takes s n (closed xs vs) o = Closing s (split xs n) vs o
Takes s n unclosed o = Opening s o

-- ---------------------------------------------------------------- one token more

module _ (s : State) (t : Token) (ts : List Token) (first : drop_trivia s.since ≡ t ∷ ts) (o : Out) where
  stopped_more : Stopped (taken ts) o → Stopped s (add (took t ts) o)
  unfolding add
  stopped_more p =
      record { stands = p.stands; tail = tail_trans o.state.since ts s.since p.tail (tail_next s.since t ts first); shape_is = p.shape_is }

  argued_more : (sp : Split) → Argued (taken ts) sp o → Argued s (taking sp) (add (took t ts) o)
  unfolding add makes pushes
  argued_more sp p =
      record {
        same = same_join (token t (length ts) done) o.made one sp.first (same_one t (length ts)) p.same;
        quiet = quiet_join (token t (length ts) done) o.made tt p.quiet;
      }

  closing_more : (sp : Split) (vs : List Symbol) → Closing (taken ts) sp vs o → Closing s (taking sp) vs (add (took t ts) o)
  unfolding add
  closing_more sp vs (at_comma c cs xs p q a e h l) = at_comma c cs xs (stopped_more p) (argued_more sp q) a e h l
  closing_more sp vs (at_close p q a e l) = at_close (stopped_more p) (argued_more sp q) a e l

  opening_more : Opening (taken ts) o → Opening s (add (took t ts) o)
  unfolding add
  opening_more (at_comma c cs p a e h) = at_comma c cs (stopped_more p) a e h
  opening_more (at_end p a e) = at_end (stopped_more p) a e

  -- x is its symbol, and takes the count from n to m
  takes_more : (x : Symbol) (n m : ℕ) → ((f : ℕ → Split) → split_change (change x) x f n ≡ taking (f m)) → (y : Args) → Takes (taken ts) m y o
      → Takes s n (push x y) (add (took t ts) o)
  takes_more x n m e (closed xs vs) h = rw (e (split xs)) (closing_more (split xs m) vs h)
  takes_more x n m e unclosed h = opening_more h

-- ---------------------------------------------------------------- where it stops

-- nothing taken, and the cursor moved
abbrev stay : Ans → State → List Token → Out
stay a s ts = replies a (record { rest = ts; since = s.since; pending = s.pending })

stopped_here : (a : Ans) (s : State) (ts : List Token) → Passes s.since ts → Stopped s (stay a s ts)
unfolding replies
stopped_here a s ts p = record { stands = record { passed = p }; tail = tail_refl s.since; shape_is = refl }

argued_none : (a : Ans) (s : State) (ts : List Token) (sp : Split) → sp.first ≡ done → Argued s sp (stay a s ts)
unfolding replies pushes
argued_none a s ts sp e = record { same = rw e (same_refl done); quiet = tt }

takes_end : (s : State) (n : ℕ) → Passes s.since [] → Takes s n unclosed (stay no s [])
unfolding replies drop_trivia
takes_end s n p = at_end (stopped_here no s [] p) refl (symbols_end s.since (passes_drop s.since [] p))

module _ (s : State) (t : Token) (ts : List Token) (p : Passes s.since (t ∷ ts)) (first : drop_trivia s.since ≡ t ∷ ts) where
  takes_close : seen t ≡ K.RParen → Takes s 0 (closed [] (symbols (eqb (seen t) K.Ident) ts)) (stay no s (t ∷ ts))
  unfolding replies
  takes_close e =
      at_close (stopped_here no s (t ∷ ts) p) (argued_none no s (t ∷ ts) (split [] 0) refl) refl
      (symbols_next s.since t ts first ∙ ap (λ (k : ℕ). plain k ∷ symbols (eqb (seen t) K.Ident) ts) e) refl

  takes_comma : (x : Symbol) → is_comma x ≡ true → change x ≡ keeps → (y : Args) → args (symbols false ts) 0 ≡ y → Takes s 0 (push x y) (stay yes s (t ∷ ts))
  unfolding replies
  takes_comma x c k (closed xs vs) h =
      let e : split (x ∷ xs) 0 ≡ next_argument (split xs 0) = rw (k, c) refl in
      rw e
      (at_comma t ts xs (stopped_here yes s (t ∷ ts) p) (argued_none yes s (t ∷ ts) (next_argument (split xs 0)) refl) refl first h refl)
  takes_comma x c k unclosed h = at_comma t ts (stopped_here yes s (t ∷ ts) p) refl first h

-- ---------------------------------------------------------------- all cases

-- what it does with a token that is not trivia
abbrev kinds : Bool → Bool → Bool → ℕ → Out → (ℕ → Out) → (Ans → Out) → Out
kinds opening closing comma n deeper go stays =
    cond opening deeper (cond closing (at_depth n (stays no) go) (cond comma (at_depth n (stays yes) (λ m. go (suc m))) (go n)))

module _ (s : State) (t : Token) (ts : List Token) (b : Bool) (p : Passes s.since (t ∷ ts)) (first : drop_trivia s.since ≡ t ∷ ts)
    (later : (n : ℕ) → Takes (taken ts) n (args (symbols (eqb (seen t) K.Ident) ts) n) (do_argument n (taken ts) ts)) where
  abbrev us : List Symbol
  us = symbols (eqb (seen t) K.Ident) ts

  abbrev go : ℕ → Out
  go m = add (took t ts) (do_argument m (taken ts) ts)

  abbrev Case : ℕ → Symbol → Out → Type 0
  Case n x o = Takes s n (args_turn (change x) x (args us) us n) o

  case_opens : (n : ℕ) (x : Symbol) → change x ≡ opens → Case n x (go (suc n))
  case_opens n x e =
      rw e (takes_more s t ts first (do_argument (suc n) (taken ts) ts) x n (suc n) (λ f. rw e) (args us (suc n)) (later (suc n)))

  case_closes : (n : ℕ) (x : Symbol) → change x ≡ closes → seen t ≡ K.RParen → Case n x (at_depth n (stay no s (t ∷ ts)) go)
  unfolding at_depth
  case_closes zero x e k = rw e (takes_close s t ts p first k)
  case_closes (suc n) x e k =
      rw e (takes_more s t ts first (do_argument n (taken ts) ts) x (suc n) n (λ f. rw e) (args us n) (later n))

  case_keeps : (n : ℕ) (x : Symbol) → change x ≡ keeps → ((f : ℕ → Split) → split_change keeps x f n ≡ taking (f n)) → Case n x (go n)
  case_keeps n x e h =
      rw e (takes_more s t ts first (do_argument n (taken ts) ts) x n n (λ f. rw e (h f)) (args us n) (later n))

  case_comma : (n : ℕ) (x : Symbol) → change x ≡ keeps → is_comma x ≡ true → eqb (seen t) K.Ident ≡ false
      → Case n x (at_depth n (stay yes s (t ∷ ts)) (λ m. go (suc m)))
  unfolding at_depth
  case_comma zero x e c i = rw (e, i) (takes_comma s t ts p first x c e (args (symbols false ts) 0) refl)
  case_comma (suc n) x e c i = case_keeps (suc n) x e (λ f. refl)

  case_plain : (n : ℕ) (x : Symbol) → change x ≡ keeps → is_comma x ≡ false → Case n x (go n)
  case_plain zero x e c = case_keeps zero x e (λ f. rw c)
  case_plain (suc n) x e c = case_keeps (suc n) x e (λ f. refl)

  by_comma : (n : ℕ) (z : Bool) → eqb (seen t) K.Comma ≡ z → eqb (seen t) K.LParen ≡ false → eqb (seen t) K.RParen ≡ false
      → Case n (plain (seen t)) (cond z (at_depth n (stay yes s (t ∷ ts)) (λ m. go (suc m))) (go n))
  by_comma n true e l r = case_comma n (plain (seen t)) (rw (l, r)) e (ap (λ (k : ℕ). eqb k K.Ident) (eqb-true (seen t) K.Comma e))
  by_comma n false e l r = case_plain n (plain (seen t)) (rw (l, r)) e

  by_close : (n : ℕ) (z : Bool) → eqb (seen t) K.RParen ≡ z → eqb (seen t) K.LParen ≡ false
      → Case n (plain (seen t))
      (cond z (at_depth n (stay no s (t ∷ ts)) go) (cond (eqb (seen t) K.Comma) (at_depth n (stay yes s (t ∷ ts)) (λ m. go (suc m))) (go n)))
  by_close n true e l = case_closes n (plain (seen t)) (rw (l, e)) (eqb-true (seen t) K.RParen e)
  by_close n false e l = by_comma n (eqb (seen t) K.Comma) refl l e

  by_open : (n : ℕ) (z : Bool) → eqb (seen t) K.LParen ≡ z
      → Case n (symbol b t) (kinds z (eqb (seen t) K.RParen) (eqb (seen t) K.Comma) n (go (suc n)) go (λ a. stay a s (t ∷ ts)))
  by_open n true e = case_opens n (symbol b t) (turn_opens b t e)
  by_open n false e = rw (symbol_kind b t e) (by_close n (eqb (seen t) K.RParen) refl e)

solid_takes : (s : State) (t : Token) (ts : List Token) (b : Bool) (n : ℕ) → Passes s.since (t ∷ ts) → trivia t ≡ false
    → ((m : ℕ) → Takes (taken ts) m (args (symbols (eqb (seen t) K.Ident) ts) m) (do_argument m (taken ts) ts))
    → Takes s n (args (symbols b (t ∷ ts)) n) (do_argument n s (t ∷ ts))
unfolding do_argument
solid_takes s t ts b n p e later =
    let first : drop_trivia s.since ≡ t ∷ ts = passes_drop s.since (t ∷ ts) p ∙ drop_none t ts e in
    rw (
      symbols_solid b t ts e,
      e,
      raw_kind t K.LParen (omega arith) (λ z. omega arith),
      raw_kind t K.RParen (omega arith) (λ z. omega arith),
      raw_kind t K.Comma (omega arith) (λ z. omega arith),
    )
    (by_open s t ts b p first later n (eqb (seen t) K.LParen) refl)

-- `bump_argument` from the tokens ts at the cursor on; b: an Ident stands directly before them
pub takes : (ts : List Token) (n : ℕ) (s : State) (b : Bool) → Passes s.since ts → Takes s n (args (symbols b ts) n) (do_argument n s ts)
unfolding do_argument symbols
takes [] n s b p = takes_end s n p
takes (t ∷ ts) n s b p = go (trivia t) refl (λ m u c. takes ts m u c)
  where
    go : (z : Bool) → trivia t ≡ z → ((m : ℕ) (u : State) (c : Bool) → Passes u.since ts → Takes u m (args (symbols c ts) m) (do_argument m u ts))
        → Takes s n (args (symbols b (t ∷ ts)) n) (do_argument n s (t ∷ ts))
    go true e later =
        rw e (later n s false (passes_then s.since (t ∷ ts) ts p (passes_one t ts e)))
    go false e later = solid_takes s t ts b n p e (λ m. later m (taken ts) (eqb (seen t) K.Ident) (passes_none ts))
