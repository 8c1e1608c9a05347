-- Every DtExpr of a skeleton, where it is placed, is a judged cell. It is so of what any program makes that completes
-- no marker as a DtExpr.
use Prim.Native.Nat.{ℕ, zero, suc, ◌≤◌}
use mathlib.Core.Path.{◌≡◌, refl, sym, ◌∙◌, ap}
use mathlib.Core.Bool.{Bool, true, not, true≢false}
use mathlib.Core.List.{List, [], ◌∷◌}
use lib.Dec.{eqb}
use lib.ListN.{length, drop}
use borrow.Author.Tests.{eq-eqb}
use Rattle.definitions.specs.TokenKind as K
use Rattle.definitions.specs.NodeKind as N
use Rattle.definitions.specs.Token.{Token, trivia, drop_trivia, past}
use Rattle.definitions.specs.Prog.{Ans, no, yes, Act, silent_at, at_end, immediate, immediate_next, add_expected, bump, bump_name, bump_argument, emit, emit_unclosed, less, act}
use Rattle.definitions.specs.Skeleton.{Label, Skeleton, done, token, name, node, ignored, report, over, ◌⧺◌}
use Rattle.definitions.specs.Run.{State, Out, mark_of, peeked, replies, makes, taken, do_bump, do_name, add, at_depth, do_argument, do_emit, do_expected, perform, closed, exec, run}
use Rattle.definitions.specs.Place.{after}
use Rattle.definitions.specs.Report.{pushes}
use Rattle.basics.proofs.Tests.{cond-all}
use Rattle.laws.proofs.Trivia.{drop_twice, passes_none}
use Rattle.laws.proofs.Kept.{Stands, run_kept, exec_kept}
use Rattle.laws.proofs.Between.{Taking, reads_kept}
use Rattle.laws.specs.Pushes.{NoneExceeded}
use Rattle.precedence.proofs.Pushed.{clear_first, clear_second, clear_inside, clear_before}
use Rattle.precedence.proofs.Cell.{CellOf}
use Rattle.precedence.proofs.Only.{Ran, Holds}

-- p's DtExprs, p being placed from ts on
unfoldable pub Cells : Skeleton → List Token → Type 0
unfolding after
Cells done ts = Unit {0}
Cells (token t m o) ts = Cells o (past (drop_trivia ts))
Cells (name raw m o) ts = Cells o (drop (length raw) (drop_trivia ts))
Cells (node k m m' a i o) ts =
    (k ≡ N.DtExpr → (a ≡ done) × CellOf m m' i (drop_trivia ts) × (length (after i (drop_trivia ts)) ≤ m'))
    × Cells a (drop_trivia ts)
    × Cells i (after a (drop_trivia ts))
    × Cells o (after i (after a (drop_trivia ts)))
Cells (ignored m m' a i o) ts = Cells a ts × Cells i (after a ts) × Cells o (after i (after a ts))
Cells (report r o) ts = Cells o ts
Cells (over m o) ts = Cells o ts

pub cells_join : (p q : Skeleton) (ts : List Token) → Cells p ts → Cells q (after p ts) → Cells (p ⧺ q) ts
unfolding Cells ◌⧺◌ after
cells_join done q ts h g = g
cells_join (token t m p) q ts h g = cells_join p q _ h g
cells_join (name raw m p) q ts h g = cells_join p q _ h g
cells_join (node k m m' a i p) q ts h g = (h.0, h.1, h.2, cells_join p q _ h.3 g)
cells_join (ignored m m' a i p) q ts h g = (h.0, h.1, cells_join p q _ h.2 g)
cells_join (report r p) q ts h g = cells_join p q ts h g
cells_join (over m p) q ts h g = cells_join p q ts h g

-- any kind but DtExpr
abbrev pub no_cell : ℕ → Bool
no_cell k = not (eqb k N.DtExpr)

other_kind : (k : ℕ) → no_cell k ≡ true → k ≡ N.DtExpr → ⊥
other_kind k h e = true≢false (sym h ∙ ap not (eq-eqb k N.DtExpr e))

-- ---------------------------------------------------------------- actions make no node

abbrev Nodeless : Skeleton → Type 0
Nodeless done = Unit {0}
Nodeless (token t m o) = Nodeless o
Nodeless (name raw m o) = Nodeless o
Nodeless (node k m m' a i o) = ⊥
Nodeless (ignored m m' a i o) = ⊥
Nodeless (report r o) = Nodeless o
Nodeless (over m o) = Nodeless o

nodeless_cells : (p : Skeleton) (ts : List Token) → Nodeless p → Cells p ts
unfolding Cells
nodeless_cells done ts h = tt
nodeless_cells (token t m p) ts h = nodeless_cells p _ h
nodeless_cells (name raw m p) ts h = nodeless_cells p _ h
nodeless_cells (node k m m' a i p) ts h = absurd h
nodeless_cells (ignored m m' a i p) ts h = absurd h
nodeless_cells (report r p) ts h = nodeless_cells p ts h
nodeless_cells (over m p) ts h = nodeless_cells p ts h

-- shapes no marker, makes no node
record Simple (o : Out) : Type 0 where
  shape_is : o.shape ≡ 0
  nodeless : Nodeless o.made

simple_answer : (a : Ans) (s : State) → Simple (replies a s)
unfolding replies
simple_answer a s = record { shape_is = refl; nodeless = tt }

simple_bump : (s : State) (l : List Token) → Simple (do_bump s l)
unfolding do_bump makes
simple_bump s [] = simple_answer yes s
simple_bump s (t ∷ ts) = record { shape_is = refl; nodeless = tt }

simple_name : (ks : List ℕ) (s : State) (l : List Token) → Simple (do_name ks s l)
unfolding do_name makes
simple_name ks s [] = simple_answer yes s
simple_name ks s (t ∷ ts) = record { shape_is = refl; nodeless = tt }

simple_depth : (n : ℕ) (o : Out) (f : ℕ → Out) → Simple o → ((m : ℕ) → Simple (f m)) → Simple (at_depth n o f)
unfolding at_depth
simple_depth zero o f p q = p
simple_depth (suc n) o f p q = q n

simple_argument : (n : ℕ) (s : State) (l : List Token) → Simple (do_argument n s l)
unfolding do_argument add makes ◌⧺◌
simple_argument n s [] = simple_answer no _
simple_argument n s (t ∷ ts) =
    let go : (m : ℕ) → Simple (add (makes yes (token t (length ts) done) (taken ts)) (do_argument m (taken ts) ts)) =
    λ m. let r = simple_argument m (taken ts) ts in record { shape_is = r.shape_is; nodeless = r.nodeless } in
    cond-all Simple (trivia t) (simple_argument n s ts)
    (cond-all Simple (eqb t.kind K.LParen) (go (suc n))
    (cond-all Simple (eqb t.kind K.RParen) (simple_depth n _ _ (simple_answer no _) go)
    (cond-all Simple (eqb t.kind K.Comma) (simple_depth n _ _ (simple_answer yes _) (λ m. go (suc m))) (go n))))

simple_act : (b : Label) (a : Act) (s : State) → Simple (perform b a s)
unfolding perform do_expected do_emit makes
simple_act b (silent_at ks) s = simple_answer _ _
simple_act b at_end s = simple_answer _ _
simple_act b (immediate k) s = simple_answer _ _
simple_act b (immediate_next k) s = simple_answer _ _
simple_act b (add_expected k) s = simple_answer _ _
simple_act b bump s = simple_bump (peeked s) (peeked s).rest
simple_act b (bump_name ks) s = simple_name ks (peeked s) (peeked s).rest
simple_act b bump_argument s = simple_argument 0 s s.rest
simple_act b (emit m h) s = record { shape_is = refl; nodeless = tt }
simple_act b emit_unclosed s = record { shape_is = refl; nodeless = tt }
simple_act b (less m n) s = simple_answer _ _

-- ---------------------------------------------------------------- what is shown of every run

-- p was made from s to u, and if no limit was exceeded every DtExpr in it is a judged cell
pub record Celled (s : State) (p : Skeleton) (u : State) : Type 0 where
  pub takes : Taking s p u
  pub cells : NoneExceeded (pushes p) → (ts : List Token) → drop_trivia ts ≡ drop_trivia s.since → Cells p ts

celled_idle : (s : State) → Stands s → Celled s done s
unfolding Cells
celled_idle s h = record { takes = reads_kept.pass s s.rest h (passes_none s.rest); cells = λ c ts e. tt }

pub celled_act : (b : Label) (a : Act) (s : State) → Ran no_cell Celled s (perform b a s)
unfolding exec
celled_act b a s =
    let q = simple_act b a s in
    let k : Stands s → Stands (perform b a s).state × Taking s (perform b a s).made (perform b a s).state =
    exec_kept Taking reads_kept (run 0) (run_kept Taking reads_kept 0) b (act a) s in
    record {
      shape = ap no_cell q.shape_is;
      stands = λ h. (k h).0;
      makes_it = λ h. record { takes = (k h).1; cells = λ c ts e. nodeless_cells (perform b a s).made ts q.nodeless };
    }

celled_join : (s u v : State) (p q : Skeleton) → Celled s p u → Celled u q v → Celled s (p ⧺ q) v
celled_join s u v p q a b =
    record {
      takes = reads_kept.join s u v p q a.takes b.takes;
      cells = λ c ts e. cells_join p q ts (a.cells (clear_first p q c) ts e) (b.cells (clear_second p q c) (after p ts) (a.takes.takes.leaves ts e));
    }

celled_close : (s u v : State) (k : ℕ) (a i : Skeleton) → no_cell k ≡ true → Celled s a u → Celled u i v → Celled s (closed k (mark_of u) (mark_of v) a i) v
unfolding closed Cells
celled_close s u v zero a i f x y =
    record {
      takes = reads_kept.close s u v 0 a i x.takes y.takes;
      cells = λ c ts e. (x.cells (clear_before 0 (mark_of u) (mark_of v) a i c) ts e, y.cells (clear_inside 0 (mark_of u) (mark_of v) a i c) (after a ts) (x.takes.takes.leaves ts e), tt);
    }
celled_close s u v (suc k) a i f x y =
    record {
      takes = reads_kept.close s u v (suc k) a i x.takes y.takes;
      cells = λ c ts e.
          let d : drop_trivia (drop_trivia ts) ≡ drop_trivia s.since = drop_twice ts ∙ e in (
            λ z. absurd (other_kind (suc k) f z),
            x.cells (clear_before (suc k) (mark_of u) (mark_of v) a i c) (drop_trivia ts) d,
            y.cells (clear_inside (suc k) (mark_of u) (mark_of v) a i c) (after a (drop_trivia ts)) (x.takes.takes.leaves (drop_trivia ts) d),
            tt,
          );
    }

pub celled : Holds no_cell Celled
celled = record { ignored = refl; idle = celled_idle; act = celled_act; join = celled_join; close = celled_close }
