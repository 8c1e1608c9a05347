-- `dt_expr` judges the tokens between its brackets as C's table does.
use Prim.Native.Nat.{ℕ, ◌≤◌}
use native.Mathlib.Omega.{arith}
use mathlib.Core.Path.{◌≡◌, refl, sym, ◌∙◌, ap, subst}
use mathlib.Core.Logic.{◌⊎◌, inl, inr}
use mathlib.Core.List.{List, ◌∷◌, ◌++◌}
use mathlib.Core.Bool.{false}
use lib.ListN.{length}
use Rattle.definitions.specs.TokenKind as K
use Rattle.definitions.specs.NodeKind as N
use Rattle.definitions.specs.Token.{Token, seen, drop_trivia}
use Rattle.definitions.specs.Prog.{expr_binding_power, ◌⨟◌, open_call}
use Rattle.definitions.specs.Check.{bump!, of_kind, expect}
use Rattle.definitions.specs.Grammar.{dt_expr}
use Rattle.definitions.specs.Skeleton.{Label, Report, Skeleton, done, token, node, ◌⧺◌}
use Rattle.definitions.specs.Run.{State, Out, mark_of, makes, taken, add, closed, marked, run}
use Rattle.definitions.specs.Report.{pushes}
use Rattle.definitions.specs.C.{Symbol, symbols, Balanced, Expr, Gives}
use Rattle.definitions.specs.C as C
use Rattle.laws.proofs.Trivia.{drop_trivia_length}
use Rattle.laws.proofs.Skeleton.{join_done}
use Rattle.laws.proofs.Kept.{Stands, stands_taken}
use Rattle.precedence.specs.Nodes.{one, expr_nodes}
use Rattle.precedence.proofs.Pratt.{Res, refused, spent, bind, reader}
use Rattle.precedence.proofs.Pratt as P
use Rattle.precedence.proofs.Enough.{Fin, cell_fin}
use Rattle.precedence.proofs.Bare.{Verdict, verdict, Reads, cell_reads}
use Rattle.precedence.proofs.Partner.{Paired, partner_of}
use Rattle.precedence.proofs.Pushed.{Quiet, Reported, reported_second}
use Rattle.precedence.proofs.Same.{Same}
use Rattle.precedence.proofs.Symbols.{symbols_split, tail_length, still_there, gone_by}
use Rattle.precedence.proofs.Rules.{Ends, ends_map, ends_any, seq, inside, ends_ret, after_bump}
use Rattle.precedence.proofs.Follow.{Done, Noted, Follows, done_join, done_token, noted_first, noted_second, noted_from, Expected, found, missing, expects}
use Rattle.precedence.proofs.Operands.{done_after}
use Rattle.precedence.proofs.Loop.{calls}

-- ---------------------------------------------------------------- the run

-- after the opening bracket: p was made of an expression and the closing bracket, or a report was made where vs was
-- left
abbrev CellRun : State → Res → Out → Type 0
CellRun s (P.done e vs) o = Done s (expr_nodes e ⧺ one) vs o.made o.state
CellRun s (P.report vs) o = Noted s vs o.made
CellRun s refused o = ⊥
CellRun s spent o = Unit {0}

module _ (n : ℕ) (b : Label) where
  close_by : (s : State) (e : Expr) (vs : List Symbol) (o : Out) → Done s (expr_nodes e) vs o.made o.state → (o' : Out) → Expected (run n) b K.RParen refl o.state o'
      → CellRun s (P.expect K.RParen vs (λ ws. P.done e ws)) (add o o')
  unfolding add makes
  close_by s e vs o d o' (found t ts z p f) =
      let q : Done o.state one (symbols false ts) o'.made o'.state = rw p (done_token o.state t ts z) in
      let g : P.expect K.RParen vs (λ ws. P.done e ws) ≡ P.done e (symbols false ts) =
      ap (λ (l : List Symbol). P.expect K.RParen l (λ ws. P.done e ws)) (sym d.left) ∙ f (λ ws. P.done e ws) in
      rw g (done_join s o.state o'.state (expr_nodes e) one vs (symbols false ts) o.made o'.made d q)
  close_by s e vs o d o' (missing x m f) =
      let g : P.expect K.RParen vs (λ ws. P.done e ws) ≡ P.report vs =
      ap (λ (l : List Symbol). P.expect K.RParen l (λ ws. P.done e ws)) (sym d.left) ∙ f (λ ws. P.done e ws) ∙ ap P.report d.left in
      rw g
      (noted_second s vs o.made o'.made
      (noted_from s o.state vs o'.made d.tail (subst (λ (l : List Symbol). Noted o.state l o'.made) d.left m)))

  cell_by : (s : State) (x : Res) (o : Out) → Follows s expr_nodes x o
      → Ends (run n) b (expect (of_kind K.RParen)) o.state (λ o'. CellRun s (bind x (λ e vs. P.expect K.RParen vs (λ ws. P.done e ws))) (add o o'))
  unfolding add
  cell_by s (P.done e vs) o d = ends_map (run n) b (expects (run n) b K.RParen refl o.state d.1.stands) (close_by s e vs o d.1)
  cell_by s (P.report vs) o m = ends_any (run n) b (λ o'. noted_first s vs o.made o'.made m)
  cell_by s refused o d = absurd d
  cell_by s spent o d = ends_any (run n) b (λ o'. tt)

  cell_runs : (s : State) → Stands s
      → Ends (run n) b (open_call (expr_binding_power 0) ⨟ expect (of_kind K.RParen)) s (CellRun s (P.cell n (symbols false s.since)))
  cell_runs s h = seq (run n) b (calls n b 0 s h) (cell_by s (reader n 0 (symbols false s.since)))

-- ---------------------------------------------------------------- the judgement

-- Between the bracket and `close` stands `inner`; m is the mark at the end, and i what was made from the bracket on.
-- C's table gives a tree:
-- no report was made, and i is that tree between its brackets.
pub record Good (inner : List Token) (close : Token) (after : List Token) (m : ℕ) (i : Skeleton) : Type 0 where
  pub tree : Expr
  pub gives : Gives (symbols false inner) tree
  pub quiet : Quiet (pushes i)
  pub same : Same i (one ⧺ (expr_nodes tree ⧺ one))
  pub past : m ≤ length after

-- C's table gives none: a report was made, and the closing bracket not yet taken.
pub record Bad (inner : List Token) (close : Token) (after : List Token) (beyond : List Token) (i : Skeleton) : Type 0 where
  pub no_tree : (e : Expr) → Gives (symbols false inner) e → ⊥
  pub rep : Report
  pub among : Reported rep (pushes i)
  pub low : rep.mark ≤ length beyond
  pub high : length (close ∷ after) ≤ rep.mark

-- of the tokens after the opening bracket
abbrev pub Judged : List Token → ℕ → Skeleton → Type 0
Judged beyond m i =
    (inner : List Token) (close : Token) (after : List Token) → beyond ≡ inner ++ (close ∷ after) → seen close ≡ K.RParen → Balanced (symbols false inner)
    → Good inner close after m i ⊎ Bad inner close after beyond i

judge_by : (s : State) (t : Token) (ts : List Token) → drop_trivia s.since ≡ t ∷ ts → (inner : List Token) (close : Token) (after : List Token)
    → ts ≡ inner ++ (close ∷ after) → seen close ≡ K.RParen → (R : Type 0) (x : Res) (o : Out) → CellRun (taken ts) x o
    → Verdict (symbols false inner) (symbols false after) x → (a : ℕ) → Fin a R x
    → Good inner close after (mark_of o.state) (token t (length ts) done ⧺ o.made) ⊎ Bad inner close after ts (token t (length ts) done ⧺ o.made)
judge_by s t ts ahead inner close after e k R (P.done f vs) o d v a g =
    let r = done_after s t ts ahead (expr_nodes f ⧺ one) vs o.made o.state d in
    inl (record {
      tree = f;
      gives = v.0;
      quiet = r.quiet;
      same = r.same;
      past = gone_by ts o.state.since inner after close d.tail e k (d.left ∙ v.1);
    })
judge_by s t ts ahead inner close after e k R (P.report vs) o m v a g =
    let w = v.1 in
    inr (record {
      no_tree = v.0;
      rep = m.rep;
      among = reported_second (token t (length ts) done) o.made m.among;
      low = omega (arith, m.mark_is, tail_length m.raw ts m.tail);
      high = omega (arith, m.mark_is, still_there ts m.raw inner after close w.left m.tail e (m.left ∙ w.here));
    })
judge_by s t ts ahead inner close after e k R refused o d v a g = absurd d
judge_by s t ts ahead inner close after e k R spent o d v a g = absurd g

-- an RParen balances the LParen, or a report was made
pair_by : (t : Token) (ts : List Token) (x : Res) (o : Out) → CellRun (taken ts) x o → Reads (symbols false ts) x
    → Paired (pushes (token t (length ts) done ⧺ o.made)) ts
pair_by t ts (P.done f vs) o d r = inl (partner_of ts r.0 vs r.1 r.2)
pair_by t ts (P.report vs) o m r =
    inr (record {
      rep = m.rep;
      among = reported_second (token t (length ts) done) o.made m.among;
      low = omega (arith, m.mark_is, tail_length m.raw ts m.tail);
    })
pair_by t ts refused o d r = absurd d
pair_by t ts spent o d r = absurd r

-- ---------------------------------------------------------------- the node

-- A DtExpr whose marker was pushed at mark m before the tokens u and completed at mark m': it begins with its LParen,
-- and it is judged.
pub record CellOf (m m' : ℕ) (i : Skeleton) (u : List Token) : Type 0 where
  pub bracket : Token
  pub beyond : List Token
  pub starts : u ≡ bracket ∷ beyond
  pub is_bracket : seen bracket ≡ K.LParen
  pub marked_at : length u ≤ m
  pub rest : Skeleton
  pub begins : i ≡ token bracket (length beyond) rest
  pub judged : Judged beyond m' i
  pub paired : Paired (pushes i) beyond

pub record CellNode (s : State) (o : Out) : Type 0 where
  pub i : Skeleton
  pub made_is : o.made ≡ node N.DtExpr (mark_of s) (mark_of o.state) done i done
  pub cell : CellOf (mark_of s) (mark_of o.state) i (drop_trivia s.since)

module _ (n : ℕ) (b : Label) where
  judges : (s : State) (t : Token) (ts : List Token) → drop_trivia s.since ≡ t ∷ ts → (o : Out) → CellRun (taken ts) (P.cell n (symbols false ts)) o
      → Judged ts (mark_of o.state) (token t (length ts) done ⧺ o.made)
  judges s t ts ahead o r inner close after e k bal =
      let xs = symbols false inner in
      let ys = symbols false after in
      let z : symbols false ts ≡ xs ++ (C.plain K.RParen ∷ ys) = ap (symbols false) e ∙ symbols_split false inner close after k in
      judge_by s t ts ahead inner close after e k (n ≤ length (xs ++ (C.plain K.RParen ∷ ys))) (P.cell n (xs ++ (C.plain K.RParen ∷ ys))) o (rw z at r)
      (verdict n xs ys bal) (length (xs ++ (C.plain K.RParen ∷ ys))) (cell_fin n (xs ++ (C.plain K.RParen ∷ ys)))

  cell_of : (s : State) (t : Token) (ts : List Token) → drop_trivia s.since ≡ t ∷ ts → seen t ≡ K.LParen → (o : Out) → CellRun (taken ts) (P.cell n (symbols false ts)) o
      → CellOf (mark_of s) (mark_of o.state) (token t (length ts) done ⧺ o.made) (drop_trivia s.since)
  unfolding ◌⧺◌
  cell_of s t ts ahead k o r =
      record {
        bracket = t;
        beyond = ts;
        starts = ahead;
        is_bracket = k;
        marked_at = drop_trivia_length s.since;
        rest = o.made;
        begins = refl;
        judged = judges s t ts ahead o r;
        paired = pair_by t ts (P.cell n (symbols false ts)) o r (cell_reads n (symbols false ts));
      }

  -- `dt_expr`, the caller having seen its LParen
  pub cells : (s : State) → Stands s → (t : Token) (ts : List Token) → drop_trivia s.since ≡ t ∷ ts → seen t ≡ K.LParen
      → Ends (run n) b dt_expr s (CellNode s)
  unfolding dt_expr marked makes add closed
  cells s h t ts ahead k =
      let beyond : Ends (run n) b (bump! ⨟ open_call (expr_binding_power 0) ⨟ expect (of_kind K.RParen)) s
      (λ o. CellOf (mark_of s) (mark_of o.state) o.made (drop_trivia s.since)) =
      after_bump (run n) b t ts h ahead (ends_map (run n) b (cell_runs n b (taken ts) (stands_taken ts)) (cell_of s t ts ahead k)) in
      inside (run n) b
      (seq (run n) b beyond
      (λ o c. ends_ret (run n) b (record { i = o.made; made_is = rw (join_done o.made); cell = c })))
