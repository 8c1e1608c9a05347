-- Every DtExpr that a run makes is a judged cell: the grammar completes a marker as a DtExpr in `dt_expr` alone, where
-- an LParen was seen.
use Prim.Native.Nat.{ℕ, zero, suc, ◌≤◌}
use mathlib.Core.Path.{◌≡◌, refl, sym, ◌∙◌, subst}
use mathlib.Core.Bool.{Bool, true, false, false≢true}
use mathlib.Core.List.{List, [], ◌∷◌}
use lib.ListN.{length}
use Rattle.definitions.specs.Layout.{MOST_OPEN_CALLS}
use Rattle.definitions.specs.TokenKind as K
use Rattle.definitions.specs.NodeKind as N
use Rattle.definitions.specs.Errors as E
use Rattle.definitions.specs.Token.{Token, seen, drop_trivia, first_in}
use Rattle.definitions.specs.Prog.{choose, no, yes, Rule, item, propvalues, eat_cell, expr_binding_power, silent_at, Prog, act, ◌⨟◌, case, open_call}
use Rattle.definitions.specs.Check.{tell, when◌then◌else◌, ◌and◌, ◌or◌, not!, bump!, expected, error_wrap, of_kind, set, silent, at, silent_eat, expect}
use Rattle.definitions.specs.Grammar.{Cell, OPERATORS_SET, Reference, macro_invocation, dt_expr, eat_dts_include, eat_preprocessor_directive, eat_cell_body, grammar, Entry, SourceFile, ReferenceNoamp, PropValues, Cells, whole}
use Rattle.definitions.specs.Skeleton.{Label, no_label, Skeleton, done, node, ◌⧺◌}
use Rattle.definitions.specs.Run.{State, Out, mark_of, peeked, truth, replies, makes, taken, add, perform, closed, marked, exec, run}
use Rattle.definitions.specs.Place.{after}
use Rattle.definitions.specs.Report.{pushes}
use Rattle.definitions.specs.Call.{run_entry}
use Rattle.laws.proofs.Trivia.{drop_twice, drop_trivia_length, passes_drop}
use Rattle.laws.proofs.Skeleton.{join_done}
use Rattle.laws.proofs.Kept.{Stands, stands_taken, run_kept, exec_kept}
use Rattle.laws.proofs.Between.{Taking, reads_kept}
use Rattle.laws.specs.Pushes.{NoneExceeded}
use Rattle.precedence.proofs.Pushed.{clear_inside, clear_first}
use Rattle.precedence.proofs.Symbols.{test_one}
use Rattle.precedence.proofs.Short.{exec_short}
use Rattle.precedence.proofs.Cell.{CellOf, CellNode, cells}
use Rattle.laws.proofs.Engine.{only, any_act}
use Rattle.precedence.proofs.Only.{Ran, ran_add, ran_ret, ran_choose, ran_exec}
use Rattle.precedence.proofs.Cells.{no_cell, Celled, celled}
use Rattle.precedence.proofs.Cells as Cs

abbrev Made : State → Out → Type 0
Made s o = Ran no_cell Celled s o

module _ (n : ℕ) (below : (r : Rule) (s : State) → Made s (run n r s)) (b : Label) where
  abbrev does : Prog → State → Out
  does p s = exec (run n) b p s

  abbrev Fine : Prog → Type 0
  Fine p = (s : State) → Made s (does p s)

  plain : (p : Prog) → only no_cell any_act p ≡ true → Fine p
  plain p e s = ran_exec no_cell Celled celled (run n) below b p s e

  fine_seq : (p q : Prog) → Fine p → Fine q → Fine (p ⨟ q)
  unfolding exec
  fine_seq p q f g s = ran_add no_cell Celled celled s (does p s) (does q (does p s).state) (f s) (g (does p s).state)

  fine_case : (c x y z : Prog) → Fine c → Fine x → Fine y → Fine z → Fine (case c x y z)
  unfolding exec
  fine_case c x y z f g h i s =
      let o = does c s in
      ran_add no_cell Celled celled s o (choose o.ans (does x) (does y) (does z) o.state) (f s)
      (ran_choose no_cell Celled celled o.ans (does x) (does y) (does z) o.state (g o.state) (h o.state) (i o.state))

  -- ---------------------------------------------------------------- the cell

  abbrev inside : Prog
  inside = bump! ⨟ open_call (expr_binding_power 0) ⨟ expect (of_kind K.RParen)

  -- the node's inside is what its program makes
  inside_is : (m m' : ℕ) (i j : Skeleton) → node N.DtExpr m m' done (j ⧺ done) done ≡ node N.DtExpr m m' done i done → j ≡ i
  inside_is m m' i j e = let z : j ⧺ done ≡ i = cc in sym (join_done j) ∙ z

  cell_celled : (s : State) (t : Token) (ts : List Token) → drop_trivia s.rest ≡ t ∷ ts → seen t ≡ K.LParen → Stands s
      → NoneExceeded (pushes (does dt_expr s).made) → (l : List Token) → drop_trivia l ≡ drop_trivia s.since → Cs.Cells (does dt_expr s).made l
  unfolding dt_expr exec marked makes add closed Cs.Cells only
  cell_celled s t ts e k h c l z =
      let ahead : drop_trivia s.since ≡ t ∷ ts = passes_drop s.since s.rest h.passed ∙ e in
      let d : CellNode s (does dt_expr s) = (cells n b s h t ts ahead k).holds c in
      let i : (does inside s).made ≡ d.i = inside_is (mark_of s) (mark_of (does dt_expr s).state) d.i (does inside s).made d.made_is in
      let g : NoneExceeded (pushes (does inside s).made) =
      clear_first (does inside s).made done (clear_inside N.DtExpr (mark_of s) (mark_of (does dt_expr s).state) done ((does inside s).made ⧺ done) c) in
      let w : Cs.Cells d.i (drop_trivia l) = subst (λ (p : Skeleton). Cs.Cells p (drop_trivia l)) i (((plain inside refl s).makes_it h).cells g (drop_trivia l) (drop_twice l ∙ z)) in
      subst (λ (p : Skeleton). Cs.Cells p l) (sym d.made_is) (
        λ y. (
          refl,
          subst (CellOf (mark_of s) (mark_of (does dt_expr s).state) d.i) (sym z) d.cell,
          subst (λ (p : Skeleton). length (after p (drop_trivia l)) ≤ mark_of (does dt_expr s).state) i
              (exec_short n b inside s h (drop_trivia l) (drop_twice l ∙ z) (subst (λ (x : List Token). length x ≤ length s.since) (sym z) (drop_trivia_length s.since))),
        ),
        tt,
        w,
        tt,
      )

  cell_made : (s : State) (t : Token) (ts : List Token) → drop_trivia s.rest ≡ t ∷ ts → seen t ≡ K.LParen → Made s (does dt_expr s)
  unfolding dt_expr exec marked makes
  cell_made s t ts e k =
      let q : Stands s → Stands (does dt_expr s).state × Taking s (does dt_expr s).made (does dt_expr s).state =
      exec_kept Taking reads_kept (run n) (run_kept Taking reads_kept n) b dt_expr s in
      record {
        shape = refl;
        stands = λ h. (q h).0;
        makes_it = λ h. record { takes = (q h).1; cells = cell_celled s t ts e k h };
      }

  -- where an LParen was seen, a cell; else some other program
  seen_by : (s : State) (l : List Token) (x : Bool) → drop_trivia s.rest ≡ l → first_in (K.LParen ∷ []) l ≡ x → (p : Prog) → Fine p
      → Made s (choose (truth x) (does p) (does (dt_expr ⨟ tell yes)) (does (dt_expr ⨟ tell yes)) s)
  unfolding choose first_in exec
  seen_by s l false e g p f = f s
  seen_by s [] true e g p f = absurd (false≢true g)
  seen_by s (t ∷ ts) true e g p f =
      ran_add no_cell Celled celled s (does dt_expr s) (does (tell yes) (does dt_expr s).state) (cell_made s t ts e (test_one K.LParen (seen t) g))
      (ran_ret no_cell Celled celled 0 yes (does dt_expr s).state refl)

  fine_cell : (p : Prog) → Fine p → Fine (when silent (of_kind K.LParen) then dt_expr ⨟ tell yes else p)
  unfolding silent exec perform replies peeked only
  fine_cell p f s =
      let u = peeked s in
      let x = first_in (K.LParen ∷ []) u.rest in
      ran_add no_cell Celled celled s (replies (truth x) u) (choose (truth x) (does p) (does (dt_expr ⨟ tell yes)) (does (dt_expr ⨟ tell yes)) u)
      (plain (act (silent_at (K.LParen ∷ []))) refl s)
      (seen_by u u.rest x (drop_twice s.rest) refl p f)

  -- ---------------------------------------------------------------- `eat_cell`

  -- after the test for an LParen
  abbrev no_bracket : Bool → Prog
  no_bracket at_end =
      when eat_dts_include or eat_preprocessor_directive (Cell at_end) then tell yes
      else when silent (set OPERATORS_SET) and not! (at (of_kind K.RAngle)) then error_wrap E.msg_expected E.missing_parentheses ⨟ tell yes
      else tell no

  no_bracket_fine : (at_end : Bool) → Fine (no_bracket at_end)
  unfolding only eat_dts_include eat_preprocessor_directive silent at
  no_bracket_fine true = plain (no_bracket true) refl
  no_bracket_fine false = plain (no_bracket false) refl

  eat_cell_fine : (at_end : Bool) → Fine (eat_cell_body at_end)
  unfolding only eat_cell_body silent silent_eat macro_invocation Reference
  eat_cell_fine at_end =
      fine_seq (expected E.Cell) _ (plain (expected E.Cell) refl)
      (fine_case (silent_eat (set (K.Number ∷ K.Char ∷ []))) _ (tell yes) (tell yes) (plain (silent_eat (set (K.Number ∷ K.Char ∷ []))) refl)
      (fine_case (silent (of_kind K.Ident)) _ (macro_invocation ⨟ tell yes) (macro_invocation ⨟ tell yes) (plain (silent (of_kind K.Ident)) refl)
      (fine_case (silent_eat Reference) _ (tell yes) (tell yes) (plain (silent_eat Reference) refl) (fine_cell (no_bracket at_end) (no_bracket_fine at_end)) (plain (tell yes) refl) (plain (tell yes) refl))
      (plain (macro_invocation ⨟ tell yes) refl) (plain (macro_invocation ⨟ tell yes) refl))
      (plain (tell yes) refl) (plain (tell yes) refl))

-- ---------------------------------------------------------------- the grammar

-- every other function of the grammar completes no marker as a DtExpr: computed
abbrev Plain : Prog → Type 0
Plain p = only no_cell any_act p ≡ true

plain_item : Plain (grammar item)
unfolding only grammar
plain_item = refl

plain_values : (semicolon : Bool) → Plain (grammar (propvalues semicolon))
unfolding only grammar
plain_values true = refl
plain_values false = refl

plain_expr : (m : ℕ) → Plain (grammar (expr_binding_power m))
unfolding only grammar
plain_expr m = refl

plain_whole : (e : Entry) → Plain (whole e)
unfolding only whole
plain_whole SourceFile = refl
plain_whole ReferenceNoamp = refl
plain_whole PropValues = refl
plain_whole Cells = refl

-- every call
run_celled : (n : ℕ) (r : Rule) (s : State) → Made s (run n r s)
unfolding run makes grammar Cs.Cells
run_celled zero r s =
    record { shape = refl; stands = λ h. h; makes_it = λ h. record { takes = reads_kept.over s h; cells = λ c ts e. tt } }
run_celled (suc n) item s = plain n (run_celled n) no_label (grammar item) plain_item s
run_celled (suc n) (propvalues semicolon) s = plain n (run_celled n) no_label (grammar (propvalues semicolon)) (plain_values semicolon) s
run_celled (suc n) (eat_cell at_end) s = eat_cell_fine n (run_celled n) no_label at_end s
run_celled (suc n) (expr_binding_power m) s = plain n (run_celled n) no_label (grammar (expr_binding_power m)) (plain_expr m) s

-- EVERY DTEXPR of a whole run is a judged cell, if no limit was exceeded
pub entry_cells : (e : Entry) (ts : List Token) → NoneExceeded (pushes (run_entry e ts)) → Cs.Cells (run_entry e ts) ts
unfolding run_entry
entry_cells e ts c = ((plain MOST_OPEN_CALLS (run_celled MOST_OPEN_CALLS) no_label (whole e) (plain_whole e) (taken ts)).makes_it (stands_taken ts)).cells c ts refl
