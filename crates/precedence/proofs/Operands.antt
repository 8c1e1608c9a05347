-- `lhs`: an operand is read as the reader reads it.
use Prim.Native.Nat.{ℕ, ◌-◌}
use mathlib.Core.Path.{◌≡◌, refl, sym, ◌∙◌, ap, subst}
use mathlib.Core.Bool.{Bool, true, false, cond, true≢false}
use mathlib.Core.List.{List, [], ◌∷◌}
use borrow.Author.Tests.{eqb-true, eq-eqb}
use lib.Dec.{eqb}
use lib.ListN.{length}
use Rattle.definitions.specs.TokenKind as K
use Rattle.definitions.specs.NodeKind as N
use Rattle.definitions.specs.Errors as E
use Rattle.definitions.specs.Token.{Token, seen, drop_trivia, one_of, first_in}
use Rattle.definitions.specs.Prog.{Ans, no, yes, Rule, expr_binding_power, Prog, ret, ◌⨟◌, in_marker, open_call}
use Rattle.definitions.specs.Check.{tell, when◌then◌else◌, in_node, bump!, expected, error, error!, error_wrap!, of_kind, set, silent, at, expect}
use Rattle.definitions.specs.BindingPower.{prefix_power}
use Rattle.definitions.specs.Grammar.{macro_invocation, PREFIX_OPERATORS_SET, INFIX_BUT_TERNARY, lhs}
use Rattle.definitions.specs.Skeleton.{Label, Skeleton, done, token, ◌⧺◌}
use Rattle.definitions.specs.Run.{State, Out, mark_of, truth, makes, taken, add, closed, marked}
use Rattle.definitions.specs.C.{Symbol, symbols, Expr, bracketed, prefix}
use Rattle.definitions.specs.C as C
use Rattle.laws.proofs.Skeleton.{join_done}
use Rattle.laws.proofs.Kept.{Stands, stands_taken}
use Rattle.precedence.specs.Nodes.{one, expr_nodes}
use Rattle.precedence.proofs.Pratt.{Operand, prefixes, brackets, names, literals, nothing, operand, Res, refused, spent, Reader, bind, lhs_by}
use Rattle.precedence.proofs.Pratt as P
use Rattle.precedence.proofs.Symbols.{symbols_end, symbols_next, test_one, tail_next}
use Rattle.precedence.proofs.Rules.{pick, took, Onward, Ends, ends_map, ends_any, seq, branch, inside, ends_ret, test_seq, on_test, silent_is, loud_is, test_push_all, after_bump}
use Rattle.precedence.proofs.Follow.{Done, Noted, Follows, done_join, done_closed, done_token, noted_first, noted_second, noted_inside, noted_from, noted_at, follows_from, emit_first, Expected, found, missing, expects}
use Rattle.precedence.proofs.Invocation.{name_follows}

pub not_ident : (ks : List ℕ) (k : ℕ) → one_of ks k ≡ true → one_of ks K.Ident ≡ false → eqb k K.Ident ≡ false
not_ident ks k m z = go (eqb k K.Ident) refl
  where
    go : (x : Bool) → eqb k K.Ident ≡ x → x ≡ false
    go true e = absurd (true≢false (sym m ∙ ap (one_of ks) (eqb-true k K.Ident e) ∙ z))
    go false e = refl

-- what is made after the token t, together with it
module _ (s : State) (t : Token) (ts : List Token) (ahead : drop_trivia s.since ≡ t ∷ ts) where
  pub done_after : (p : Skeleton) (vs : List Symbol) (made : Skeleton) (u : State) → Done (taken ts) p vs made u
      → Done s (one ⧺ p) vs (token t (length ts) done ⧺ made) u
  done_after p vs made u d = done_join s (taken ts) u one p (symbols false ts) vs (token t (length ts) done) made (done_token s t ts ahead) d

  pub noted_after : (vs : List Symbol) (made : Skeleton) → Noted (taken ts) vs made → Noted s vs (token t (length ts) done ⧺ made)
  noted_after vs made n =
      noted_second s vs (token t (length ts) done) made (noted_from s (taken ts) vs made (tail_next s.since t ts ahead) n)

module _ (ask : Rule → State → Out) (b : Label) (rec : Reader)
    (below : (m : ℕ) (s : State) → Stands s → Ends ask b (open_call (expr_binding_power m)) s (Follows s expr_nodes (rec m (symbols false s.since)))) where
  module _ (s : State) (h : Stands s) (t : Token) (ts : List Token) (ahead : drop_trivia s.since ≡ t ∷ ts) where
    -- ---------------------------------------------------------------- a prefix operator

    prefix_by : (k : ℕ) (x : Res) (o : Out) → Follows (taken ts) expr_nodes x o
        → Ends ask b (pick o.ans (ret N.PrefixExpr no) (ret N.PrefixExpr yes) (ret N.PrefixExpr yes)) o.state
        (λ o'. Follows s expr_nodes (bind x (λ e vs. P.done (prefix k e) vs)) (marked s (add (took t ts) (add o o'))))
    unfolding marked makes add ◌⧺◌ closed
    prefix_by k (P.done e vs) o d =
        let c = done_closed (N.PrefixExpr - 1) (mark_of s) (mark_of o.state) s o.state (one ⧺ expr_nodes e) vs (token t (length ts) done ⧺ o.made)
        (done_after s t ts ahead (expr_nodes e) vs o.made o.state d.1) in
        rw d.0 (ends_ret ask b (refl, rw (join_done o.made) c))
    prefix_by k (P.report vs) o n =
        ends_any ask b
        λ o'.
        noted_inside s vs o'.shape (mark_of s) (mark_of o'.state) done (token t (length ts) done ⧺ (o.made ⧺ o'.made))
        (noted_after s t ts ahead vs (o.made ⧺ o'.made) (noted_first (taken ts) vs o.made o'.made n))
    prefix_by k refused o d = absurd d
    prefix_by k spent o d = ends_any ask b (λ o'. tt)

    prefix_follows : (k : ℕ)
        → Ends ask b (in_marker (bump! ⨟ when open_call (expr_binding_power prefix_power) then ret N.PrefixExpr yes else ret N.PrefixExpr no)) s
        (Follows s expr_nodes (lhs_by (prefixes k) rec (C.plain k) (symbols false ts)))
    prefix_follows k =
        inside ask b
        (after_bump ask b t ts h ahead (branch ask b (below prefix_power (taken ts) (stands_taken ts)) (prefix_by k (rec prefix_power (symbols false ts)))))

    -- ---------------------------------------------------------------- brackets

    -- the expression e was made, and then the bracket was expected
    close_by : (e : Expr) (vs : List Symbol) (o : Out) → Done (taken ts) (expr_nodes e) vs o.made o.state
        → (a : Ans) → a ≡ yes → (o' : Out) → Expected ask b K.RParen refl o.state o'
        → Follows s expr_nodes (P.expect K.RParen vs (λ ws. P.done (bracketed e) ws))
        (marked s (add (took t ts) (add o (add o' (record { ans = a; shape = N.ParenExpr; made = done; state = o'.state })))))
    unfolding marked makes add ◌⧺◌ closed
    close_by e vs o d a y o' (found t' ts' z p f) =
        let q : Done o.state one (symbols false ts') o'.made o'.state = rw p (done_token o.state t' ts' z) in
        let r = done_after s t ts ahead (expr_nodes e ⧺ one) (symbols false ts') (o.made ⧺ o'.made) o'.state
        (done_join (taken ts) o.state o'.state (expr_nodes e) one vs (symbols false ts') o.made o'.made d q) in
        let c = done_closed (N.ParenExpr - 1) (mark_of s) (mark_of o'.state) s o'.state (one ⧺ expr_nodes e ⧺ one) (symbols false ts') (token t (length ts) done ⧺ (o.made ⧺ o'.made)) r in
        let g : P.expect K.RParen vs (λ ws. P.done (bracketed e) ws) ≡ P.done (bracketed e) (symbols false ts') =
        ap (λ (l : List Symbol). P.expect K.RParen l (λ ws. P.done (bracketed e) ws)) (sym d.left) ∙ f (λ ws. P.done (bracketed e) ws) in
        rw g (y, rw (join_done o'.made) c)
    close_by e vs o d a y o' (missing x n f) =
        let g : P.expect K.RParen vs (λ ws. P.done (bracketed e) ws) ≡ P.report vs =
        ap (λ (l : List Symbol). P.expect K.RParen l (λ ws. P.done (bracketed e) ws)) (sym d.left) ∙ f (λ ws. P.done (bracketed e) ws) ∙ ap P.report d.left in
        let m : Noted (taken ts) vs o'.made =
        noted_from (taken ts) o.state vs o'.made d.tail (subst (λ (l : List Symbol). Noted o.state l o'.made) d.left n) in
        rw g
        (noted_inside s vs N.ParenExpr (mark_of s) (mark_of o'.state) done (token t (length ts) done ⧺ (o.made ⧺ (o'.made ⧺ done)))
        (noted_after s t ts ahead vs (o.made ⧺ (o'.made ⧺ done))
        (noted_second (taken ts) vs o.made (o'.made ⧺ done) (noted_first (taken ts) vs o'.made done m))))

    abbrev close : Ans → Prog
    close a = expect (of_kind K.RParen) ⨟ ret N.ParenExpr a

    bracket_by : (x : Res) (o : Out) → Follows (taken ts) expr_nodes x o
        → Ends ask b (pick o.ans (close no) (close yes) (close yes)) o.state
        (λ o'. Follows s expr_nodes (bind x (λ e vs. P.expect K.RParen vs (λ ws. P.done (bracketed e) ws))) (marked s (add (took t ts) (add o o'))))
    unfolding marked makes add closed
    bracket_by (P.done e vs) o d =
        rw d.0 (seq ask b (expects ask b K.RParen refl o.state d.1.stands) (λ o' p. ends_ret ask b (close_by e vs o d.1 yes refl o' p)))
    bracket_by (P.report vs) o n =
        ends_any ask b
        λ o'.
        noted_inside s vs o'.shape (mark_of s) (mark_of o'.state) done (token t (length ts) done ⧺ (o.made ⧺ o'.made))
        (noted_after s t ts ahead vs (o.made ⧺ o'.made) (noted_first (taken ts) vs o.made o'.made n))
    bracket_by refused o d = absurd d
    bracket_by spent o d = ends_any ask b (λ o'. tt)

    bracket_follows : Ends ask b (in_marker (bump! ⨟ when open_call (expr_binding_power 0) then close yes else close no)) s
        (Follows s expr_nodes (lhs_by brackets rec (C.plain K.LParen) (symbols false ts)))
    bracket_follows =
        inside ask b (after_bump ask b t ts h ahead (branch ask b (below 0 (taken ts) (stands_taken ts)) (bracket_by (rec 0 (symbols false ts)))))

    -- ---------------------------------------------------------------- a literal

    literal_follows : (k : ℕ) → Ends ask b (in_node N.LiteralExpr bump!) s (Follows s expr_nodes (lhs_by (literals k) rec (C.plain k) (symbols false ts)))
    unfolding marked makes add ◌⧺◌ closed
    literal_follows k =
        inside ask b
        (after_bump ask b t ts h ahead
        (ends_ret ask b (refl, done_closed (N.LiteralExpr - 1) (mark_of s) (mark_of (taken ts)) s (taken ts) one (symbols false ts) (token t (length ts) done) (done_token s t ts ahead))))

  -- ---------------------------------------------------------------- no operand

  -- `lhs` after its tests for an operand
  abbrev no_operand : Prog
  no_operand =
      when expected E.InfixOperator ⨟ silent (set INFIX_BUT_TERNARY) then
      error E.msg_expected E.missing_left_side ⨟ in_node N.ParseError (bump! ⨟ open_call (expr_binding_power 0)) ⨟ tell no
      else when silent (of_kind K.RParen) then error! ⨟ tell no
      else error_wrap! ⨟ tell no

  -- each way begins with a report
  wrong_by : (s : State) (x : Bool) → Onward s (λ to. Ends ask b (pick (truth x) (error_wrap! ⨟ tell no) (error! ⨟ tell no) (error! ⨟ tell no)) to
      (λ o. Noted s (symbols false s.since) o.made))
  unfolding add
  wrong_by s true to st si = ends_map ask b (emit_first ask b) (λ o n. noted_at s to o.made si n)
  wrong_by s false to st si =
      seq ask b (emit_first ask b)
      (λ o n. ends_any ask b (λ o'. noted_first s (symbols false s.since) o.made o'.made (noted_at s to o.made si n)))

  missing_by : (s : State) (x : Bool) → Onward s (λ to.
      Ends ask b
      (pick (truth x) (when silent (of_kind K.RParen) then error! ⨟ tell no else error_wrap! ⨟ tell no)
      (error E.msg_expected E.missing_left_side ⨟ in_node N.ParseError (bump! ⨟ open_call (expr_binding_power 0)) ⨟ tell no)
      (error E.msg_expected E.missing_left_side ⨟ in_node N.ParseError (bump! ⨟ open_call (expr_binding_power 0)) ⨟ tell no)) to
      (λ o. Noted s (symbols false s.since) o.made))
  unfolding silent
  missing_by s true to st si = ends_map ask b (emit_first ask b) (λ o n. noted_at s to o.made si n)
  missing_by s false to st si =
      on_test ask b (silent_is ask b (drop_trivia to.since) (first_in (K.RParen ∷ []) (drop_trivia to.since)) st refl refl)
      (λ to' st' si'. wrong_by s (first_in (K.RParen ∷ []) (drop_trivia to.since)) to' st' (si' ∙ si))

  no_operand_notes : (s : State) → Stands s → Ends ask b no_operand s (λ o. Noted s (symbols false s.since) o.made)
  unfolding silent
  no_operand_notes s h =
      let x = first_in INFIX_BUT_TERNARY (drop_trivia s.since) in
      on_test ask b (loud_is ask b (drop_trivia s.since) x h refl refl) (missing_by s x)

  -- ---------------------------------------------------------------- the tests, one after the other

  -- `lhs` from its second test on, and so forth
  abbrev from_literal : Prog
  from_literal = when at (set (K.Number ∷ K.Char ∷ [])) then in_node N.LiteralExpr bump! else no_operand

  abbrev from_name : Prog
  from_name = when at (of_kind K.Ident) then macro_invocation ⨟ tell yes else from_literal

  abbrev from_bracket : Prog
  from_bracket =
      when at (of_kind K.LParen) then in_marker (bump! ⨟ when open_call (expr_binding_power 0) then expect (of_kind K.RParen) ⨟ ret N.ParenExpr yes else expect (of_kind K.RParen) ⨟ ret N.ParenExpr no)
      else from_name

  -- what the reader makes of the first of l, from its second test on, and so forth
  abbrev literal_of : List Token → ℕ → Operand
  literal_of l k = cond (first_in (K.Number ∷ K.Char ∷ []) l) (literals k) nothing

  abbrev name_of : List Token → ℕ → Operand
  name_of l k = cond (first_in (K.Ident ∷ []) l) names (literal_of l k)

  abbrev bracket_of : List Token → ℕ → Operand
  bracket_of l k = cond (first_in (K.LParen ∷ []) l) brackets (name_of l k)

  abbrev operand_at : List Token → ℕ → Operand
  operand_at l k = cond (first_in PREFIX_OPERATORS_SET l) (prefixes k) (bracket_of l k)

  module _ (t : Token) (ts : List Token) where
    abbrev us : List Symbol
    us = symbols (eqb (seen t) K.Ident) ts

    abbrev Read : Prog → Operand → Type 0
    Read p y = (s : State) → Stands s → drop_trivia s.since ≡ t ∷ ts → Ends ask b p s (Follows s expr_nodes (lhs_by y rec (C.plain (seen t)) us))

    -- from the state that the test leaves on
    read_on : (s : State) (p : Prog) (y : Operand) → drop_trivia s.since ≡ t ∷ ts → Read p y
        → Onward s (λ to. Ends ask b p to (Follows s expr_nodes (lhs_by y rec (C.plain (seen t)) us)))
    read_on s p y e r to st si =
        ends_map ask b (r to st (ap drop_trivia si ∙ e)) (λ o d. follows_from s to expr_nodes si (lhs_by y rec (C.plain (seen t)) us) o d)

    -- the symbols after a token of a set without Ident
    us_plain : (ks : List ℕ) → one_of ks K.Ident ≡ false → one_of ks (seen t) ≡ true → us ≡ symbols false ts
    us_plain ks z m = ap (λ (x : Bool). symbols x ts) (not_ident ks (seen t) m z)

    read_literal : (x : Bool) → first_in (K.Number ∷ K.Char ∷ []) (t ∷ ts) ≡ x → Read from_literal (cond x (literals (seen t)) nothing)
    unfolding at first_in one_of
    read_literal true g s h e =
        on_test ask b (test_seq ask b (test_push_all ask b (K.Number ∷ K.Char ∷ []) h) (λ to st si. silent_is ask b (t ∷ ts) true st (ap drop_trivia si ∙ e) g))
        (read_on s (in_node N.LiteralExpr bump!) (literals (seen t)) e
        (λ to st si. rw (us_plain (K.Number ∷ K.Char ∷ []) refl g) (literal_follows to st t ts si (seen t))))
    read_literal false g s h e =
        on_test ask b (test_seq ask b (test_push_all ask b (K.Number ∷ K.Char ∷ []) h) (λ to st si. silent_is ask b (t ∷ ts) false st (ap drop_trivia si ∙ e) g))
        (read_on s no_operand nothing e (λ to st si. rw (← (symbols_next to.since t ts si)) (no_operand_notes to st)))

    read_name : (x : Bool) → first_in (K.Ident ∷ []) (t ∷ ts) ≡ x → Read from_name (cond x names (literal_of (t ∷ ts) (seen t)))
    unfolding at first_in
    read_name true g s h e =
        on_test ask b (loud_is ask b (t ∷ ts) true h e g)
        (read_on s (macro_invocation ⨟ tell yes) names e
        (λ to st si. rw (eq-eqb (seen t) K.Ident (test_one K.Ident (seen t) g)) (name_follows ask b to st t ts si)))
    read_name false g s h e =
        on_test ask b (loud_is ask b (t ∷ ts) false h e g)
        (read_on s from_literal (literal_of (t ∷ ts) (seen t)) e (read_literal (first_in (K.Number ∷ K.Char ∷ []) (t ∷ ts)) refl))

    read_bracket : (x : Bool) → first_in (K.LParen ∷ []) (t ∷ ts) ≡ x → Read from_bracket (cond x brackets (name_of (t ∷ ts) (seen t)))
    unfolding at first_in one_of
    read_bracket true g s h e =
        on_test ask b (loud_is ask b (t ∷ ts) true h e g)
        (read_on s _ brackets e (λ to st si. rw (us_plain (K.LParen ∷ []) refl g) (bracket_follows to st t ts si)))
    read_bracket false g s h e =
        on_test ask b (loud_is ask b (t ∷ ts) false h e g)
        (read_on s from_name (name_of (t ∷ ts) (seen t)) e (read_name (first_in (K.Ident ∷ []) (t ∷ ts)) refl))

    read_prefix : (x : Bool) → first_in PREFIX_OPERATORS_SET (t ∷ ts) ≡ x → Read lhs (cond x (prefixes (seen t)) (bracket_of (t ∷ ts) (seen t)))
    unfolding lhs silent first_in one_of
    read_prefix true g s h e =
        on_test ask b (loud_is ask b (t ∷ ts) true h e g)
        (read_on s _ (prefixes (seen t)) e (λ to st si. rw (us_plain PREFIX_OPERATORS_SET refl g) (prefix_follows to st t ts si (seen t))))
    read_prefix false g s h e =
        on_test ask b (loud_is ask b (t ∷ ts) false h e g)
        (read_on s from_bracket (bracket_of (t ∷ ts) (seen t)) e (read_bracket (first_in (K.LParen ∷ []) (t ∷ ts)) refl))

  -- at the end of the input no test passes
  end_follows : (s : State) → Stands s → drop_trivia s.since ≡ [] → Ends ask b lhs s (Follows s expr_nodes (P.lhs rec (symbols false s.since)))
  unfolding lhs silent at first_in
  end_follows s h e =
      rw (symbols_end s.since e)
      (on_test ask b (loud_is ask b [] false h e refl) λ s₁ st₁ si₁.
      on_test ask b (loud_is ask b [] false st₁ (ap drop_trivia si₁ ∙ e) refl) λ s₂ st₂ si₂.
      on_test ask b (loud_is ask b [] false st₂ (ap drop_trivia (si₂ ∙ si₁) ∙ e) refl) λ s₃ st₃ si₃.
      on_test ask b
      (test_seq ask b (test_push_all ask b (K.Number ∷ K.Char ∷ []) st₃) (λ to st si. silent_is ask b [] false st (ap drop_trivia (si ∙ si₃ ∙ si₂ ∙ si₁) ∙ e) refl))
      λ s₄ st₄ si₄.
      let i = si₄ ∙ si₃ ∙ si₂ ∙ si₁ in
      ends_map ask b (no_operand_notes s₄ st₄)
      (λ o n. subst (λ (vs : List Symbol). Noted s vs o.made) (symbols_end s.since e) (noted_at s s₄ o.made i n)))

  -- `lhs` does what the reader's does
  pub lhs_follows : (s : State) → Stands s → Ends ask b lhs s (Follows s expr_nodes (P.lhs rec (symbols false s.since)))
  unfolding operand first_in
  lhs_follows s h = go (drop_trivia s.since) refl
    where
      go : (l : List Token) → drop_trivia s.since ≡ l → Ends ask b lhs s (Follows s expr_nodes (P.lhs rec (symbols false s.since)))
      go [] e = end_follows s h e
      go (t ∷ ts) e = rw (symbols_next s.since t ts e) (read_prefix t ts (first_in PREFIX_OPERATORS_SET (t ∷ ts)) refl s h e)
