-- A macro invocation: its name, its brackets, and the arguments between them.
use Prim.Native.Nat.{ℕ, ◌-◌}
use native.Mathlib.Omega.{arith}
use mathlib.Core.Path.{◌≡◌, refl, sym, ◌∙◌, ap, subst}
use mathlib.Core.Bool.{Bool, true, false, not, true≢false, false≢true}
use mathlib.Core.List.{List, [], ◌∷◌}
use lib.Dec.{eqb}
use lib.ListN.{length}
use Rattle.definitions.specs.TokenKind as K
use Rattle.definitions.specs.NodeKind as N
use Rattle.definitions.specs.Token.{Token, seen, drop_trivia, one_of, first_in}
use Rattle.definitions.specs.Prog.{no, yes, Rule, immediate, add_expected, Prog, act, ◌⨟◌, case, loop}
use Rattle.definitions.specs.Check.{tell, not!, bump!, of_kind, at, expect}
use Rattle.definitions.specs.Grammar.{macro_argument_turn, macro_invocation}
use Rattle.definitions.specs.Skeleton.{Label, Skeleton, done, token, ◌⧺◌}
use Rattle.definitions.specs.Run.{State, Out, mark_of, truth, replies, makes, taken, add, do_expected, perform, closed as closed_marker, marked, exec}
use Rattle.definitions.specs.C.{Symbol, symbols}
use Rattle.definitions.specs.C as C
use Rattle.laws.proofs.Trivia.{drop_none}
use Rattle.laws.proofs.Skeleton.{join_done}
use Rattle.laws.proofs.Kept.{Stands, expecting, stands_taken}
use Rattle.precedence.specs.Nodes.{one, nodes, argument, split, argument_list, expr_nodes}
use Rattle.precedence.proofs.Pratt.{Res, Args, closed, unclosed, args, invoked, named}
use Rattle.precedence.proofs.Pratt as P
use Rattle.precedence.proofs.Sound.{ArgsOf, args_of}
use Rattle.precedence.proofs.Pushed.{quiet_done}
use Rattle.precedence.proofs.Same.{same_refl}
use Rattle.precedence.proofs.Symbols.{symbols_end, symbols_next, symbols_past, symbols_arguments, symbols_apart, bracket_solid, test_one, Tail, tail_refl, tail_next}
use Rattle.precedence.proofs.Rules.{pick, took, Onward, Ends, ends_map, seq, inside, ends_ret, Tests, test_case, on_test, loud_is, test_tell, after_bump}
use Rattle.precedence.proofs.Follow.{Done, Noted, Follows, done_join, done_closed, done_token, done_from, noted_second, noted_inside, noted_from, Expected, found, missing, expects}
use Rattle.precedence.proofs.Arguments.{Ended, Looped, arguments_loop}

module _ (ask : Rule → State → Out) (b : Label) where
  -- ---------------------------------------------------------------- what stands between the brackets

  abbrev Listed : State → Args → Out → Type 0
  Listed s (closed xs vs) o = Done s (argument_list xs) (C.plain K.RParen ∷ vs) o.made o.state
  Listed s unclosed o = Ended s o.state

  -- whether the bracket follows at once
  not_close : (s : State) (l : List Token) (x : Bool) → Stands s → drop_trivia s.since ≡ l → first_in (K.RParen ∷ []) l ≡ x
      → Tests ask b (not! (at (of_kind K.RParen))) s (truth (not x))
  unfolding at
  not_close s l x h e g =
      test_case ask b (loud_is ask b l x h e g) (by x)
    where
      by : (y : Bool) → Onward s (λ to. Tests ask b (pick (truth y) (tell yes) (tell no) (tell no)) to (truth (not y)))
      by true to st si = test_tell ask b st
      by false to st si = test_tell ask b st

  -- at once: no argument
  listed_none : (s : State) (t : Token) (ts : List Token) → drop_trivia s.since ≡ t ∷ ts → seen t ≡ K.RParen → (to : State) → Stands to → to.since ≡ s.since
      → Listed s (args (symbols false s.since) 0) (record { ans = yes; shape = 0; made = done; state = to })
  listed_none s t ts e k to st si =
      let z : symbols false s.since ≡ C.plain K.RParen ∷ symbols false ts =
      symbols_past s.since t ts e (ap (λ (j : ℕ). eqb j K.Ident) k) ∙ ap (λ (j : ℕ). C.plain j ∷ symbols false ts) k in
      rw z
      (record {
        same = same_refl done;
        quiet = quiet_done;
        stands = st;
        left = ap (symbols false) si ∙ z;
        tail = subst (λ (r : List Token). Tail r s.since) (sym si) (tail_refl s.since);
      })

  -- not at once: at least one
  listed_some : (s : State) (l : List Token) → drop_trivia s.since ≡ l → first_in (K.RParen ∷ []) l ≡ false → (y : Args) → args (symbols false s.since) 0 ≡ y
      → (o : Out) → Looped s y o → Listed s y o
  unfolding first_in one_of
  listed_some s l e g (closed (x ∷ xs) vs) h o d = d
  listed_some s [] e g (closed [] vs) h o d =
      let z : args [] 0 ≡ closed [] vs = subst (λ (us : List Symbol). args us 0 ≡ closed [] vs) (symbols_end s.since e) h in
      let w : ◌≡◌ {A = ℕ} 0 1 = cc in
      absurd (omega arith)
  listed_some s (t ∷ ts) e g (closed [] vs) h o d =
      let z : symbols false s.since ≡ C.plain K.RParen ∷ vs = (subst (ArgsOf (symbols false s.since) 0) h (args_of (symbols false s.since) 0)).0 in
      let w : C.plain (seen t) ≡ C.plain K.RParen = cc (symbols_next s.since t ts e) in
      let k : seen t ≡ K.RParen = cc in
      absurd (true≢false (sym (ap (λ (j : ℕ). one_of (K.RParen ∷ []) j) k) ∙ g))
  listed_some s l e g unclosed h o d = d

  looped_from : (s to : State) → to.since ≡ s.since → (y : Args) (o : Out) → Looped to y o → Looped s y o
  looped_from s to e (closed xs vs) o d = done_from s to o.state (argument (split xs 0)) (C.plain K.RParen ∷ vs) o.made e d
  looped_from s to e unclosed o d = record { stands = d.stands; left = d.left; tail = subst (Tail o.state.since) e d.tail }

  between_by : (s : State) (l : List Token) (x : Bool) → Stands s → drop_trivia s.since ≡ l → first_in (K.RParen ∷ []) l ≡ x
      → Ends ask b (case (not! (at (of_kind K.RParen))) (tell yes) (loop macro_argument_turn) (loop macro_argument_turn)) s (Listed s (args (symbols false s.since) 0))
  unfolding first_in
  between_by s [] true h e g = absurd (false≢true g)
  between_by s (t ∷ ts) true h e g =
      on_test ask b (not_close s (t ∷ ts) true h e g)
      (λ to st si. ends_ret ask b (listed_none s t ts e (test_one K.RParen (seen t) g) to st si))
  between_by s l false h e g =
      on_test ask b (not_close s l false h e g)
      λ to st si.
      ends_map ask b (arguments_loop ask b to st)
      λ o p.
      listed_some s l e g (args (symbols false s.since) 0) refl o
      (looped_from s to si (args (symbols false s.since) 0) o (subst (λ (r : List Token). Looped to (args (symbols false r) 0) o) si p))

  between : (s : State) → Stands s
      → Ends ask b (case (not! (at (of_kind K.RParen))) (tell yes) (loop macro_argument_turn) (loop macro_argument_turn)) s (Listed s (args (symbols false s.since) 0))
  between s h = between_by s (drop_trivia s.since) (first_in (K.RParen ∷ []) (drop_trivia s.since)) h refl refl

  -- ---------------------------------------------------------------- the bracket that closes

  abbrev Bracketed : State → Args → Out → Type 0
  Bracketed s (closed xs vs) o = Done s (argument_list xs ⧺ one) vs o.made o.state
  Bracketed s unclosed o = Noted s [] o.made

  -- the reader finds the bracket where it stands
  close_found : (us vs : List Symbol) → us ≡ C.plain K.RParen ∷ vs → (ws : List Symbol) → ((f : List Symbol → Res) → P.expect K.RParen us f ≡ f ws) → ws ≡ vs
  unfolding P.is one_of
  close_found us vs e ws h =
      let z : P.expect K.RParen us (λ zs. P.report zs) ≡ P.report vs = ap (λ (l : List Symbol). P.expect K.RParen l (λ zs. P.report zs)) e in
      let w : P.report ws ≡ P.report vs = sym (h (λ zs. P.report zs)) ∙ z in
      cc

  close_not_missing : (us vs : List Symbol) → us ≡ C.plain K.RParen ∷ vs → ((f : List Symbol → Res) → P.expect K.RParen us f ≡ P.report us) → ⊥
  unfolding P.is one_of
  close_not_missing us vs e h =
      let z : P.expect K.RParen us (λ zs. P.spent) ≡ P.spent = ap (λ (l : List Symbol). P.expect K.RParen l (λ zs. P.spent)) e in
      let w : P.report us ≡ P.spent = sym (h (λ zs. P.spent)) ∙ z in
      let n : ◌≡◌ {A = ℕ} 0 1 = cc in
      omega arith

  end_not_found : (us ws : List Symbol) → us ≡ [] → ((f : List Symbol → Res) → P.expect K.RParen us f ≡ f ws) → ⊥
  end_not_found us ws e h =
      let z : P.expect K.RParen us (λ zs. P.spent) ≡ P.report [] = ap (λ (l : List Symbol). P.expect K.RParen l (λ zs. P.spent)) e in
      let w : P.spent ≡ P.report [] = sym (h (λ zs. P.spent)) ∙ z in
      let n : ◌≡◌ {A = ℕ} 0 1 = cc in
      omega arith

  bracket_by : (s : State) (y : Args) (o : Out) → Listed s y o → (o' : Out) → Expected ask b K.RParen refl o.state o' → Bracketed s y (add o o')
  unfolding add makes
  bracket_by s (closed xs vs) o d o' (found t ts e p h) =
      let t-done : Done o.state one vs o'.made o'.state =
      rw (p, ← (close_found (symbols false o.state.since) vs d.left (symbols false ts) h)) (done_token o.state t ts e) in
      done_join s o.state o'.state (argument_list xs) one (C.plain K.RParen ∷ vs) vs o.made o'.made d t-done
  bracket_by s (closed xs vs) o d o' (missing a n h) = absurd (close_not_missing (symbols false o.state.since) vs d.left h)
  bracket_by s unclosed o d o' (found t ts e p h) = absurd (end_not_found (symbols false o.state.since) (symbols false ts) d.left h)
  bracket_by s unclosed o d o' (missing a n h) =
      noted_second s [] o.made o'.made
      (noted_from s o.state [] o'.made d.tail (subst (λ (vs : List Symbol). Noted o.state vs o'.made) d.left n))

  listed_stands : (s : State) (y : Args) (o : Out) → Listed s y o → Stands o.state
  listed_stands s (closed xs vs) o d = d.stands
  listed_stands s unclosed o d = d.stands

  bracketed : (s : State) → Stands s
      → Ends ask b (case (not! (at (of_kind K.RParen))) (tell yes) (loop macro_argument_turn) (loop macro_argument_turn) ⨟ expect (of_kind K.RParen)) s
      (Bracketed s (args (symbols false s.since) 0))
  bracketed s h =
      seq ask b (between s h)
      λ o d.
      ends_map ask b (expects ask b K.RParen refl o.state (listed_stands s (args (symbols false s.since) 0) o d))
      (bracket_by s (args (symbols false s.since) 0) o d)

  -- ---------------------------------------------------------------- the name

  -- a bracket directly after the name, nothing having been peeked yet
  glued : (ts : List Token) (x : Bool) → first_in (K.LParen ∷ []) ts ≡ x
      → Tests ask b (act (add_expected K.LParen) ⨟ act (immediate K.LParen)) (taken ts) (truth x)
  unfolding exec add replies perform do_expected ◌⧺◌
  glued ts x g =
      let u = expecting (taken ts) K.LParen in
      record { to = u; is = ap (λ (y : Bool). replies (truth y) u) g; stands = record { passed = (stands_taken ts).passed }; since_is = refl }

  -- after the name: e is made of it and of p
  abbrev Behind : State → Res → Out → Type 0
  Behind s (P.done e vs) o = (p : Skeleton) × (expr_nodes e ≡ nodes N.MacroInvocation (one ⧺ p)) × Done s p vs o.made o.state
  Behind s (P.report vs) o = Noted s vs o.made
  Behind s P.refused o = ⊥
  Behind s P.spent o = Unit {0}

  name_alone : (ts : List Token) → named (symbols false ts) ≡ P.done C.name (symbols false ts)
  name_alone ts = go (drop_trivia ts) refl
    where
      go : (l : List Token) → drop_trivia ts ≡ l → named (symbols false ts) ≡ P.done C.name (symbols false ts)
      go [] e = rw (symbols_end ts e)
      go (t ∷ us) e = rw (symbols_next ts t us e)

  after_alone : (ts : List Token) → first_in (K.LParen ∷ []) ts ≡ false → (to : State) → Stands to → to.since ≡ ts
      → Behind (taken ts) (named (symbols true ts)) (record { ans = yes; shape = 0; made = done; state = to })
  unfolding ◌⧺◌
  after_alone ts g to st si =
      rw (symbols_apart ts g, name_alone ts) (
        done,
        refl,
        record {
          same = same_refl done;
          quiet = quiet_done;
          stands = st;
          left = ap (symbols false) si;
          tail = subst (λ (r : List Token). Tail r ts) (sym si) (tail_refl ts);
        },
      )

  -- the brackets, after the opening one
  after_args : (t : Token) (ts : List Token) (s : State) → drop_trivia s.since ≡ t ∷ ts → (y : Args) (o : Out) → Bracketed (taken ts) y o
      → Behind s (invoked y) (add (took t ts) o)
  unfolding add makes ◌⧺◌
  after_args t ts s e (closed xs vs) o d = (
    one ⧺ (argument_list xs ⧺ one),
    refl,
    done_join s (taken ts) o.state one (argument_list xs ⧺ one) (symbols false ts) vs (token t (length ts) done) o.made (done_token s t ts e) d,
  )
  after_args t ts s e unclosed o n =
      noted_second s [] (token t (length ts) done) o.made (noted_from s (taken ts) [] o.made (tail_next s.since t ts e) n)

  after_from : (s to : State) → to.since ≡ s.since → (x : Res) (o : Out) → Behind to x o → Behind s x o
  after_from s to e (P.done f vs) o d = (d.0, d.1, done_from s to o.state d.0 vs o.made e d.2)
  after_from s to e (P.report vs) o n = noted_from s to vs o.made (rw e (tail_refl s.since)) n
  after_from s to e P.refused o d = d
  after_from s to e P.spent o d = tt

  -- what stands after a name
  abbrev after_name : Prog
  after_name =
      case (act (add_expected K.LParen) ⨟ act (immediate K.LParen)) (tell yes)
      (bump! ⨟ (case (not! (at (of_kind K.RParen))) (tell yes) (loop macro_argument_turn) (loop macro_argument_turn) ⨟ expect (of_kind K.RParen)))
      (bump! ⨟ (case (not! (at (of_kind K.RParen))) (tell yes) (loop macro_argument_turn) (loop macro_argument_turn) ⨟ expect (of_kind K.RParen)))

  after_by : (ts : List Token) (x : Bool) → first_in (K.LParen ∷ []) ts ≡ x → Ends ask b after_name (taken ts) (Behind (taken ts) (named (symbols true ts)))
  unfolding first_in
  after_by ts false g = on_test ask b (glued ts false g) (λ to st si. ends_ret ask b (after_alone ts g to st si))
  after_by [] true g = absurd (false≢true g)
  after_by (t ∷ ts) true g =
      let solid : drop_trivia (t ∷ ts) ≡ t ∷ ts = drop_none t ts (bracket_solid t (test_one K.LParen (seen t) g)) in
      on_test ask b (glued (t ∷ ts) true g)
      λ to st si.
      let e : drop_trivia to.since ≡ t ∷ ts = ap drop_trivia si ∙ solid in
      after_bump ask b t ts st e
      (ends_map ask b (bracketed (taken ts) (stands_taken ts))
      λ o d.
      after_from (taken (t ∷ ts)) to si (named (symbols true (t ∷ ts))) (add (took t ts) o)
      (rw (symbols_arguments t ts g) (after_args t ts to e (args (symbols false ts) 0) o d)))

  -- the name and what stands after it: e's node has the children p
  abbrev Named : State → Res → Out → Type 0
  Named s (P.done e vs) o = (p : Skeleton) × (expr_nodes e ≡ nodes N.MacroInvocation p) × Done s p vs o.made o.state
  Named s (P.report vs) o = Noted s vs o.made
  Named s P.refused o = ⊥
  Named s P.spent o = Unit {0}

  named_by : (s : State) (t : Token) (ts : List Token) → drop_trivia s.since ≡ t ∷ ts → (x : Res) (o : Out) → Behind (taken ts) x o
      → Named s x (add (took t ts) o)
  unfolding add makes
  named_by s t ts e (P.done f vs) o d = (
    one ⧺ d.0,
    d.1,
    done_join s (taken ts) o.state one d.0 (symbols false ts) vs (token t (length ts) done) o.made (done_token s t ts e) d.2,
  )
  named_by s t ts e (P.report vs) o n =
      noted_second s vs (token t (length ts) done) o.made (noted_from s (taken ts) vs o.made (tail_next s.since t ts e) n)
  named_by s t ts e P.refused o d = d
  named_by s t ts e P.spent o d = tt

  -- its node, and the answer
  abbrev answered : State → Out → Out
  answered s o =
      add (marked s (add o (record { ans = yes; shape = N.MacroInvocation; made = done; state = o.state })))
      (record { ans = yes; shape = 0; made = done; state = o.state })

  node_of : (s : State) (x : Res) (o : Out) → Named s x o → Follows s expr_nodes x (answered s o)
  unfolding add marked makes closed_marker ◌⧺◌
  node_of s (P.done e vs) o d =
      let c : Done s (nodes N.MacroInvocation d.0) vs (closed_marker N.MacroInvocation (mark_of s) (mark_of o.state) done o.made) o.state =
      done_closed (N.MacroInvocation - 1) (mark_of s) (mark_of o.state) s o.state d.0 vs o.made d.2 in
      (refl, rw (d.1, join_done o.made) c)
  node_of s (P.report vs) o n = rw (join_done o.made) (noted_inside s vs N.MacroInvocation (mark_of s) (mark_of o.state) done o.made n)
  node_of s P.refused o d = d
  node_of s P.spent o d = tt

  node_follows : (s : State) → Stands s → (t : Token) (ts : List Token) → drop_trivia s.since ≡ t ∷ ts
      → Ends ask b macro_invocation s (λ o. Follows s expr_nodes (named (symbols true ts)) (add o (record { ans = yes; shape = 0; made = done; state = o.state })))
  unfolding macro_invocation marked makes add
  node_follows s h t ts e =
      let x = named (symbols true ts) in
      let name : Ends ask b (bump! ⨟ after_name) s (Named s x) =
      after_bump ask b t ts h e (ends_map ask b (after_by ts (first_in (K.LParen ∷ []) ts) refl) (named_by s t ts e x)) in
      inside ask b (seq ask b name (λ o d. ends_ret ask b (node_of s x o d)))

  -- an Ident where an operand is due
  pub name_follows : (s : State) → Stands s → (t : Token) (ts : List Token) → drop_trivia s.since ≡ t ∷ ts
      → Ends ask b (macro_invocation ⨟ tell yes) s (Follows s expr_nodes (named (symbols true ts)))
  name_follows s h t ts e = seq ask b (node_follows s h t ts e) (λ o d. ends_ret ask b d)
