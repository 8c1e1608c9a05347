-- The arguments of a macro invocation: a node for each, and the loop over them.
use Prim.Native.Nat.{ℕ, zero, suc, ◌<◌}
use native.Mathlib.Omega.{arith}
use mathlib.Core.Path.{◌≡◌, refl, sym, ◌∙◌, ap, subst}
use mathlib.Core.Logic.{◌⊎◌, inl, inr}
use mathlib.Core.Bool.{Bool, true, false, cond}
use mathlib.Core.List.{List, [], ◌∷◌}
use borrow.Author.Tests.{lt-ltb}
use lib.ListN.{length}
use Rattle.definitions.specs.TokenKind as K
use Rattle.definitions.specs.NodeKind as N
use Rattle.definitions.specs.Token.{Token, drop_trivia}
use Rattle.definitions.specs.Prog.{Ans, no, yes, again, Rule, bump_argument, ret, act, ◌⨟◌, case, in_marker, loop}
use Rattle.definitions.specs.Check.{tell, bump! }
use Rattle.definitions.specs.Grammar.{macro_argument_turn}
use Rattle.definitions.specs.Skeleton.{Label, Skeleton, done, token, ◌⧺◌}
use Rattle.definitions.specs.Run.{State, Out, mark_of, makes, taken, add, perform, closed as closed_marker, marked, is_again, goes_on, iter, exec}
use Rattle.definitions.specs.Report.{pushes}
use Rattle.definitions.specs.C.{Symbol, symbols}
use Rattle.definitions.specs.C as C
use Rattle.laws.proofs.Trivia.{drop_trivia_length}
use Rattle.laws.proofs.Skeleton.{join_done, join_assoc}
use Rattle.laws.proofs.Kept.{Stands, stands_taken}
use Rattle.precedence.specs.Nodes.{one, nodes, Split, argument, split}
use Rattle.precedence.proofs.Pratt.{Args, closed, unclosed, args}
use Rattle.laws.specs.Pushes.{NoneExceeded}
use Rattle.precedence.proofs.Pushed.{Quiet, quiet_done, quiet_join, quiet_closed, clear_first, clear_second}
use Rattle.precedence.proofs.Same.{Same, same_join, same_one, same_node, same_path}
use Rattle.precedence.proofs.Symbols.{symbols_drop, Tail, tail_trans, tail_next, ahead_length}
use Rattle.precedence.proofs.Rules.{pick, ahead, took, Ends, branch, inside, ends_ret, after_bump}
use Rattle.precedence.proofs.Follow.{Done, done_join}
use Rattle.precedence.proofs.Argument.{Stopped, Argued, Closing, Opening, at_comma, at_close, at_end, Takes, takes}
use Rattle.precedence.proofs.Argument as A

-- ---------------------------------------------------------------- an argument's node

abbrev wrapped : Split → Split
wrapped sp = record { first = nodes N.MacroArgument sp.first; later = sp.later }

-- as `Takes`, the tokens taken being under a MacroArgument
abbrev Noded : State → Args → Out → Type 0
Noded s (closed xs vs) o = Closing s (wrapped (split xs 0)) vs o
Noded s unclosed o = Opening s o

-- ---------------------------------------------------------------- a turn of the loop, and the loop

-- an argument and a comma, and the cursor moved
record Round (s : State) (cs : List Token) (o : Out) : Type 0 where
  answers : o.ans ≡ again
  comes_to : o.state ≡ taken cs
  tail : Tail cs s.since
  moved : length cs < length s.rest

data Rounds (s : State) : Args → Out → Type 0 where
  more_closed : {xs vs : List Symbol} {o : Out} (cs : List Token) (ys : List Symbol) → Round s cs o → Same o.made (nodes N.MacroArgument (split xs 0).first ⧺ one)
      → Quiet (pushes o.made) → args (symbols false cs) 0 ≡ closed ys vs → (split xs 0).later ≡ one ⧺ argument (split ys 0) → Rounds s (closed xs vs) o
  last_closed : {xs vs : List Symbol} {o : Out} → o.ans ≡ yes → Done s (argument (split xs 0)) (C.plain K.RParen ∷ vs) o.made o.state → Rounds s (closed xs vs) o
  more_open : {o : Out} (cs : List Token) → Round s cs o → args (symbols false cs) 0 ≡ unclosed → Rounds s unclosed o
  last_open : {o : Out} → o.ans ≡ yes → Stands o.state → symbols false o.state.since ≡ [] → Tail o.state.since s.since → Rounds s unclosed o

-- nothing but trivia is left
pub record Ended (s : State) (u : State) : Type 0 where
  pub stands : Stands u
  pub left : symbols false u.since ≡ []
  pub tail : Tail u.since s.since

-- all the arguments, up to the bracket that closes their list, or to the end
abbrev pub Looped : State → Args → Out → Type 0
Looped s (closed xs vs) o = Done s (argument (split xs 0)) (C.plain K.RParen ∷ vs) o.made o.state
Looped s unclosed o = Ended s o.state

module _ (ask : Rule → State → Out) (b : Label) where
  taken_argument : (s : State) → Stands s → Ends ask b (act bump_argument) s (Takes s 0 (args (symbols false s.since) 0))
  unfolding exec perform
  taken_argument s h =
      let e : symbols false s.rest ≡ symbols false s.since =
      symbols_drop s.rest ∙ ap (symbols false) (ahead s h) ∙ sym (symbols_drop s.since) in
      record { holds = λ c. rw (← e) (takes s.rest 0 s false h.passed) }

  -- the marker around it
  abbrev noded : Ans → State → Out → Out
  noded a s o = marked s (add o (record { ans = a; shape = N.MacroArgument; made = done; state = o.state }))

  stopped_node : (a : Ans) (s : State) (o : Out) → Stopped s o → Stopped s (noded a s o)
  unfolding marked makes add
  stopped_node a s o p = record { stands = p.stands; tail = p.tail; shape_is = refl }

  argued_node : (a : Ans) (s : State) (sp : Split) (o : Out) → Argued s sp o → Argued s (wrapped sp) (noded a s o)
  unfolding marked makes add closed_marker ◌⧺◌
  argued_node a s sp o p =
      record {
        same = rw join_done (same_node N.MacroArgument (mark_of s) (mark_of o.state) done o.made sp.first p.same);
        quiet = rw join_done (quiet_closed N.MacroArgument (mark_of s) (mark_of o.state) done o.made quiet_done p.quiet);
      }

  closing_node : (a : Ans) (s : State) (sp : Split) (vs : List Symbol) (o : Out) → o.ans ≡ a → Closing s sp vs o → Closing s (wrapped sp) vs (noded a s o)
  unfolding marked makes add
  closing_node a s sp vs o e (at_comma c cs xs p q x d h l) =
      at_comma c cs xs (stopped_node a s o p) (argued_node a s sp o q) (sym e ∙ x) d h l
  closing_node a s sp vs o e (at_close p q x d l) = at_close (stopped_node a s o p) (argued_node a s sp o q) (sym e ∙ x) d l

  opening_node : (a : Ans) (s : State) (o : Out) → o.ans ≡ a → Opening s o → Opening s (noded a s o)
  unfolding marked makes add
  opening_node a s o e (A.at_comma c cs p x d h) = A.at_comma c cs (stopped_node a s o p) (sym e ∙ x) d h
  opening_node a s o e (at_end p x d) = at_end (stopped_node a s o p) (sym e ∙ x) d

  closing_answers : (s : State) (sp : Split) (vs : List Symbol) (o : Out) → Closing s sp vs o → (o.ans ≡ yes) ⊎ (o.ans ≡ no)
  closing_answers s sp vs o (at_comma c cs xs p q x d h l) = inl x
  closing_answers s sp vs o (at_close p q x d l) = inr x

  opening_answers : (s : State) (o : Out) → Opening s o → (o.ans ≡ yes) ⊎ (o.ans ≡ no)
  opening_answers s o (A.at_comma c cs p x d h) = inl x
  opening_answers s o (at_end p x d) = inr x

  node_then : (s : State) (o : Out) (Q : Out → Type 0) → (o.ans ≡ yes) ⊎ (o.ans ≡ no) → ((a : Ans) → o.ans ≡ a → Q (noded a s o))
      → Ends ask b (pick o.ans (ret N.MacroArgument no) (ret N.MacroArgument yes) (ret N.MacroArgument yes)) o.state (λ o'. Q (marked s (add o o')))
  unfolding add
  node_then s o Q (inl e) f = rw e (ends_ret ask b (f yes e))
  node_then s o Q (inr e) f = rw e (ends_ret ask b (f no e))

  node_by : (s : State) (y : Args) (o : Out) → Takes s 0 y o
      → Ends ask b (pick o.ans (ret N.MacroArgument no) (ret N.MacroArgument yes) (ret N.MacroArgument yes)) o.state (λ o'. Noded s y (marked s (add o o')))
  node_by s (closed xs vs) o h =
      node_then s o (Closing s (wrapped (split xs 0)) vs) (closing_answers s (split xs 0) vs o h) (λ a e. closing_node a s (split xs 0) vs o e h)
  node_by s unclosed o h = node_then s o (Opening s) (opening_answers s o h) (λ a e. opening_node a s o e h)

  argument_node : (s : State) → Stands s
      → Ends ask b (in_marker (case (act bump_argument) (ret N.MacroArgument no) (ret N.MacroArgument yes) (ret N.MacroArgument yes))) s
      (Noded s (args (symbols false s.since) 0))
  argument_node s h = inside ask b (branch ask b (taken_argument s h) (node_by s (args (symbols false s.since) 0)))

  -- ---------------------------------------------------------------- a turn: an argument, and the comma after it

  -- a comma that stands ahead is after the cursor
  comma_moved : (s : State) → Stands s → (r : List Token) (c : Token) (cs : List Token) → Tail r s.since → drop_trivia r ≡ c ∷ cs → length cs < length s.rest
  comma_moved s h r c cs t e =
      let l = ahead_length r s.since t in
      let m = drop_trivia_length s.rest in
      omega (arith, ap length e, ap length (ahead s h))

  -- the argument's node o, and the comma c
  abbrev with_comma : Out → Token → List Token → Out
  with_comma o c cs = add o (add (took c cs) (record { ans = again; shape = 0; made = done; state = taken cs }))

  round_of : (s : State) → Stands s → (o : Out) (c : Token) (cs : List Token) → Stopped s o → drop_trivia o.state.since ≡ c ∷ cs → Round s cs (with_comma o c cs)
  unfolding add
  round_of s h o c cs p e =
      record {
        answers = refl;
        comes_to = refl;
        tail = tail_trans cs o.state.since s.since (tail_next o.state.since c cs e) p.tail;
        moved = comma_moved s h o.state.since c cs p.tail e;
      }

  round_closing : (s : State) → Stands s → (xs vs : List Symbol) (o : Out) → Closing s (wrapped (split xs 0)) vs o
      → Ends ask b (pick o.ans (tell yes) (bump! ⨟ tell again) (bump! ⨟ tell again)) o.state (λ o'. Rounds s (closed xs vs) (add o o'))
  unfolding add makes ◌⧺◌ pushes
  round_closing s h xs vs o (at_comma c cs ys p q x e k l) =
      subst (λ (a : Ans). Ends ask b (pick a (tell yes) (bump! ⨟ tell again) (bump! ⨟ tell again)) o.state (λ o'. Rounds s (closed xs vs) (add o o'))) (sym x)
      (after_bump ask b c cs p.stands e
      (ends_ret ask b
      (more_closed cs ys (round_of s h o c cs p e)
      (same_join o.made (token c (length cs) done) (nodes N.MacroArgument (split xs 0).first) one q.same (same_one c (length cs)))
      (quiet_join o.made (token c (length cs) done) q.quiet tt) k l)))
  round_closing s h xs vs o (at_close p q x e l) =
      subst (λ (a : Ans). Ends ask b (pick a (tell yes) (bump! ⨟ tell again) (bump! ⨟ tell again)) o.state (λ o'. Rounds s (closed xs vs) (add o o'))) (sym x)
      (ends_ret ask b
      (last_closed refl
      (record {
        same = same_join o.made done (nodes N.MacroArgument (split xs 0).first) (split xs 0).later q.same (same_path done (split xs 0).later (sym l));
        quiet = quiet_join o.made done q.quiet quiet_done;
        stands = p.stands;
        left = e;
        tail = p.tail;
      })))

  round_opening : (s : State) → Stands s → (o : Out) → Opening s o
      → Ends ask b (pick o.ans (tell yes) (bump! ⨟ tell again) (bump! ⨟ tell again)) o.state (λ o'. Rounds s unclosed (add o o'))
  unfolding add
  round_opening s h o (A.at_comma c cs p x e k) =
      subst (λ (a : Ans). Ends ask b (pick a (tell yes) (bump! ⨟ tell again) (bump! ⨟ tell again)) o.state (λ o'. Rounds s unclosed (add o o'))) (sym x)
      (after_bump ask b c cs p.stands e (ends_ret ask b (more_open cs (round_of s h o c cs p e) k)))
  round_opening s h o (at_end p x e) =
      subst (λ (a : Ans). Ends ask b (pick a (tell yes) (bump! ⨟ tell again) (bump! ⨟ tell again)) o.state (λ o'. Rounds s unclosed (add o o'))) (sym x)
      (ends_ret ask b (last_open refl p.stands e p.tail))

  round_by : (s : State) → Stands s → (y : Args) (o : Out) → Noded s y o
      → Ends ask b (pick o.ans (tell yes) (bump! ⨟ tell again) (bump! ⨟ tell again)) o.state (λ o'. Rounds s y (add o o'))
  round_by s h (closed xs vs) o p = round_closing s h xs vs o p
  round_by s h unclosed o p = round_opening s h o p

  rounds : (s : State) → Stands s → Ends ask b macro_argument_turn s (Rounds s (args (symbols false s.since) 0))
  unfolding macro_argument_turn
  rounds s h = branch ask b (argument_node s h) (round_by s h (args (symbols false s.since) 0))

  -- ---------------------------------------------------------------- the loop over the arguments

  abbrev turn : State → Out
  turn s = exec ask b macro_argument_turn s

  -- a turn that came to o, and what follows it
  abbrev looped : ℕ → State → Out → Out
  looped n s o = cond (goes_on s o) (add (makes o.ans o.made o.state) (iter n turn o.state)) (makes o.ans o.made o.state)

  abbrev Later : ℕ → Type 0
  Later n = (u : State) → Stands u → length u.rest < n → NoneExceeded (pushes (iter n turn u).made) → Looped u (args (symbols false u.since) 0) (iter n turn u)

  round_goes : (s : State) (cs : List Token) (o : Out) → Round s cs o → goes_on s o ≡ true
  unfolding goes_on is_again
  round_goes s cs o r = rw (r.answers, r.comes_to, lt-ltb (length cs) (length s.rest) r.moved)

  last_stops : (s : State) (o : Out) → o.ans ≡ yes → goes_on s o ≡ false
  unfolding goes_on is_again
  last_stops s o e = rw e

  looped_more : (n : ℕ) (s : State) (cs : List Token) (o : Out) → Round s cs o
      → looped n s o ≡ add (makes o.ans o.made (taken cs)) (iter n turn (taken cs))
  looped_more n s cs o r =
      ap (λ (x : Bool). cond x (add (makes o.ans o.made o.state) (iter n turn o.state)) (makes o.ans o.made o.state)) (round_goes s cs o r)
      ∙ ap (λ (u : State). add (makes o.ans o.made u) (iter n turn u)) r.comes_to

  looped_last : (n : ℕ) (s : State) (o : Out) → o.ans ≡ yes → looped n s o ≡ makes o.ans o.made o.state
  looped_last n s o e =
      ap (λ (x : Bool). cond x (add (makes o.ans o.made o.state) (iter n turn o.state)) (makes o.ans o.made o.state)) (last_stops s o e)

  done_more : (s : State) (cs : List Token) (xs ys vs : List Symbol) (o o' : Out) → Round s cs o
      → Same o.made (nodes N.MacroArgument (split xs 0).first ⧺ one) → Quiet (pushes o.made) → (split xs 0).later ≡ one ⧺ argument (split ys 0)
      → Done (taken cs) (argument (split ys 0)) (C.plain K.RParen ∷ vs) o'.made o'.state
      → Done s (argument (split xs 0)) (C.plain K.RParen ∷ vs) (o.made ⧺ o'.made) o'.state
  done_more s cs xs ys vs o o' r p q l d =
      let first = nodes N.MacroArgument (split xs 0).first in
      let a : Done s (first ⧺ one) (symbols false cs) o.made (taken cs) =
      record { same = p; quiet = q; stands = stands_taken cs; left = refl; tail = r.tail } in
      let e : (first ⧺ one) ⧺ argument (split ys 0) ≡ first ⧺ (split xs 0).later = join_assoc first one (argument (split ys 0)) ∙ ap (first ⧺◌) (sym l) in
      subst (λ (z : Skeleton). Done s z (C.plain K.RParen ∷ vs) (o.made ⧺ o'.made) o'.state) e
      (done_join s (taken cs) o'.state (first ⧺ one) (argument (split ys 0)) (symbols false cs) (C.plain K.RParen ∷ vs) o.made o'.made a d)

  loop_step : (n : ℕ) (s : State) (y : Args) (o : Out) → Rounds s y o → length s.rest < suc n → Later n → NoneExceeded (pushes (looped n s o).made)
      → Looped s y (looped n s o)
  unfolding add makes
  loop_step n s (closed xs vs) o (more_closed cs ys r p q k l) h later c =
      let e = looped_more n s cs o r in
      let c' : NoneExceeded (pushes (o.made ⧺ (iter n turn (taken cs)).made)) = subst (λ (x : Out). NoneExceeded (pushes x.made)) e c in
      let d = later (taken cs) (stands_taken cs) (omega (arith, r.moved)) (clear_second o.made (iter n turn (taken cs)).made c') in
      subst (Looped s (closed xs vs)) (sym e)
      (done_more s cs xs ys vs o (iter n turn (taken cs)) r p q l (subst (λ (z : Args). Looped (taken cs) z (iter n turn (taken cs))) k d))
  loop_step n s (closed xs vs) o (last_closed a d) h later c = subst (Looped s (closed xs vs)) (sym (looped_last n s o a)) d
  loop_step n s unclosed o (more_open cs r k) h later c =
      let e = looped_more n s cs o r in
      let c' : NoneExceeded (pushes (o.made ⧺ (iter n turn (taken cs)).made)) = subst (λ (x : Out). NoneExceeded (pushes x.made)) e c in
      let d = later (taken cs) (stands_taken cs) (omega (arith, r.moved)) (clear_second o.made (iter n turn (taken cs)).made c') in
      let z : Ended (taken cs) (iter n turn (taken cs)).state = subst (λ (z : Args). Looped (taken cs) z (iter n turn (taken cs))) k d in
      subst (Looped s unclosed) (sym e)
      (record { stands = z.stands; left = z.left; tail = tail_trans (iter n turn (taken cs)).state.since cs s.since z.tail r.tail })
  loop_step n s unclosed o (last_open a st e t) h later c =
      subst (Looped s unclosed) (sym (looped_last n s o a)) (record { stands = st; left = e; tail = t })

  looped_clear : (n : ℕ) (s : State) (o : Out) (x : Bool)
      → NoneExceeded (pushes (cond x (add (makes o.ans o.made o.state) (iter n turn o.state)) (makes o.ans o.made o.state)).made) → NoneExceeded (pushes o.made)
  unfolding add makes
  looped_clear n s o true c = clear_first o.made (iter n turn o.state).made c
  looped_clear n s o false c = c

  later : (n : ℕ) → Later n
  unfolding iter
  later zero u h l c = absurd (omega arith)
  later (suc n) u h l c =
      loop_step n u (args (symbols false u.since) 0) (turn u) ((rounds u h).holds (looped_clear n u (turn u) (goes_on u (turn u)) c)) l (later n) c

  -- `loop macro_argument_turn`
  pub arguments_loop : (s : State) → Stands s → Ends ask b (loop macro_argument_turn) s (Looped s (args (symbols false s.since) 0))
  unfolding exec
  arguments_loop s h = record { holds = later (suc (length s.rest)) s h (omega arith) }
