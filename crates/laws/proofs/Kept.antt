-- The engine's form for a property of what a run makes between two states: eight cases, and it holds of every run.
use Prim.Native.Nat.{ℕ, zero, suc}
use mathlib.Core.Path.{◌≡◌, refl, ap, sym, subst}
use mathlib.Core.Bool.{true, false}
use mathlib.Core.List.{List, [], ◌∷◌, ◌++◌}
use lib.Dec.{eqb}
use lib.ListN.{length}
use Rattle.definitions.specs.Layout.{MOST_OPEN_CALLS}
use Rattle.definitions.specs.TokenKind as K
use Rattle.definitions.specs.Errors as E
use Rattle.definitions.specs.Prog.{Ans, no, yes, Rule, Act, silent_at, at_end, immediate, immediate_next, add_expected, bump, bump_name, bump_argument, emit, emit_unclosed, less, Prog}
use Rattle.definitions.specs.Token.{Token, seen, trivia, drop_trivia, one_of}
use Rattle.definitions.specs.Grammar.{Entry, whole}
use Rattle.definitions.specs.Once.{pushed_once}
use Rattle.definitions.specs.Skeleton.{Label, no_label, Report, Skeleton, done, token, name, node, report, over, ◌⧺◌}
use Rattle.definitions.specs.Run.{State, Out, mark_of, peeked, replies, makes, taken, do_bump, Stretch, stretch_of, do_name, add, at_depth, do_argument, error_range, pool_of, do_emit, do_expected, perform, closed, marked, unlinked, exec, run}
use Rattle.definitions.specs.Call.{run_entry}
use Rattle.basics.proofs.Tests.{cond-all, cond-with}
use Rattle.laws.proofs.Trivia.{Solid, dropped_solid, Passes, passes_none, passes_one, passes_then, passes_all}
use Rattle.laws.proofs.Engine.{Composes, Steady, exec_all, run_all}

-- ---------------------------------------------------------------- where a run stands

-- the cursor stands after the last token taken, with only trivia between
pub record Stands (s : State) : Type 0 where
  pub passed : Passes s.since s.rest

-- the state with its cursor moved
abbrev pub moved : State → List Token → State
moved s ts = record { rest = ts; since = s.since; pending = s.pending }

-- the state with an expectation pushed
abbrev pub expecting : State → ℕ → State
expecting s k = record { rest = s.rest; since = s.since; pending = pushed_once k s.pending }

-- the report that is made at a state
abbrev pub report_at : ℕ → ℕ → Label → State → Report
report_at m h l s = record { message = m; range = error_range s s.rest; mark = mark_of s; hint = h; labelled = l; pool = pool_of m s.pending }

-- all of these kinds
abbrev pub AllIn : List ℕ → List Token → Type 0
AllIn ks [] = Unit {0}
AllIn ks (t ∷ ts) = (one_of ks (seen t) ≡ true) × AllIn ks ts

-- ---------------------------------------------------------------- what a user shows

-- R s p u: a property of a run from s that makes p and comes to u
pub record Kept (R : State → Skeleton → State → Type 0) : Type 0 where
  -- nothing made, the cursor past some trivia or where it was
  pub pass : (s : State) (ts : List Token) → Stands s → Passes s.rest ts → R s done (moved s ts)
  pub expect : (s : State) (k : ℕ) → Stands s → R s done (expecting s k)
  pub token : (s : State) (t : Token) (ts : List Token) → Stands s → s.rest ≡ t ∷ ts → trivia t ≡ false → R s (token t (length ts) done) (taken ts)
  pub name : (s : State) (ks : List ℕ) (t : Token) (raw ts : List Token) → Stands s → s.rest ≡ t ∷ (raw ++ ts) → trivia t ≡ false → AllIn ks raw
      → R s (name (t ∷ raw) (length ts) done) (taken ts)
  pub report : (s : State) (m h : ℕ) (l : Label) → Stands s → Solid s.rest → R s (report (report_at m h l s) done) s
  pub over : (s : State) → Stands s → R s (over (mark_of s) done) s
  -- one after the other
  pub join : (s u v : State) (p q : Skeleton) → R s p u → R u q v → R s (p ⧺ q) v
  -- a marker pushed at u and closed at v, made to precede a
  pub close : (s u v : State) (k : ℕ) (a i : Skeleton) → R s a u → R u i v → R s (closed k (mark_of u) (mark_of v) a i) v

-- ---------------------------------------------------------------- the actions

pub run_of_split : (ks : List ℕ) (ts : List Token) → ts ≡ (stretch_of ks ts).raw ++ (stretch_of ks ts).after
unfolding stretch_of
run_of_split ks [] = refl
run_of_split ks (t ∷ ts) =
    cond-all (λ (r : Stretch). t ∷ ts ≡ r.raw ++ r.after) (one_of ks (seen t)) {x = record { raw = t ∷ (stretch_of ks ts).raw; after = (stretch_of ks ts).after }} {y = record { raw = []; after = t ∷ ts }}
    (ap (t ∷◌) (run_of_split ks ts)) refl

pub run_of_in : (ks : List ℕ) (ts : List Token) → AllIn ks (stretch_of ks ts).raw
unfolding stretch_of one_of seen
run_of_in ks [] = tt
run_of_in ks (t ∷ ts) =
    cond-with (λ (r : Stretch). AllIn ks r.raw) (one_of ks (seen t)) {x = record { raw = t ∷ (stretch_of ks ts).raw; after = (stretch_of ks ts).after }} {y = record { raw = []; after = t ∷ ts }}
    (λ e. (e, run_of_in ks ts)) (λ e. tt)

pub stands_taken : (ts : List Token) → Stands (taken ts)
stands_taken ts = record { passed = passes_none ts }

pub stands_moved : (s : State) (ts : List Token) → Stands s → Passes s.rest ts → Stands (moved s ts)
stands_moved s ts h p = record { passed = passes_then s.since s.rest ts h.passed p }

pub stands_peeked : (s : State) → Stands s → Stands (peeked s)
unfolding peeked
stands_peeked s h = stands_moved s (drop_trivia s.rest) h (passes_all s.rest)

module _ (R : State → Skeleton → State → Type 0) (kept : Kept R) where
  -- what is shown of a run's result
  abbrev pub Ran : State → Out → Type 0
  Ran s o = Stands s → Stands o.state × R s o.made o.state

  ran_add : (s : State) (o o' : Out) → Ran s o → Ran o.state o' → Ran s (add o o')
  unfolding add
  ran_add s o o' p q h =
      let a : Stands o.state × R s o.made o.state = p h in
      let b : Stands o'.state × R o.state o'.made o'.state = q a.0 in
      (b.0, kept.join s o.state o'.state o.made o'.made a.1 b.1)

  ran_answer : (a : Ans) (s : State) (ts : List Token) → Passes s.rest ts → Ran s (replies a (moved s ts))
  unfolding replies
  ran_answer a s ts p h = (stands_moved s ts h p, kept.pass s ts h p)

  -- after a peek that came to ts
  bump_ran : (s : State) (ts : List Token) → Passes s.rest ts → Solid ts → Ran s (do_bump (moved s ts) ts)
  unfolding do_bump replies makes ◌⧺◌
  bump_ran s [] p d h = ran_answer yes s [] p h
  bump_ran s (t ∷ ts) p d h =
      (stands_taken ts, kept.join s (moved s (t ∷ ts)) (taken ts) done (token t (length ts) done) (kept.pass s (t ∷ ts) h p) (kept.token (moved s (t ∷ ts)) t ts (stands_moved s (t ∷ ts) h p) refl d))

  name_ran : (ks : List ℕ) (s : State) (ts : List Token) → Passes s.rest ts → Solid ts → Ran s (do_name ks (moved s ts) ts)
  unfolding do_name replies makes ◌⧺◌
  name_ran ks s [] p d h = ran_answer yes s [] p h
  name_ran ks s (t ∷ ts) p d h =
      let r : Stretch = stretch_of ks ts in (
        stands_taken r.after,
        kept.join s (moved s (t ∷ ts)) (taken r.after) done (name (t ∷ r.raw) (length r.after) done) (kept.pass s (t ∷ ts) h p)
            (kept.name (moved s (t ∷ ts)) ks t r.raw r.after (stands_moved s (t ∷ ts) h p) (ap (t ∷◌) (run_of_split ks ts)) d (run_of_in ks ts)),
      )

  depth_ran : (s : State) (n : ℕ) (o : Out) (f : ℕ → Out) → Ran s o → ((m : ℕ) → Ran s (f m)) → Ran s (at_depth n o f)
  unfolding at_depth
  depth_ran s zero o f p q = p
  depth_ran s (suc n) o f p q = q n

  argument_ran : (n : ℕ) (s : State) (ts : List Token) → Passes s.rest ts → Ran s (do_argument n s ts)
  unfolding do_argument
  argument_ran n s [] p = ran_answer no s [] p
  argument_ran n s (t ∷ ts) p =
      cond-with (Ran s) (trivia t)
      (λ e. argument_ran n s ts (passes_then s.rest (t ∷ ts) ts p (passes_one t ts e)))
      (λ e.
      let go : (m : ℕ) → Ran s (add (makes yes (token t (length ts) done) (taken ts)) (do_argument m (taken ts) ts)) =
      λ m. ran_add s (makes yes (token t (length ts) done) (taken ts)) (do_argument m (taken ts) ts) (unfold do_bump makes in bump_ran s (t ∷ ts) p e) (unfold makes in argument_ran m (taken ts) ts (passes_none ts)) in
      let stay : (a : Ans) → Ran s (replies a (moved s (t ∷ ts))) = λ a. ran_answer a s (t ∷ ts) p in
      cond-all (Ran s) (eqb t.kind K.LParen) (go (suc n))
      (cond-all (Ran s) (eqb t.kind K.RParen) (depth_ran s n _ _ (stay no) go)
      (cond-all (Ran s) (eqb t.kind K.Comma) (depth_ran s n _ _ (stay yes) (λ m. go (suc m))) (go n))))

  peek_ran : (a : Ans) (s : State) → Ran s (replies a (peeked s))
  unfolding peeked
  peek_ran a s = ran_answer a s (drop_trivia s.rest) (passes_all s.rest)

  emit_ran : (m k : ℕ) (l : Label) (s : State) → Ran s (do_emit m k l (peeked s))
  unfolding do_emit makes peeked ◌⧺◌
  emit_ran m k l s h =
      let p : Passes s.rest (drop_trivia s.rest) = passes_all s.rest in
      let g : Stands (peeked s) = stands_peeked s h in
      (g, kept.join s (peeked s) (peeked s) done _ (kept.pass s (drop_trivia s.rest) h p) (kept.report (peeked s) m k l g (dropped_solid s.rest)))

  -- (the answer is not used here)
  pub act_ran : (b : Label) (a : Act) (s : State) → Ran s (perform b a s)
  unfolding perform peeked replies do_expected makes
  act_ran b (silent_at ks) s = peek_ran yes s
  act_ran b at_end s = peek_ran yes s
  act_ran b (immediate k) s = ran_answer yes s s.rest (passes_none s.rest)
  act_ran b (immediate_next k) s = ran_answer yes s s.rest (passes_none s.rest)
  act_ran b (add_expected k) s = λ h. (record { passed = h.passed }, kept.expect s k h)
  act_ran b bump s = bump_ran s (drop_trivia s.rest) (passes_all s.rest) (dropped_solid s.rest)
  act_ran b (bump_name ks) s = name_ran ks s (drop_trivia s.rest) (passes_all s.rest) (dropped_solid s.rest)
  act_ran b bump_argument s = argument_ran 0 s s.rest (passes_none s.rest)
  act_ran b (emit m h) s = emit_ran m h no_label s
  act_ran b emit_unclosed s = emit_ran E.unclosed_node E.no_hint b s
  act_ran b (less m n) s = ran_answer yes s s.rest (passes_none s.rest)

  -- ---------------------------------------------------------------- chains and programs

  -- a chain under way: its open marker was pushed at some state between
  pub record Under (s : State) (m : ℕ) (a i : Skeleton) (u : State) : Type 0 where
    pub at : State
    pub pushed : m ≡ mark_of at
    pub stands : Stands u
    pub before : R s a at
    pub since : R at i u

  idle : (s : State) → Stands s → R s done s
  idle s h = kept.pass s s.rest h (passes_none s.rest)

  composed : Composes Ran (λ s m a i u. Stands s → Under s m a i u)
  unfolding marked makes unlinked ◌⧺◌ closed
  composed =
      record {
        idle = λ a s h. (h, idle s h);
        add = ran_add;
        mark = λ s o p h. ((p h).0, kept.close s s o.state o.shape done o.made (idle s h) (p h).1);
        turn = λ s o p h. p h;
        first = λ s o p h. record { at = s; pushed = refl; stands = (p h).0; before = idle s h; since = (p h).1 };
        more = λ s u m a i o c p h.
            let d : Under s m a i u = c h in
            let q : Stands o.state × R u o.made o.state = p d.stands in
            record { at = d.at; pushed = d.pushed; stands = q.0; before = d.before; since = kept.join d.at u o.state i o.made d.since q.1 };
        link = λ s u m k a i o b q e c h.
            let v = o.state in
            let d : Under s m a (i ⧺ o.made) v = c h in
            record {
              at = v;
              pushed = refl;
              stands = d.stands;
              before = subst (λ (x : ℕ). R s (node (suc k) x (mark_of v) a (i ⧺ o.made) done) v) (sym d.pushed) (kept.close s d.at v (suc k) a (i ⧺ o.made) d.before d.since);
              since = idle v d.stands;
            };
        last = λ s u m a i x c h.
            let d : Under s m a i u = c h in
            (d.stands, subst (λ (y : ℕ). R s (closed 0 y (mark_of u) a i) u) (sym d.pushed) (kept.close s d.at u 0 a i d.before d.since));
      }

  pub steady : Steady Ran (λ s m a i u. Stands s → Under s m a i u)
  unfolding makes
  steady =
      record {
        composes = composed;
        ret = λ k a s h. (h, idle s h);
        act = act_ran;
        deep = λ s h. (h, kept.over s h);
      }

  -- every call, with any number of open calls allowed
  pub run_kept : (n : ℕ) (r : Rule) (s : State) → Ran s (run n r s)
  run_kept n r s = run_all Ran _ steady n r s

  -- every program, if it holds of what the calls do
  pub exec_kept : (ask : Rule → State → Out) → ((r : Rule) (s : State) → Ran s (ask r s)) → (b : Label) (p : Prog) (s : State) → Ran s (exec ask b p s)
  exec_kept ask h b p s = exec_all Ran _ steady ask h b p s

  -- every program of the grammar, from the tokens of a file on
  pub whole_kept : (e : Entry) (ts : List Token) → R (taken ts) (run_entry e ts) (exec (run MOST_OPEN_CALLS) no_label (whole e) (taken ts)).state
  unfolding run_entry
  whole_kept e ts = (exec_kept (run MOST_OPEN_CALLS) (run_kept MOST_OPEN_CALLS) no_label (whole e) (taken ts) (stands_taken ts)).1
