-- One turn of the loop over infix operators does what the reader's does.
use Prim.Native.Nat.{ℕ, ◌<◌}
use native.Mathlib.Omega.{arith}
use mathlib.Core.Path.{◌≡◌, refl, sym, ◌∙◌, ap, subst}
use mathlib.Core.Bool.{Bool, true, false, cond}
use mathlib.Core.List.{List, [], ◌∷◌}
use borrow.Author.Tests.{eqb-true}
use lib.Dec.{eqb, ltb}
use lib.ListN.{length}
use Rattle.definitions.specs.TokenKind as K
use Rattle.definitions.specs.NodeKind as N
use Rattle.definitions.specs.Token.{Token, seen, drop_trivia, one_of, first_in}
use Rattle.definitions.specs.Prog.{no, yes, again, Rule, expr_binding_power, less, Prog, ret, act, ◌⨟◌, open_call}
use Rattle.definitions.specs.Check.{tell, when◌then◌else◌, ◌and◌, bump!, of_kind, silent, expect}
use Rattle.definitions.specs.BindingPower.{Level, binary_levels, left_power, right_power, ternary_left, ternary_right}
use Rattle.definitions.specs.Grammar.{rhs, infix_levels, infix_turn}
use Rattle.definitions.specs.Skeleton.{Label, Skeleton, ◌⧺◌}
use Rattle.definitions.specs.Run.{State, Out, truth, replies, makes, taken, add}
use Rattle.definitions.specs.C.{Symbol, symbols, Expr, binary, ternary}
use Rattle.definitions.specs.C as C
use Rattle.laws.proofs.Trivia.{drop_trivia_length, passes_length}
use Rattle.laws.proofs.Skeleton.{join_done, join_assoc}
use Rattle.laws.proofs.Kept.{Stands, stands_taken}
use Rattle.precedence.specs.Nodes.{one, nodes, expr_nodes}
use Rattle.precedence.proofs.Pratt.{Operator, asks, binds, none, operator_in, operator, is, Res, refused, spent, Reader, bind, expect_if, bind_if, ask_if, step_by, step}
use Rattle.precedence.proofs.Pratt as P
use Rattle.precedence.proofs.Symbols.{symbols_end, symbols_next, Tail, tail_length}
use Rattle.precedence.proofs.Rules.{pick, ahead, took, Onward, Ends, ends_map, ends_any, branch, ends_ret, on_test, after_test, silent_is, test_less, test_expected, after_bump}
use Rattle.precedence.proofs.Follow.{Done, Noted, Follows, done_join, done_token, noted_first, noted_second, noted_from, Expected, found, missing, expects}
use Rattle.precedence.proofs.Operands.{done_after, noted_after}

-- ---------------------------------------------------------------- the reader's turn

-- no operator, or one that the minimum keeps out; or an operator, and the expression that it makes of the one before
pub data Turned : Type 0 where
  stops : Turned
  goes : Res → Turned

abbrev pub bind_turn : Reader → Expr → ℕ → ℕ → List Symbol → Res
bind_turn rec e k r us = bind (rec r us) (λ f ws. P.done (binary e k f) ws)

-- what stands between `?` and `:`, with the colon
abbrev pub middle : Res → Res
middle x = bind x (λ a ws. P.expect K.Colon ws (λ xs. P.done a xs))

abbrev pub ask_turn : Reader → Expr → List Symbol → Res
ask_turn rec e us = bind (middle (rec 0 us)) (λ a xs. bind (rec ternary_right xs) (λ b ys. P.done (ternary e a b) ys))

abbrev pub kept_out : Bool → Res → Turned
kept_out true x = stops
kept_out false x = goes x

abbrev pub turn_by : Operator → Reader → ℕ → Expr → List Symbol → Turned
turn_by asks rec m e us = kept_out (ltb ternary_left m) (ask_turn rec e us)
turn_by (binds k l r) rec m e us = kept_out (ltb l m) (bind_turn rec e k r us)
turn_by none rec m e us = stops

abbrev pub turn_of : Reader → ℕ → Expr → List Symbol → Turned
turn_of rec m e [] = stops
turn_of rec m e (x ∷ us) = turn_by (operator x) rec m e us

-- and what follows it
abbrev pub then_more : Turned → (Expr → List Symbol → Res) → Expr → List Symbol → Res
then_more stops more e us = P.done e us
then_more (goes x) more e us = bind x more

bind_assoc : (x : Res) (f g : Expr → List Symbol → Res) → bind (bind x f) g ≡ bind x (λ e us. bind (f e us) g)
bind_assoc (P.done e us) f g = refl
bind_assoc (P.report us) f g = refl
bind_assoc refused f g = refl
bind_assoc spent f g = refl

ask_more : (rec : Reader) (more : Expr → List Symbol → Res) (e : Expr) (us : List Symbol)
    → bind (rec 0 us) (λ a ws. P.expect K.Colon ws (λ xs. bind (rec 1 xs) (λ b ys. more (ternary e a b) ys))) ≡ bind (ask_turn rec e us) more
ask_more rec more e us = go (rec 0 us)
  where
    last : (a : Expr) (xs : List Symbol) → bind (rec 1 xs) (λ b ys. more (ternary e a b) ys) ≡ bind (bind (rec 1 xs) (λ b ys. P.done (ternary e a b) ys)) more
    last a xs = sym (bind_assoc (rec 1 xs) (λ b ys. P.done (ternary e a b) ys) more)

    by_kind : (a : Expr) (ws : List Symbol)
        → P.expect K.Colon ws (λ xs. bind (rec 1 xs) (λ b ys. more (ternary e a b) ys))
        ≡ bind (bind (P.expect K.Colon ws (λ xs. P.done a xs)) (λ a' xs. bind (rec 1 xs) (λ b ys. P.done (ternary e a' b) ys))) more
    by_kind a [] = refl
    by_kind a (x ∷ xs) = test (is K.Colon x)
      where
        test : (b : Bool) → expect_if b (x ∷ xs) (bind (rec 1 xs) (λ c ys. more (ternary e a c) ys))
            ≡ bind (bind (expect_if b (x ∷ xs) (P.done a xs)) (λ a' zs. bind (rec 1 zs) (λ c ys. P.done (ternary e a' c) ys))) more
        test true = last a xs
        test false = refl

    go : (x : Res)
        → bind x (λ a ws. P.expect K.Colon ws (λ xs. bind (rec 1 xs) (λ b ys. more (ternary e a b) ys)))
        ≡ bind (bind (middle x) (λ a xs. bind (rec 1 xs) (λ b ys. P.done (ternary e a b) ys))) more
    go (P.done a ws) = by_kind a ws
    go (P.report ws) = refl
    go refused = refl
    go spent = refl

-- a step of the loop is a turn and what follows it
pub step_turn : (more : Expr → List Symbol → Res) (rec : Reader) (m : ℕ) (e : Expr) (us : List Symbol)
    → step more rec m e us ≡ then_more (turn_of rec m e us) more e us
step_turn more rec m e [] = refl
step_turn more rec m e (x ∷ us) = by (operator x)
  where
    bind_by : (b : Bool) (k r : ℕ) → bind_if b more rec e k r (x ∷ us) us ≡ then_more (kept_out b (bind_turn rec e k r us)) more e (x ∷ us)
    bind_by true k r = refl
    bind_by false k r = sym (bind_assoc (rec r us) (λ f ws. P.done (binary e k f) ws) more)

    ask_by : (b : Bool) → ask_if b more rec e (x ∷ us) us ≡ then_more (kept_out b (ask_turn rec e us)) more e (x ∷ us)
    ask_by true = refl
    ask_by false = ask_more rec more e us

    by : (y : Operator) → step_by y more rec m e x us ≡ then_more (turn_by y rec m e us) more e (x ∷ us)
    by asks = ask_by (ltb 2 m)
    by (binds k l r) = bind_by (ltb l m) k r
    by none = refl

-- ---------------------------------------------------------------- what a run's turn has to come to

-- p was made of an operator and what stands after it, so that e becomes f
pub record Linked (s : State) (e f : Expr) (vs : List Symbol) (o : Out) : Type 0 where
  pub p : Skeleton
  pub becomes : expr_nodes f ≡ nodes N.InfixExpr (expr_nodes e ⧺ p)
  pub answers : o.ans ≡ again
  pub shape_is : o.shape ≡ N.InfixExpr
  pub made : Done s p vs o.made o.state
  pub moved : length o.state.rest < length s.rest

-- nothing was made and nothing taken
pub record Stays (s : State) (o : Out) : Type 0 where
  pub to : State
  pub is : o ≡ replies yes to
  pub stands : Stands to
  pub since_is : to.since ≡ s.since

abbrev pub Turns : State → Expr → Turned → Out → Type 0
Turns s e stops o = Stays s o
Turns s e (goes (P.done f vs)) o = Linked s e f vs o
Turns s e (goes (P.report vs)) o = Noted s vs o.made
Turns s e (goes refused) o = ⊥
Turns s e (goes spent) o = Unit {0}

-- a token taken brings the cursor on
pub shrinks : (s u : State) (t : Token) (ts : List Token) → Stands s → drop_trivia s.since ≡ t ∷ ts → Stands u → Tail u.since ts
    → length u.rest < length s.rest
shrinks s u t ts h e g i =
    omega (arith, ap length (ahead s h ∙ e), drop_trivia_length s.rest, passes_length u.since u.rest g.passed, tail_length u.since ts i)

module _ (ask : Rule → State → Out) (b : Label) (rec : Reader)
    (below : (m : ℕ) (s : State) → Stands s → Ends ask b (open_call (expr_binding_power m)) s (Follows s expr_nodes (rec m (symbols false s.since))))
    (s : State) (h : Stands s) (e : Expr) (t : Token) (ts : List Token) (next : drop_trivia s.since ≡ t ∷ ts) where
  -- ---------------------------------------------------------------- a binary operator

  bind_by : (k : ℕ) (x : Res) (o : Out) → Follows (taken ts) expr_nodes x o
      → Ends ask b (pick o.ans (ret N.InfixExpr yes) (ret N.InfixExpr again) (ret N.InfixExpr again)) o.state
      (λ o'. Turns s e (goes (bind x (λ f ws. P.done (binary e k f) ws))) (add (took t ts) (add o o')))
  unfolding add makes ◌⧺◌
  bind_by k (P.done f vs) o d =
      rw d.0
      (ends_ret ask b
      (record {
        p = one ⧺ expr_nodes f;
        becomes = refl;
        answers = refl;
        shape_is = refl;
        made = rw (join_done o.made) (done_after s t ts next (expr_nodes f) vs o.made o.state d.1);
        moved = shrinks s o.state t ts h next d.1.stands d.1.tail;
      }))
  bind_by k (P.report vs) o n =
      ends_any ask b (λ o'. noted_after s t ts next vs (o.made ⧺ o'.made) (noted_first (taken ts) vs o.made o'.made n))
  bind_by k refused o d = absurd d
  bind_by k spent o d = ends_any ask b (λ o'. tt)

  bind_turns : (to : State) → Stands to → to.since ≡ s.since → (k r : ℕ)
      → Ends ask b (bump! ⨟ rhs r) to (Turns s e (goes (bind_turn rec e k r (symbols false ts))))
  unfolding rhs
  bind_turns to st si k r =
      after_bump ask b t ts st (ap drop_trivia si ∙ next) (branch ask b (below r (taken ts) (stands_taken ts)) (bind_by k (rec r (symbols false ts))))

  -- ---------------------------------------------------------------- the ternary

  -- an expression and the colon
  abbrev with_colon : Expr → Skeleton
  with_colon a = expr_nodes a ⧺ one

  colon_by : (a : Expr) (ws : List Symbol) (o : Out) → Done (taken ts) (expr_nodes a) ws o.made o.state → (o' : Out) → Expected ask b K.Colon refl o.state o'
      → Follows (taken ts) with_colon (P.expect K.Colon ws (λ xs. P.done a xs)) (add o o')
  unfolding add makes
  colon_by a ws o d o' (found t' ts' z p f) =
      let q : Done o.state one (symbols false ts') o'.made o'.state = rw p (done_token o.state t' ts' z) in
      let g : P.expect K.Colon ws (λ xs. P.done a xs) ≡ P.done a (symbols false ts') =
      ap (λ (l : List Symbol). P.expect K.Colon l (λ xs. P.done a xs)) (sym d.left) ∙ f (λ xs. P.done a xs) in
      rw g (ap (λ (z : Out). z.ans) p, done_join (taken ts) o.state o'.state (expr_nodes a) one ws (symbols false ts') o.made o'.made d q)
  colon_by a ws o d o' (missing x n f) =
      let g : P.expect K.Colon ws (λ xs. P.done a xs) ≡ P.report ws =
      ap (λ (l : List Symbol). P.expect K.Colon l (λ xs. P.done a xs)) (sym d.left) ∙ f (λ xs. P.done a xs) ∙ ap P.report d.left in
      rw g
      (noted_second (taken ts) ws o.made o'.made
      (noted_from (taken ts) o.state ws o'.made d.tail (subst (λ (l : List Symbol). Noted o.state l o'.made) d.left n)))

  middle_by : (x : Res) (o : Out) → Follows (taken ts) expr_nodes x o
      → Ends ask b (pick o.ans (tell no) (expect (of_kind K.Colon)) (expect (of_kind K.Colon))) o.state (λ o'. Follows (taken ts) with_colon (middle x) (add o o'))
  unfolding add
  middle_by (P.done a ws) o d = rw d.0 (ends_map ask b (expects ask b K.Colon refl o.state d.1.stands) (colon_by a ws o d.1))
  middle_by (P.report ws) o n = ends_any ask b (λ o'. noted_first (taken ts) ws o.made o'.made n)
  middle_by refused o d = absurd d
  middle_by spent o d = ends_any ask b (λ o'. tt)

  middle_follows : Ends ask b (open_call (expr_binding_power 0) and expect (of_kind K.Colon)) (taken ts) (Follows (taken ts) with_colon (middle (rec 0 (symbols false ts))))
  middle_follows = branch ask b (below 0 (taken ts) (stands_taken ts)) (middle_by (rec 0 (symbols false ts)))

  -- the last part, after the colon
  last_by : (a : Expr) (xs : List Symbol) (o : Out) → Done (taken ts) (with_colon a) xs o.made o.state → (x : Res) (o' : Out) → Follows o.state expr_nodes x o'
      → Ends ask b (pick o'.ans (ret N.InfixExpr yes) (ret N.InfixExpr again) (ret N.InfixExpr again)) o'.state
      (λ o''. Turns s e (goes (bind x (λ c ys. P.done (ternary e a c) ys))) (add (took t ts) (add o (add o' o''))))
  unfolding add makes ◌⧺◌
  last_by a xs o d (P.done c ys) o' g =
      let q = done_join (taken ts) o.state o'.state (with_colon a) (expr_nodes c) xs ys o.made o'.made d g.1 in
      let r : Done (taken ts) (expr_nodes a ⧺ (one ⧺ expr_nodes c)) ys (o.made ⧺ o'.made) o'.state = rw (join_assoc (expr_nodes a) one (expr_nodes c)) at q in
      rw g.0
      (ends_ret ask b
      (record {
        p = one ⧺ (expr_nodes a ⧺ (one ⧺ expr_nodes c));
        becomes = refl;
        answers = refl;
        shape_is = refl;
        made = rw (join_done o'.made) (done_after s t ts next (expr_nodes a ⧺ (one ⧺ expr_nodes c)) ys (o.made ⧺ o'.made) o'.state r);
        moved = shrinks s o'.state t ts h next r.stands r.tail;
      }))
  last_by a xs o d (P.report vs) o' n =
      ends_any ask b
      λ o''.
      noted_after s t ts next vs (o.made ⧺ (o'.made ⧺ o''.made))
      (noted_second (taken ts) vs o.made (o'.made ⧺ o''.made)
      (noted_first (taken ts) vs o'.made o''.made (noted_from (taken ts) o.state vs o'.made d.tail n)))
  last_by a xs o d refused o' g = absurd g
  last_by a xs o d spent o' g = ends_any ask b (λ o''. tt)

  ask_by : (y : Res) (o : Out) → Follows (taken ts) with_colon y o
      → Ends ask b (pick o.ans (ret N.InfixExpr yes) (rhs 1) (rhs 1)) o.state
      (λ o'. Turns s e (goes (bind y (λ a xs. bind (rec 1 xs) (λ c ys. P.done (ternary e a c) ys)))) (add (took t ts) (add o o')))
  unfolding rhs add makes
  ask_by (P.done a xs) o d =
      rw d.0
      (branch ask b (subst (λ (l : List Symbol). Ends ask b (open_call (expr_binding_power 1)) o.state (Follows o.state expr_nodes (rec 1 l))) d.1.left (below 1 o.state d.1.stands))
      (last_by a xs o d.1 (rec 1 xs)))
  ask_by (P.report vs) o n =
      ends_any ask b (λ o'. noted_after s t ts next vs (o.made ⧺ o'.made) (noted_first (taken ts) vs o.made o'.made n))
  ask_by refused o d = absurd d
  ask_by spent o d = ends_any ask b (λ o'. tt)

  ask_turns : (to : State) → Stands to → to.since ≡ s.since
      → Ends ask b (bump! ⨟ when open_call (expr_binding_power 0) and expect (of_kind K.Colon) then rhs ternary_right else ret N.InfixExpr yes) to
      (Turns s e (goes (ask_turn rec e (symbols false ts))))
  ask_turns to st si =
      after_bump ask b t ts st (ap drop_trivia si ∙ next) (branch ask b middle_follows (ask_by (middle (rec 0 (symbols false ts)))))

  -- ---------------------------------------------------------------- the tests, one after the other

  stays : (to : State) → Stands to → to.since ≡ s.since → Ends ask b (tell yes) to (Stays s)
  unfolding replies
  stays to st si = ends_ret ask b (record { to = to; is = refl; stands = st; since_is = si })

  -- the minimum keeps the operator out, or not
  out_or_in : (p : Prog) (x : Res) (m : ℕ) (y : Bool)
      → ((to : State) → Stands to → to.since ≡ s.since → Ends ask b p to (Turns s e (goes x)))
      → (to : State) → Stands to → to.since ≡ s.since → Ends ask b (pick (truth y) p (tell yes) (tell yes)) to (Turns s e (kept_out y x))
  out_or_in p x m true f to st si = stays to st si
  out_or_in p x m false f to st si = f to st si

  checked : (p : Prog) (x : Res) (l m : ℕ) → ((to : State) → Stands to → to.since ≡ s.since → Ends ask b p to (Turns s e (goes x)))
      → (to : State) → Stands to → to.since ≡ s.since → Ends ask b (when act (less l m) then tell yes else p) to (Turns s e (kept_out (ltb l m) x))
  checked p x l m f to st si = on_test ask b (test_less ask b st) (λ to' st' si'. out_or_in p x m (ltb l m) f to' st' (si' ∙ si))

  levels_turn : (m : ℕ) (ls : List Level) (to : State) → Stands to → to.since ≡ s.since
      → Ends ask b (infix_levels m ls) to (Turns s e (turn_by (operator_in ls (seen t)) rec m e (symbols false ts)))
  unfolding infix_levels operator_in silent first_in
  levels_turn m [] to st si = stays to st si
  levels_turn m (l ∷ ls) to st si =
      on_test ask b (silent_is ask b (t ∷ ts) (one_of l.kinds (seen t)) st (ap drop_trivia si ∙ next) refl)
      (by (one_of l.kinds (seen t)) (λ u g i. levels_turn m ls u g i))
    where
      by : (x : Bool)
          → ((u : State) → Stands u → u.since ≡ s.since → Ends ask b (infix_levels m ls) u (Turns s e (turn_by (operator_in ls (seen t)) rec m e (symbols false ts))))
          → Onward to (λ u.
          Ends ask b (pick (truth x) (infix_levels m ls) (when act (less (left_power l.number) m) then tell yes else bump! ⨟ rhs (right_power l.number)) (when act (less (left_power l.number) m) then tell yes else bump! ⨟ rhs (right_power l.number))) u
          (Turns s e (turn_by (cond x (binds (seen t) (left_power l.number) (right_power l.number)) (operator_in ls (seen t))) rec m e (symbols false ts))))
      by true f u g i =
          checked (bump! ⨟ rhs (right_power l.number)) (bind_turn rec e (seen t) (right_power l.number) (symbols false ts)) (left_power l.number) m
          (λ v j k. bind_turns v j k (seen t) (right_power l.number)) u g (i ∙ si)
      by false f u g i = f u g (i ∙ si)

  -- what `infix_turn` does after its expectation
  ternary_turn : (m : ℕ) (x : Bool) → Onward s (λ u.
      Ends ask b
      (pick (truth x) (infix_levels m binary_levels)
      (when act (less ternary_left m) then tell yes else bump! ⨟ when open_call (expr_binding_power 0) and expect (of_kind K.Colon) then rhs ternary_right else ret N.InfixExpr yes)
      (when act (less ternary_left m) then tell yes else bump! ⨟ when open_call (expr_binding_power 0) and expect (of_kind K.Colon) then rhs ternary_right else ret N.InfixExpr yes)) u
      (Turns s e (turn_by (cond x asks (operator_in binary_levels (seen t))) rec m e (symbols false ts))))
  ternary_turn m true u g i =
      checked (bump! ⨟ when open_call (expr_binding_power 0) and expect (of_kind K.Colon) then rhs ternary_right else ret N.InfixExpr yes) (ask_turn rec e (symbols false ts)) ternary_left m ask_turns u g i
  ternary_turn m false u g i = levels_turn m binary_levels u g i

  -- an Ident is not an operator, so that what stands directly after it is not looked at
  apart : (m : ℕ) (x : Bool) → eqb (seen t) K.Ident ≡ x
      → turn_by (operator (C.plain (seen t))) rec m e (symbols x ts) ≡ turn_by (operator (C.plain (seen t))) rec m e (symbols false ts)
  unfolding operator one_of operator_in
  apart m true i = let k : seen t ≡ K.Ident = eqb-true (seen t) K.Ident i in rw k refl
  apart m false i = refl

  pub token_turns : (m : ℕ) → Ends ask b (infix_turn m) s (Turns s e (turn_of rec m e (symbols false s.since)))
  unfolding infix_turn silent operator first_in
  token_turns m =
      rw (symbols_next s.since t ts next)
      (rw (apart m (eqb (seen t) K.Ident) refl)
      (after_test ask b (test_expected ask b h)
      λ to st si.
      on_test ask b (silent_is ask b (t ∷ ts) (one_of (K.QuestionMark ∷ []) (seen t)) st (ap drop_trivia si ∙ next) refl)
      (λ to' st' si'. ternary_turn m (one_of (K.QuestionMark ∷ []) (seen t)) to' st' (si' ∙ si))))

-- at the end of the input
module _ (ask : Rule → State → Out) (b : Label) where
  levels_end : (m : ℕ) (ls : List Level) (s to : State) → Stands to → to.since ≡ s.since → drop_trivia s.since ≡ [] → Ends ask b (infix_levels m ls) to (Stays s)
  unfolding infix_levels silent first_in replies
  levels_end m [] s to st si e = ends_ret ask b (record { to = to; is = refl; stands = st; since_is = si })
  levels_end m (l ∷ ls) s to st si e =
      on_test ask b (silent_is ask b [] false st (ap drop_trivia si ∙ e) refl) (λ u g i. levels_end m ls s u g (i ∙ si) e)

  end_turns : (m : ℕ) (s : State) → Stands s → drop_trivia s.since ≡ [] → Ends ask b (infix_turn m) s (Stays s)
  unfolding infix_turn silent first_in
  end_turns m s h e =
      after_test ask b (test_expected ask b h)
      λ to st si.
      on_test ask b (silent_is ask b [] false st (ap drop_trivia si ∙ e) refl) (λ u g i. levels_end m binary_levels s u g (i ∙ si) e)

  -- `infix_turn` does what the reader's turn does
  pub turns : (rec : Reader)
      → ((m : ℕ) (s : State) → Stands s → Ends ask b (open_call (expr_binding_power m)) s (Follows s expr_nodes (rec m (symbols false s.since))))
      → (m : ℕ) (e : Expr) (s : State) → Stands s → Ends ask b (infix_turn m) s (Turns s e (turn_of rec m e (symbols false s.since)))
  turns rec below m e s h = go (drop_trivia s.since) refl
    where
      go : (l : List Token) → drop_trivia s.since ≡ l → Ends ask b (infix_turn m) s (Turns s e (turn_of rec m e (symbols false s.since)))
      go [] z = rw (symbols_end s.since z) (end_turns m s h z)
      go (t ∷ ts) z = token_turns ask b rec below s h e t ts z m
