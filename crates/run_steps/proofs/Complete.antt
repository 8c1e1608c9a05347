-- The steps leave out no report and no refusal 5: one induction over programs.
use Prim.Native.Nat.{ℕ, zero, suc}
use mathlib.Core.Path.{◌≡◌, refl, sym, ap, ◌∙◌}
use mathlib.Core.Bool.{Bool, true, false, cond}
use mathlib.Core.List.{List, [], ◌∷◌, ◌++◌, append_assoc, append-nil}
use lib.Dec.{eqb}
use lib.ListN.{length}
use Rattle.definitions.specs.Layout.{MOST_OPEN_CALLS}
use Rattle.definitions.specs.TokenKind as K
use Rattle.definitions.specs.Token.{Token, trivia}
use Rattle.definitions.specs.Prog.{choose, Ans, no, yes, also, again, Rule, Act, silent_at, at_end, immediate, immediate_next, add_expected, bump, bump_name, bump_argument, emit, emit_unclosed, less, Prog, ret, act, ◌⨟◌, case, in_marker, loop, chain, brace, open_call}
use Rattle.definitions.specs.Grammar.{grammar, whole}
use Rattle.definitions.specs.Skeleton.{Label, no_label, Skeleton, done, token, ◌⧺◌}
use Rattle.definitions.specs.Run.{State, Out, mark_of, peeked, replies, makes, taken, do_bump, do_name, add, at_depth, do_argument, do_emit, do_expected, perform, closed, marked, is_again, goes_on, iter, unlinked, by_shape, links, chained, here, exec, run}
use Rattle.definitions.specs.Report.{Push, event, reported, exceeded, pushes}
use Rattle.definitions.specs.Call.{run_entry}
use Rattle.basics.proofs.Tests.{cond-all}
use Rattle.laws.proofs.Skeleton.{pushes_join, pushes_closed}
use Rattle.laws.proofs.Fuel.{turn_of}
use Rattle.run_steps.specs.Steps.{Step, begun, branched, turned, linked, spent, iter_steps, links_steps, steps, run_steps, entry_steps}
use Rattle.run_steps.specs.Steps as Steps
use Rattle.run_steps.specs.Signs.{Sign, told, refused, signs, program_signs, step_signs, Complete}

-- ---------------------------------------------------------------- put together

signs_append : (l m : List Push) → signs (l ++ m) ≡ signs l ++ signs m
unfolding signs
signs_append [] m = refl
signs_append (event x ∷ l) m = signs_append l m
signs_append (reported r ∷ l) m = ap (told r.message r.hint r.mark r.range r.pool ∷◌) (signs_append l m)
signs_append (exceeded x ∷ l) m = ap (refused ∷◌) (signs_append l m)

steps_append : (l m : List Step) → step_signs (l ++ m) ≡ step_signs l ++ step_signs m
unfolding step_signs
steps_append [] m = refl
steps_append (begun p s ∷ l) m = ap (program_signs p s ++◌) (steps_append l m) ∙ sym (append_assoc (program_signs p s) (step_signs l) (step_signs m))
steps_append (branched a ∷ l) m = steps_append l m
steps_append (turned s o ∷ l) m = steps_append l m
steps_append (linked s o ∷ l) m = steps_append l m
steps_append (spent ∷ l) m = steps_append l m
steps_append (Steps.exceeded ∷ l) m = ap (refused ∷◌) (steps_append l m)

-- the signs of what is made
abbrev made_signs : Skeleton → List Sign
made_signs p = signs (pushes p)

join_signs : (p q : Skeleton) → made_signs (p ⧺ q) ≡ made_signs p ++ made_signs q
join_signs p q = ap signs (pushes_join p q) ∙ signs_append (pushes p) (pushes q)

closed_signs : (k m m' : ℕ) (a i : Skeleton) → made_signs (closed k m m' a i) ≡ made_signs a ++ made_signs i
unfolding signs
closed_signs k m m' a i =
    ap signs (pushes_closed k m m' a i)
    ∙ signs_append (pushes a) (event m ∷ (pushes i ++ (event m' ∷ [])))
    ∙ ap (made_signs a ++◌) (signs_append (pushes i) (event m' ∷ []) ∙ append-nil (made_signs i))

-- the steps tell what was made
pub record Tells (o : Out) (ss : List Step) : Type 0 where
  pub same : step_signs ss ≡ made_signs o.made

tells_begun : (p : Prog) (s : State) (o : Out) (ss : List Step) → program_signs p s ≡ [] → Tells o ss → Tells o (begun p s ∷ ss)
unfolding step_signs
tells_begun p s o ss e h = record { same = ap (◌++ step_signs ss) e ∙ h.same }

tells_add : (o x : Out) (ss us : List Step) → Tells o ss → Tells x us → Tells (add o x) (ss ++ us)
unfolding add
tells_add o x ss us h g =
    record { same = steps_append ss us ∙ ap (◌++ step_signs us) h.same ∙ ap (made_signs o.made ++◌) g.same ∙ sym (join_signs o.made x.made) }

tells_marked : (s : State) (o : Out) (ss : List Step) → Tells o ss → Tells (marked s o) ss
unfolding marked makes pushes signs
tells_marked s o ss h = record { same = h.same ∙ sym (closed_signs o.shape (mark_of s) (mark_of o.state) done o.made) }

-- ---------------------------------------------------------------- actions

-- tokens and names give no signs
abbrev Silent : Out → Type 0
Silent o = [] ≡ made_signs o.made

bump_silent : (s : State) (l : List Token) → Silent (do_bump s l)
unfolding do_bump replies makes pushes signs
bump_silent s [] = refl
bump_silent s (t ∷ ts) = refl

name_silent : (ks : List ℕ) (s : State) (l : List Token) → Silent (do_name ks s l)
unfolding do_name replies makes pushes signs
name_silent ks s [] = refl
name_silent ks s (t ∷ ts) = refl

depth_silent : (n : ℕ) (o : Out) (f : ℕ → Out) → Silent o → ((m : ℕ) → Silent (f m)) → Silent (at_depth n o f)
unfolding at_depth
depth_silent zero o f p q = p
depth_silent (suc n) o f p q = q n

argument_silent : (n : ℕ) (s : State) (ts : List Token) → Silent (do_argument n s ts)
unfolding do_argument replies makes add ◌⧺◌ pushes signs
argument_silent n s [] = refl
argument_silent n s (t ∷ ts) =
    let go : (m : ℕ) → Silent (add (makes yes (token t (length ts) done) (taken ts)) (do_argument m (taken ts) ts)) = λ m. argument_silent m (taken ts) ts in
    cond-all Silent (trivia t) (argument_silent n s ts)
    (cond-all Silent (eqb t.kind K.LParen) (go (suc n))
    (cond-all Silent (eqb t.kind K.RParen) (depth_silent n _ _ refl go) (cond-all Silent (eqb t.kind K.Comma) (depth_silent n _ _ refl (λ m. go (suc m))) (go n))))

act_tells : (b : Label) (a : Act) (s : State) → Tells (perform b a s) (begun (act a) s ∷ [])
unfolding perform step_signs program_signs replies makes do_emit do_expected pushes signs
act_tells b (silent_at ks) s = record { same = refl }
act_tells b at_end s = record { same = refl }
act_tells b (immediate k) s = record { same = refl }
act_tells b (immediate_next k) s = record { same = refl }
act_tells b (add_expected k) s = record { same = refl }
act_tells b bump s = record { same = bump_silent (peeked s) (peeked s).rest }
act_tells b (bump_name ks) s = record { same = name_silent ks (peeked s) (peeked s).rest }
act_tells b bump_argument s = record { same = argument_silent 0 s s.rest }
act_tells b (emit m h) s = record { same = refl }
act_tells b emit_unclosed s = record { same = refl }
act_tells b (less m n) s = record { same = refl }

-- ---------------------------------------------------------------- loops and chains

-- x and us: what the other turns made, and their steps
turn_tells : (s : State) (o x : Out) (ss us : List Step) → Tells o ss → Tells x us → (b : Bool) → Tells (cond b (add (turn_of o) x) (turn_of o)) (ss ++ (turned s o ∷ cond b us []))
unfolding makes step_signs add
turn_tells s o x ss us h g true =
    record { same = steps_append ss (turned s o ∷ us) ∙ ap (◌++ step_signs us) h.same ∙ ap (made_signs o.made ++◌) g.same ∙ sym (join_signs o.made x.made) }
turn_tells s o x ss us h g false = record { same = steps_append ss (turned s o ∷ []) ∙ append-nil (step_signs ss) ∙ h.same }

module _ (f : State → Out) (g : State → List Step) (T : (s : State) → Tells (f s) (g s)) where
  iter_tells : (n : ℕ) (s : State) → Tells (iter n f s) (iter_steps n f g s)
  unfolding iter iter_steps replies makes step_signs pushes signs
  iter_tells zero s = record { same = refl }
  iter_tells (suc n) s = turn_tells s (f s) (iter n f (f s).state) (g s) (iter_steps n f g (f s).state) (T s) (iter_tells n (f s).state) (goes_on s (f s))

  -- a chain under way: what a and p hold was made before these steps
  abbrev Under : Skeleton → Skeleton → Out → List Step → Type 0
  Under a p o ss = (made_signs a ++ made_signs p) ++ step_signs ss ≡ made_signs o.made

  -- a link that made i takes in what was made before
  link_signs : (k m m' : ℕ) (a p i : Skeleton) (l : List Sign) → (made_signs a ++ made_signs p) ++ (made_signs i ++ l) ≡ made_signs (closed k m m' a (p ⧺ i)) ++ l
  link_signs k m m' a p i l =
      append_assoc (made_signs a) (made_signs p) (made_signs i ++ l)
      ∙ ap (made_signs a ++◌) (sym (append_assoc (made_signs p) (made_signs i) l))
      ∙ sym (append_assoc (made_signs a) (made_signs p ++ made_signs i) l)
      ∙ ap (λ (x : List Sign). (made_signs a ++ x) ++ l) (sym (join_signs p i))
      ∙ ap (◌++ l) (sym (closed_signs k m m' a (p ⧺ i)))

  under_link : (s : State) (k m m' : ℕ) (a p : Skeleton) (us : List Step) (x : List Sign)
      → made_signs (closed k m m' a (p ⧺ (f s).made)) ++ step_signs us ≡ x → (made_signs a ++ made_signs p) ++ step_signs (g s ++ (linked s (f s) ∷ us)) ≡ x
  unfolding step_signs
  under_link s k m m' a p us x e =
      ap ((made_signs a ++ made_signs p) ++◌) (steps_append (g s) (linked s (f s) ∷ us) ∙ ap (◌++ step_signs us) (T s).same) ∙ link_signs k m m' a p (f s).made (step_signs us) ∙ e

  -- the last marker is ignored
  unlinked_signs : (m : ℕ) (a p : Skeleton) (x : Ans) (s : State) → (made_signs a ++ made_signs p) ++ [] ≡ made_signs (unlinked m a p x s).made
  unfolding unlinked makes
  unlinked_signs m a p x s = append-nil (made_signs a ++ made_signs p) ∙ sym (closed_signs 0 m (mark_of s) a p)

  -- one link: k is its shape, b whether it goes on; x and us: what the other links make, and their steps
  link_tells : (s : State) (m m' : ℕ) (a p : Skeleton) (x : Out) (us : List Step) → Under (closed (f s).shape m m' a (p ⧺ (f s).made)) done x us → (k : ℕ) (b : Bool)
      → Under a p (by_shape k (unlinked m a (p ⧺ (f s).made) (f s).ans (f s).state) (cond b x (unlinked m' (closed (f s).shape m m' a (p ⧺ (f s).made)) done (f s).ans (f s).state)))
      (g s ++ (linked s (f s) ∷ by_shape k [] (cond b us [])))
  unfolding by_shape unlinked makes pushes signs step_signs
  link_tells s m m' a p x us e zero b = under_link s 0 m (mark_of (f s).state) a p [] _ (append-nil _)
  link_tells s m m' a p x us e (suc k) true = under_link s (f s).shape m m' a p us _ (ap (◌++ step_signs us) (sym (append-nil (made_signs (closed (f s).shape m m' a (p ⧺ (f s).made))))) ∙ e)
  link_tells s m m' a p x us e (suc k) false =
      under_link s (f s).shape m m' a p [] _ (sym (closed_signs 0 m' (mark_of (f s).state) (closed (f s).shape m m' a (p ⧺ (f s).made)) done))

  links_tells : (n : ℕ) (m : ℕ) (a p : Skeleton) (s : State) → Under a p (links n f m a p s) (links_steps n f g s)
  unfolding links links_steps step_signs
  links_tells zero m a p s = unlinked_signs m a p again s
  links_tells (suc n) m a p s =
      link_tells s m (mark_of (f s).state) a p (links n f (mark_of (f s).state) (closed (f s).shape m (mark_of (f s).state) a (p ⧺ (f s).made)) done (f s).state) (links_steps n f g (f s).state)
      (links_tells n (mark_of (f s).state) (closed (f s).shape m (mark_of (f s).state) a (p ⧺ (f s).made)) done (f s).state) (f s).shape (goes_on s (f s))

  -- a chain whose first program gave o
  chained_tells : (s : State) (o : Out) (ss : List Step) → Tells o ss
      → Tells (chained f s o) (ss ++ cond (is_again o.ans) (links_steps (suc (length o.state.rest)) f g o.state) [])
  unfolding chained
  chained_tells s o ss h = go (is_again o.ans)
    where
      before : (us : List Step) → step_signs (ss ++ us) ≡ made_signs o.made ++ step_signs us
      before us = steps_append ss us ∙ ap (◌++ step_signs us) h.same

      go : (b : Bool)
          → Tells (cond b (links (suc (length o.state.rest)) f (mark_of s) done o.made o.state) (unlinked (mark_of s) done o.made o.ans o.state))
          (ss ++ cond b (links_steps (suc (length o.state.rest)) f g o.state) [])
      go true =
          record {
            same = before (links_steps (suc (length o.state.rest)) f g o.state)
                ∙ unfold pushes signs in (links_tells (suc (length o.state.rest)) (mark_of s) done o.made o.state);
          }
      go false = record { same = unfold pushes signs step_signs in (before [] ∙ unlinked_signs (mark_of s) done o.made o.ans o.state) }

-- ---------------------------------------------------------------- every program

choose_tells : (x : Ans) (n y a : State → Out) (tn ty ta : State → List Step) → ((s : State) → Tells (n s) (tn s)) → ((s : State) → Tells (y s) (ty s)) → ((s : State) → Tells (a s) (ta s))
    → (s : State) → Tells (choose x n y a s) (choose x tn ty ta s)
unfolding choose
choose_tells no n y a tn ty ta p q r s = p s
choose_tells yes n y a tn ty ta p q r s = q s
choose_tells also n y a tn ty ta p q r s = r s
choose_tells again n y a tn ty ta p q r s = q s

asked_tells : (x : Ans) (o : Out) (ss : List Step) → Tells o ss → Tells o (branched x ∷ ss)
unfolding step_signs
asked_tells x o ss h = record { same = h.same }

module _ (ask : Rule → State → Out) (inside : Rule → State → List Step) (A : (r : Rule) (s : State) → Tells (ask r s) (inside r s)) where
  pub exec_tells : (b : Label) (p : Prog) (s : State) → Tells (exec ask b p s) (steps ask inside b p s)
  unfolding exec steps program_signs
  exec_tells b (ret k a) s = record { same = unfold step_signs program_signs pushes signs in refl }
  exec_tells b (act a) s = act_tells b a s
  exec_tells b (p ⨟ q) s =
      tells_begun (p ⨟ q) s _ _ refl (tells_add (exec ask b p s) (exec ask b q (exec ask b p s).state) (steps ask inside b p s) (steps ask inside b q (exec ask b p s).state) (exec_tells b p s) (exec_tells b q (exec ask b p s).state))
  exec_tells b (case c n y a) s =
      tells_begun (case c n y a) s _ _ refl
      (tells_add (exec ask b c s) (choose (exec ask b c s).ans (exec ask b n) (exec ask b y) (exec ask b a) (exec ask b c s).state) (steps ask inside b c s)
      (branched (exec ask b c s).ans ∷ choose (exec ask b c s).ans (steps ask inside b n) (steps ask inside b y) (steps ask inside b a) (exec ask b c s).state) (exec_tells b c s)
      (asked_tells (exec ask b c s).ans _ _
      (choose_tells (exec ask b c s).ans (exec ask b n) (exec ask b y) (exec ask b a) (steps ask inside b n) (steps ask inside b y) (steps ask inside b a) (exec_tells b n) (exec_tells b y) (exec_tells b a) (exec ask b c s).state)))
  exec_tells b (in_marker p) s = tells_begun (in_marker p) s _ _ refl (tells_marked s (exec ask b p s) (steps ask inside b p s) (exec_tells b p s))
  exec_tells b (loop p) s = tells_begun (loop p) s _ _ refl (iter_tells (exec ask b p) (steps ask inside b p) (exec_tells b p) (suc (length s.rest)) s)
  exec_tells b (chain p q) s =
      tells_begun (chain p q) s _ _ refl (chained_tells (exec ask b q) (steps ask inside b q) (exec_tells b q) s (exec ask b p s) (steps ask inside b p s) (exec_tells b p s))
  exec_tells b (brace p) s = tells_begun (brace p) s _ _ refl (exec_tells (here s.rest) p s)
  exec_tells b (open_call r) s = tells_begun (open_call r) s _ _ refl (A r s)

pub run_tells : (n : ℕ) (r : Rule) (s : State) → Tells (run n r s) (run_steps n r s)
unfolding run run_steps makes pushes signs step_signs
run_tells zero r s = record { same = refl }
run_tells (suc n) r s = exec_tells (run n) (run_steps n) (run_tells n) no_label (grammar r) s

pub complete : Complete
unfolding entry_steps run_entry
complete e ts = (exec_tells (run MOST_OPEN_CALLS) (run_steps MOST_OPEN_CALLS) (run_tells MOST_OPEN_CALLS) no_label (whole e) (taken ts)).same
