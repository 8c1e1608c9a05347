-- The engine for programs that complete a marker only as certain kinds: what holds of each action and is kept by
-- joining and by closing a marker as such a kind holds of every run of such a program.
use Prim.Native.Nat.{ℕ, suc}
use mathlib.Core.Path.{◌≡◌, refl, sym, subst}
use mathlib.Core.Bool.{Bool, true}
use Rattle.definitions.specs.Prog.{choose, Ans, no, yes, also, again, Rule, Act, Prog}
use Rattle.definitions.specs.Skeleton.{Label, Skeleton, done, ◌⧺◌}
use Rattle.definitions.specs.Run.{State, Out, mark_of, makes, add, perform, closed, marked, unlinked, exec}
use Rattle.laws.proofs.Engine.{Composes, only, any_act, exec_only}
use Rattle.laws.proofs.Kept.{Stands}

module _ (f : ℕ → Bool) (R : State → Skeleton → State → Type 0) where
  -- what is shown of a run's result
  pub record Ran (s : State) (o : Out) : Type 0 where
    pub shape : f o.shape ≡ true
    pub stands : Stands s → Stands o.state
    pub makes_it : Stands s → R s o.made o.state

  -- what has to be shown of R
  pub record Holds : Type 0 where
    pub ignored : f 0 ≡ true
    pub idle : (s : State) → Stands s → R s done s
    pub act : (b : Label) (a : Act) (s : State) → Ran s (perform b a s)
    pub join : (s u v : State) (p q : Skeleton) → R s p u → R u q v → R s (p ⧺ q) v
    pub close : (s u v : State) (k : ℕ) (a i : Skeleton) → f k ≡ true → R s a u → R u i v → R s (closed k (mark_of u) (mark_of v) a i) v

module _ (f : ℕ → Bool) (R : State → Skeleton → State → Type 0) (H : Holds f R) where
  pub ran_add : (s : State) (o o' : Out) → Ran f R s o → Ran f R o.state o' → Ran f R s (add o o')
  unfolding add
  ran_add s o o' p q =
      record {
        shape = q.shape;
        stands = λ h. q.stands (p.stands h);
        makes_it = λ h. H.join s o.state o'.state o.made o'.made (p.makes_it h) (q.makes_it (p.stands h));
      }

  pub ran_ret : (k : ℕ) (a : Ans) (s : State) → f k ≡ true → Ran f R s (record { ans = a; shape = k; made = done; state = s })
  ran_ret k a s e = record { shape = e; stands = λ h. h; makes_it = H.idle s }

  pub ran_choose : (x : Ans) (n y a : State → Out) (s : State) → Ran f R s (n s) → Ran f R s (y s) → Ran f R s (a s) → Ran f R s (choose x n y a s)
  unfolding choose
  ran_choose no n y a s p q r = p
  ran_choose yes n y a s p q r = q
  ran_choose also n y a s p q r = r
  ran_choose again n y a s p q r = q

  -- a chain under way: its open marker was pushed at some state between
  record Under (s : State) (m : ℕ) (a i : Skeleton) (u : State) : Type 0 where
    at : State
    pushed : m ≡ mark_of at
    stands : Stands u
    before : R s a at
    since : R at i u

  closes : (s : State) (m : ℕ) (a i : Skeleton) (u : State) (k : ℕ) → f k ≡ true → Under s m a i u → R s (closed k m (mark_of u) a i) u
  closes s m a i u k e c =
      subst (λ (x : ℕ). R s (closed k x (mark_of u) a i) u) (sym c.pushed) (H.close s c.at u k a i e c.before c.since)

  composed : Composes (Ran f R) (λ s m a i u. Stands s → Under s m a i u)
  unfolding marked makes unlinked
  composed =
      record {
        idle = λ a s. ran_ret 0 a s H.ignored;
        add = ran_add;
        mark = λ s o p.
            record {
              shape = H.ignored;
              stands = p.stands;
              makes_it = λ h. H.close s s o.state o.shape done o.made p.shape (H.idle s h) (p.makes_it h);
            };
        turn = λ s o p. record { shape = H.ignored; stands = p.stands; makes_it = p.makes_it };
        first = λ s o p h. record { at = s; pushed = refl; stands = p.stands h; before = H.idle s h; since = p.makes_it h };
        more = λ s u m a i o c p h.
            let d : Under s m a i u = c h in
            record {
              at = d.at;
              pushed = d.pushed;
              stands = p.stands d.stands;
              before = d.before;
              since = H.join d.at u o.state i o.made d.since (p.makes_it d.stands);
            };
        link = λ s u m k a i o b q e c h.
            let d : Under s m a (i ⧺ o.made) o.state = c h in
            record {
              at = o.state;
              pushed = refl;
              stands = d.stands;
              before = unfold closed in closes s m a (i ⧺ o.made) o.state (suc k) (subst (λ (j : ℕ). f j ≡ true) e q.shape) d;
              since = H.idle o.state d.stands;
            };
        last = λ s u m a i x c. record { shape = H.ignored; stands = λ h. (c h).stands; makes_it = λ h. closes s m a i u 0 H.ignored (c h) };
      }

  -- every such program
  pub ran_exec : (ask : Rule → State → Out) → ((r : Rule) (s : State) → Ran f R s (ask r s)) → (b : Label) (p : Prog) (s : State) → only f any_act p ≡ true → Ran f R s (exec ask b p s)
  ran_exec ask asked b p s e = exec_only (Ran f R) _ composed f any_act ran_ret (λ c a e u. H.act c a u) ask asked b p s e
