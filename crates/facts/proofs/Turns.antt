-- A turn of a loop, a link of a chain and a call begin anew: what is known after them, and that a turn that is to go on
-- has moved.
use Prim.Native.Nat.{ℕ, zero, suc, ◌≤◌, ◌<◌}
use native.Mathlib.Nat.{le_trans, not-suc-le-zero}
use native.Mathlib.Omega.{arith}
use mathlib.Core.Path.{◌≡◌, refl, subst}
use mathlib.Core.Bool.{Bool, true, false, cond, ◌&&◌}
use mathlib.Core.List.{List, [], ◌∷◌, ◌++◌}
use lib.Dec.{ltb}
use borrow.Author.Tests.{ltb-false}
use lib.ListN.{length}
use Rattle.definitions.specs.Prog.{Ans, again}
use Rattle.definitions.specs.Skeleton.{Skeleton, done, ◌⧺◌}
use Rattle.definitions.specs.Run.{State, Out, mark_of, makes, add, closed, is_again, goes_on, iter, unlinked, by_shape, links}
use Rattle.basics.proofs.Tests.{and_left, and_right}
use Rattle.laws.proofs.Fuel.{turn_of}
use Rattle.laws.proofs.Sound.{is_again_eq}
use Rattle.run_steps.specs.Steps.{Step, turned, linked, EveryStep, iter_steps, links_steps}
use Rattle.facts.proofs.Facts.{by_never, nowhere, Fact, fact_within, fact_never, if_fresh, if_took}
use Rattle.facts.proofs.Look.{Look, get, stopped, later, entering, from, Turns, turns, joined, again_of, left_over, moves}
use Rattle.facts.proofs.Holds.{Right, Way, fresh_way, took_way, Holds, right_left, right_right, right_weaken, right_nowhere, holds_weaken, holds_never, begins_fresh, ends_fresh, begins_took, ends_took}
use Rattle.facts.proofs.Looks.{in_first, in_second, in_stopped, in_later}
use Rattle.facts.proofs.Good.{Good, Free, each_append, free_append, Gives, Sound}

-- a program is looked at only where it is reached
pub from_sound : (f : Fact → Look) (G : State → Out) (T : State → List Step) → Sound f G T → Sound (λ d. from d f) G T
unfolding from
from_sound f G T S d s₀ s m h = go (fact_never d) refl m
  where
    go : (b : Bool) → fact_never d ≡ b → (entering b f d).ok ≡ true → Gives (entering b f d) s₀ (G s) (T s)
    go true e i = holds_never d s₀ s e h
    go false e i = S d s₀ s i h

-- ---------------------------------------------------------------- a turn that answers again

-- no answer again where no token was taken
took_one : (d : Fact) (s u : State) → by_never d.fresh ≡ true → Holds d s u → (mark_of u < length s.rest) × Right d.took u
unfolding by_never
took_one d s u e h = go h.way
  where
    go : Way d s u → (mark_of u < length s.rest) × Right d.took u
    go (took_way m r) = (m, r)
    go (fresh_way m r) = right_nowhere u (right_weaken d.fresh nowhere u e r)

took_again : (l : Look) (s u : State) (k : ℕ) → moves l ≡ true → Holds (get l again k) s u → (mark_of u < length s.rest) × Right (again_of l).took u
unfolding moves get
took_again l s u zero e h =
    let w : (mark_of u < length s.rest) × Right l.if_again.took u = took_one l.if_again s u (and_left (by_never l.if_again.fresh) _ e) h in
    (w.0, right_left l.if_again.took l.if_linked.took u w.1)
took_again l s u (suc k) e h =
    let w : (mark_of u < length s.rest) × Right l.if_linked.took u = took_one l.if_linked s u (and_right (by_never l.if_again.fresh) _ e) h in
    (w.0, right_right l.if_again.took l.if_linked.took u w.1)

shaped_again : (l : Look) (s u : State) (k : ℕ) → fact_never l.if_again ≡ true → Holds (get l again k) s u → 0 < k
unfolding get
shaped_again l s u zero e h = holds_never l.if_again s u e h
shaped_again l s u (suc k) e h = omega arith

-- ---------------------------------------------------------------- one turn

-- a turn from s that gave o by the steps ss, in a loop whose head is i
pub record Turned (i : Fact) (t : Turns) (s₀ s : State) (o : Out) (ss : List Step) : Type 0 where
  pub each : EveryStep Good ss
  pub facts : Free ss → Holds (get (joined t) o.ans o.shape) s₀ o.state
  pub moved : Free ss → is_again o.ans ≡ true → length o.state.rest < length s.rest
  pub onward : Free ss → is_again o.ans ≡ true → Holds i s₀ o.state
  pub shaped : fact_never t.first.if_again ≡ true → fact_never t.after.if_again ≡ true → Free ss → is_again o.ans ≡ true → 0 < o.shape

module _ (i : Fact) (t : Turns) (closed-under : fact_within (left_over t) i ≡ true) (s₀ s : State) (below : length s.rest ≤ length s₀.rest) (o : Out) (ss : List Step) where
  -- l: the half of the look that the turn was begun with
  turned_by : (l : Look) → moves l ≡ true → Gives l s o ss
      → (Holds (get l o.ans o.shape) s o.state → Holds (get (joined t) o.ans o.shape) s₀ o.state)
      → (Right (again_of l).took o.state → Right (left_over t).took o.state)
      → (fact_never t.first.if_again ≡ true → fact_never t.after.if_again ≡ true → fact_never l.if_again ≡ true)
      → Turned i t s₀ s o ss
  turned_by l e g lift right half =
      let at_again : Free ss → is_again o.ans ≡ true → Holds (get l again o.shape) s o.state =
      λ f a. subst (λ (x : Ans). Holds (get l x o.shape) s o.state) (is_again_eq o.ans a) (g.facts f) in
      let took : Free ss → is_again o.ans ≡ true → (mark_of o.state < length s.rest) × Right (again_of l).took o.state =
      λ f a. took_again l s o.state o.shape e (at_again f a) in
      record {
        each = g.each;
        facts = λ f. lift (g.facts f);
        moved = λ f a. let w : mark_of o.state < length s.rest = (took f a).0 in let v : length o.state.rest ≤ mark_of o.state = (at_again f a).within in omega arith;
        onward = λ f a.
            holds_weaken (left_over t) i s₀ o.state closed-under
            (record { within = (at_again f a).within; below = le_trans (at_again f a).below below; way = took_way (le_trans (took f a).0 below) (right (took f a).1) });
        shaped = λ p q f a. shaped_again l s o.state o.shape (half p q) (at_again f a);
      }

-- a turn, begun anew where no token was taken or where one was
module _ (i : Fact) (f : Fact → Look) (G : State → Out) (T : State → List Step) (S : Sound f G T) where
  pub turn_gives : (s₀ s : State) → ((turns i f).first.ok && (turns i f).after.ok) ≡ true → (moves (turns i f).first && moves (turns i f).after) ≡ true
      → fact_within (left_over (turns i f)) i ≡ true → Holds i s₀ s → Turned i (turns i f) s₀ s (G s) (T s)
  turn_gives s₀ s ok mv cl h = go h.way
    where
      go : Way i s₀ s → Turned i (turns i f) s₀ s (G s) (T s)
      go (fresh_way m r) =
          turned_by i (turns i f) cl s₀ s h.below (G s) (T s) (turns i f).first (and_left (moves (turns i f).first) _ mv)
          (unfold turns in (from_sound f G T S (if_fresh i) s s (unfold turns in (and_left (turns i f).first.ok _ ok)) (begins_fresh i s h.within r)))
          (λ x. unfold joined in (in_first s₀ (G s).state (turns i f).first (later (turns i f).after) (G s).ans (G s).shape (ends_fresh (get (turns i f).first (G s).ans (G s).shape) s₀ s (G s).state m h.below x)))
          (λ x. unfold left_over in (right_left (again_of (turns i f).first).took (again_of (turns i f).after).took (G s).state x))
          (λ p q. p)
      go (took_way m r) =
          turned_by i (turns i f) cl s₀ s h.below (G s) (T s) (turns i f).after (and_right (moves (turns i f).first) _ mv)
          (unfold turns in (from_sound f G T S (if_took i) s s (unfold turns in (and_right (turns i f).first.ok _ ok)) (begins_took i s h.within r)))
          (λ x. unfold joined in (in_second s₀ (G s).state (turns i f).first (later (turns i f).after) (G s).ans (G s).shape
          (in_later s₀ (G s).state (turns i f).after (G s).ans (G s).shape (ends_took (get (turns i f).after (G s).ans (G s).shape) s₀ s (G s).state m h.below x))))
          (λ x. unfold left_over in (right_right (again_of (turns i f).first).took (again_of (turns i f).after).took (G s).state x))
          (λ p q. q)

-- a call begins anew too
module _ (f : Fact → Look) (G : State → Out) (T : State → List Step) (S : Sound f G T) where
  pub joined_sound : (d : Fact) (s₀ s : State) → (joined (turns d f)).ok ≡ true → Holds d s₀ s → Gives (joined (turns d f)) s₀ (G s) (T s)
  unfolding joined turns
  joined_sound d s₀ s ok h = go h.way
    where
      go : Way d s₀ s → Gives (joined (turns d f)) s₀ (G s) (T s)
      go (fresh_way m r) =
          let g : Gives (turns d f).first s (G s) (T s) = from_sound f G T S (if_fresh d) s s (and_left (turns d f).first.ok _ ok) (begins_fresh d s h.within r) in
          record {
            each = g.each;
            facts = λ x. in_first s₀ (G s).state (turns d f).first (later (turns d f).after) (G s).ans (G s).shape (ends_fresh (get (turns d f).first (G s).ans (G s).shape) s₀ s (G s).state m h.below (g.facts x));
          }
      go (took_way m r) =
          let g : Gives (turns d f).after s (G s) (T s) = from_sound f G T S (if_took d) s s (and_right (turns d f).first.ok _ ok) (begins_took d s h.within r) in
          record {
            each = g.each;
            facts = λ x.
                in_second s₀ (G s).state (turns d f).first (later (turns d f).after) (G s).ans (G s).shape
                (in_later s₀ (G s).state (turns d f).after (G s).ans (G s).shape (ends_took (get (turns d f).after (G s).ans (G s).shape) s₀ s (G s).state m h.below (g.facts x)));
          }

-- ---------------------------------------------------------------- loops

not_below : (a b : ℕ) → a ≤ b → b < a → ⊥
not_below a b p q = omega arith

-- a turn that does not go on, and moved if it was to, does not answer again
stops : (s : State) (o : Out) → goes_on s o ≡ false → (is_again o.ans ≡ true → length o.state.rest < length s.rest) → is_again o.ans ≡ false
unfolding goes_on
stops s o e m = go (is_again o.ans) refl
  where
    go : (b : Bool) → is_again o.ans ≡ b → is_again o.ans ≡ false
    go false i = i
    go true i =
        let w : length o.state.rest < length s.rest = m i in
        let v : ltb (length o.state.rest) (length s.rest) ≡ false = subst (λ (b : Bool). (b && ltb (length o.state.rest) (length s.rest)) ≡ false) i e in
        absurd (not_below (length s.rest) (length o.state.rest) (ltb-false _ _ v) w)

goes_again : (s : State) (o : Out) → goes_on s o ≡ true → is_again o.ans ≡ true
unfolding goes_on
goes_again s o e = and_left (is_again o.ans) _ e

module _ (i : Fact) (t : Turns) (s₀ s : State) (o : Out) (ss : List Step) (w : Turned i t s₀ s o ss) where
  -- the last turn
  last_facts : goes_on s o ≡ false → Free ss → (j : ℕ) → Holds (get (stopped (joined t)) o.ans j) s₀ o.state
  last_facts e f j = in_stopped s₀ o.state (joined t) o.ans o.shape j (stops s o e (w.moved f)) (w.facts f)

  -- x and us: what the other turns give, and their steps
  pub one_turn : (x : Out) (us : List Step) → (length o.state.rest < length s.rest → Holds i s₀ o.state → Gives (stopped (joined t)) s₀ x us) → (b : Bool) → goes_on s o ≡ b
      → Gives (stopped (joined t)) s₀ (cond b (add (turn_of o) x) (turn_of o)) (ss ++ (turned s o ∷ cond b us []))
  unfolding makes add
  one_turn x us k true e =
      record {
        each = each_append Good ss (turned s o ∷ us) w.each (λ f. (w.moved f, (k (w.moved f (goes_again s o e)) (w.onward f (goes_again s o e))).each));
        facts = λ f.
            let v : Free ss × Free us = free_append ss (turned s o ∷ us) f in
            (k (w.moved v.0 (goes_again s o e)) (w.onward v.0 (goes_again s o e))).facts v.1;
      }
  one_turn x us k false e =
      record {
        each = each_append Good ss (turned s o ∷ []) w.each (λ f. (w.moved f, tt));
        facts = λ f. last_facts e (free_append ss (turned s o ∷ []) f).0 0;
      }

  -- a link: its marker is completed, and it goes on or not
  pub on_link : (m : ℕ) (a p : Skeleton) (x : Out) (us : List Step) → (Free ss → is_again o.ans ≡ true → 0 < o.shape)
      → (length o.state.rest < length s.rest → Holds i s₀ o.state → Gives (stopped (joined t)) s₀ x us) → (b : Bool) → goes_on s o ≡ b
      → Gives (stopped (joined t)) s₀ (cond b x (unlinked m a p o.ans o.state)) (ss ++ (linked s o ∷ cond b us []))
  unfolding unlinked makes
  on_link m a p x us h k true e =
      record {
        each = each_append Good ss (linked s o ∷ us) w.each (λ f. (λ g. (w.moved f g, h f g), (k (w.moved f (goes_again s o e)) (w.onward f (goes_again s o e))).each));
        facts = λ f.
            let v : Free ss × Free us = free_append ss (linked s o ∷ us) f in
            (k (w.moved v.0 (goes_again s o e)) (w.onward v.0 (goes_again s o e))).facts v.1;
      }
  on_link m a p x us h k false e =
      record {
        each = each_append Good ss (linked s o ∷ []) w.each (λ f. (λ g. (w.moved f g, h f g), tt));
        facts = λ f. last_facts e (free_append ss (linked s o ∷ []) f).0 0;
      }

  -- a link that shapes no marker is the last
  off_link : (m : ℕ) (a p : Skeleton) → (Free ss → is_again o.ans ≡ true → ⊥) → Gives (stopped (joined t)) s₀ (unlinked m a p o.ans o.state) (ss ++ (linked s o ∷ []))
  unfolding unlinked makes
  off_link m a p h =
      record {
        each = each_append Good ss (linked s o ∷ []) w.each (λ f. (λ g. absurd (h f g), tt));
        facts = λ f.
            let v : Free ss = (free_append ss (linked s o ∷ []) f).0 in
            in_stopped s₀ o.state (joined t) o.ans o.shape 0 (not_again (is_again o.ans) (h v)) (w.facts v);
      }
    where
      not_again : (b : Bool) → (b ≡ true → ⊥) → b ≡ false
      not_again true n = absurd (n refl)
      not_again false n = refl

  pub one_link : (m : ℕ) (a p : Skeleton) (m' : ℕ) (a' p' : Skeleton) (x : Out) (us : List Step) → (Free ss → is_again o.ans ≡ true → 0 < o.shape)
      → (length o.state.rest < length s.rest → Holds i s₀ o.state → Gives (stopped (joined t)) s₀ x us) → (k : ℕ) → o.shape ≡ k
      → Gives (stopped (joined t)) s₀ (by_shape k (unlinked m a p o.ans o.state) (cond (goes_on s o) x (unlinked m' a' p' o.ans o.state)))
      (ss ++ (linked s o ∷ by_shape k [] (cond (goes_on s o) us [])))
  unfolding by_shape
  one_link m a p m' a' p' x us h k zero e = off_link m a p (λ f g. not_zero (subst (λ (n : ℕ). 0 < n) e (h f g)))
    where
      not_zero : 0 < 0 → ⊥
      not_zero q = omega arith
  one_link m a p m' a' p' x us h k (suc j) e = on_link m' a' p' x us h k (goes_on s o) refl

-- every loop and every chain whose head is i
module _ (i : Fact) (f : Fact → Look) (G : State → Out) (T : State → List Step) (S : Sound f G T)
    (ok : ((turns i f).first.ok && (turns i f).after.ok) ≡ true) (mv : (moves (turns i f).first && moves (turns i f).after) ≡ true) (cl : fact_within (left_over (turns i f)) i ≡ true) where
  pub iter_gives : (n : ℕ) (s₀ s : State) → length s.rest < n → Holds i s₀ s → Gives (stopped (joined (turns i f))) s₀ (iter n G s) (iter_steps n G T s)
  unfolding iter iter_steps makes
  iter_gives zero s₀ s l h = absurd (not-suc-le-zero l)
  iter_gives (suc n) s₀ s l h =
      one_turn i (turns i f) s₀ s (G s) (T s) (turn_gives i f G T S s₀ s ok mv cl h) (iter n G (G s).state) (iter_steps n G T (G s).state)
      (λ e g. iter_gives n s₀ (G s).state (omega arith) g) (goes_on s (G s)) refl

  pub links_gives : fact_never (turns i f).first.if_again ≡ true → fact_never (turns i f).after.if_again ≡ true → (n : ℕ) (s₀ s : State) (m : ℕ) (a p : Skeleton) → length s.rest < n → Holds i s₀ s
      → Gives (stopped (joined (turns i f))) s₀ (links n G m a p s) (links_steps n G T s)
  unfolding links links_steps
  links_gives u v zero s₀ s m a p l h = absurd (not-suc-le-zero l)
  links_gives u v (suc n) s₀ s m a p l h =
      let w : Turned i (turns i f) s₀ s (G s) (T s) = turn_gives i f G T S s₀ s ok mv cl h in
      let m' : ℕ = mark_of (G s).state in
      let a' : Skeleton = closed (G s).shape m (mark_of (G s).state) a (p ⧺ (G s).made) in
      one_link i (turns i f) s₀ s (G s) (T s) w m a (p ⧺ (G s).made) m' a' done (links n G m' a' done (G s).state) (links_steps n G T (G s).state) (w.shaped u v)
      (λ e g. links_gives u v n s₀ (G s).state m' a' done (omega arith) g) (G s).shape refl
