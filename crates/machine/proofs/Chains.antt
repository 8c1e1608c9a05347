-- Chains: each link completes the open marker and precedes it by a new one; the last marker is ignored.
use Prim.Native.Nat.{ℕ, zero, suc}
use mathlib.Core.Path.{◌≡◌, refl, sym, ap, ◌∙◌, subst}
use mathlib.Core.Bool.{Bool, true, false, cond}
use mathlib.Core.List.{List, [], ◌∷◌, ◌++◌, append_assoc}
use lib.ListN.{length}
use Rattle.definitions.specs.Layout.{PLACEHOLDER, START_NODE, LINKED_START_NODE}
use Rattle.definitions.specs.Token.{Token}
use Rattle.definitions.specs.Skeleton.{Skeleton, done, node, ◌⧺◌}
use Rattle.definitions.specs.Refusal.{Refusal}
use Rattle.definitions.specs.Prog.{Ans, yes, again}
use Rattle.definitions.specs.Run.{State, Out, mark_of, makes, closed, is_again, goes_on, unlinked, by_shape, links, chained}
use Rattle.definitions.specs.Report.{Push, event, pushes}
use Rattle.laws.proofs.Skeleton.{pushes_join}
use Rattle.machine.specs.Machine.{Machine, Marker, rest, push, complete, precede}
use Rattle.machine.specs.Walk.{Walked, said, next_marker, link}
use Rattle.machine.specs.Walk as W
use Rattle.machine.specs.Encode.{start_tag}
use Rattle.machine.specs.Outcome.{Refused}
use Rattle.machine.proofs.Coded.{coded}
use Rattle.machine.proofs.Image.{Ground, image, Inside}
use Rattle.machine.proofs.Sticky.{Sticks, either, s_push, s_precede, s_links, s_turn, s_chained}
use Rattle.machine.proofs.Meets.{Sofar, Fitting, stand, Meets, grow, Sim, Tracks, Begins, begins_with, begins_then, begins_after, push_meets, meets_then}
use Rattle.machine.proofs.Markers.{opened, opened_grow, ignore_sim, complete_sim, begins_closed, start_index, linked_length, precede_sim}
use Rattle.machine.proofs.Loops.{left_is, goes_on_is}

-- ---------------------------------------------------------------- what a chain pushes

-- after a link: more links, or the end. N: the chain's node so far.
abbrev onward : (State → Out) → ℕ → Bool → ℕ → Skeleton → Ans → State → Out
onward f n b m N x s = cond b (links n f m N done s) (unlinked m N done x s)

-- the rest of a turn from s that came to o, with i made since the marker
abbrev turned : (State → Out) → ℕ → State → ℕ → Skeleton → Skeleton → Out → Out
turned f n s m a i o =
    by_shape o.shape (unlinked m a i o.ans o.state) (onward f n (goes_on s o) (mark_of o.state) (closed o.shape m (mark_of o.state) a i) o.ans o.state)

abbrev LinksBegin : (State → Out) → ℕ → Type 0
LinksBegin f n = (m : ℕ) (a i : Skeleton) (s : State) → Begins (pushes a ++ (event m ∷ pushes i)) (pushes (links n f m a i s).made)

begins_last : (m : ℕ) (a i : Skeleton) (x : Ans) (s : State) → Begins (pushes a ++ (event m ∷ pushes i)) (pushes (unlinked m a i x s).made)
unfolding unlinked makes
begins_last m a i x s = begins_closed 0 m (mark_of s) a i

begins_onward : (f : State → Out) (n : ℕ) → LinksBegin f n → (b : Bool) (m : ℕ) (N : Skeleton) (x : Ans) (s : State) → Begins (pushes N ++ (event m ∷ [])) (pushes (onward f n b m N x s).made)
unfolding pushes
begins_onward f n h true m N x s = h m N done s
begins_onward f n h false m N x s = begins_last m N done x s

begins_turned : (f : State → Out) (n : ℕ) → LinksBegin f n → (s : State) (m : ℕ) (a i : Skeleton) (o : Out) → Begins (pushes a ++ (event m ∷ pushes i)) (pushes (turned f n s m a i o).made)
unfolding by_shape
begins_turned f n h s m a i o = by o.shape
  where
    by : (k : ℕ) → Begins (pushes a ++ (event m ∷ pushes i)) (pushes (by_shape k (unlinked m a i o.ans o.state) (onward f n (goes_on s o) (mark_of o.state) (closed k m (mark_of o.state) a i) o.ans o.state)).made)
    by zero = begins_last m a i o.ans o.state
    by (suc k) =
        let N = closed (suc k) m (mark_of o.state) a i in
        let on = pushes (onward f n (goes_on s o) (mark_of o.state) N o.ans o.state).made in
        begins_then (pushes a ++ (event m ∷ pushes i)) (pushes N) on (begins_closed (suc k) m (mark_of o.state) a i)
        (begins_then (pushes N) (pushes N ++ (event (mark_of o.state) ∷ [])) on (begins_with (pushes N) (event (mark_of o.state) ∷ [])) (begins_onward f n h (goes_on s o) (mark_of o.state) N o.ans o.state))

begins_inside : (m : ℕ) (a i o : Skeleton) → Begins (pushes a ++ (event m ∷ pushes i)) (pushes a ++ (event m ∷ pushes (i ⧺ o)))
begins_inside m a i o = record { more = pushes o; joins = append_assoc (pushes a) (event m ∷ pushes i) (pushes o) ∙ ap (λ (l : List Push). pushes a ++ (event m ∷ l)) (sym (pushes_join i o)) }

pub begins_links : (f : State → Out) (n : ℕ) → LinksBegin f n
unfolding links
begins_links f zero m a i s = begins_last m a i again s
begins_links f (suc n) m a i s =
    let o = f s in
    begins_then (pushes a ++ (event m ∷ pushes i)) (pushes a ++ (event m ∷ pushes (i ⧺ o.made))) (pushes (turned f n s m a (i ⧺ o.made) o).made)
    (begins_inside m a i o.made) (begins_turned f n (begins_links f n) s m a (i ⧺ o.made) o)

-- ---------------------------------------------------------------- the machine's side

abbrev Links : Ground → (State → Out) → (Machine → Walked) → ℕ → Type 0
Links g f h n = (c : Sofar) (m : ℕ) (a i : Skeleton) (s : State) (k : Marker) → k.index ≡ length (c.numbers ++ coded true a) → k.tag ≡ start_tag a
    → Fitting g (opened c a m i) → Inside g s → Sim g c (links n f m a i s) (W.links g.tokens n h k (stand g (opened c a m i) s))

module _ (g : Ground) (f : State → Out) (h : Machine → Walked) (st : Sticks g.tokens h) where
  abbrev ts : List Token
  ts = g.tokens

  -- the chain's last marker
  last_sim : (c : Sofar) (m : ℕ) (a i : Skeleton) (x : Ans) (s : State) → Fitting g (opened c a m i) → Inside g s → Sim g c (unlinked m a i x s) (said x (push PLACEHOLDER 0 (stand g (opened c a m i) s)))
  unfolding unlinked makes closed
  last_sim c m a i x s fit j = ignore_sim g c a m i s fit j x

  -- the machine after a link that came to v, its marker completed
  abbrev next : ℕ → Bool → Marker → Ans → Machine → Walked
  next n b k x v = cond b (W.links ts n h (next_marker LINKED_START_NODE v) (precede k v)) (said x (push PLACEHOLDER 0 (precede k v)))

  -- after the new marker
  onward_sim : (n : ℕ) → Links g f h n → (c : Sofar) (N : Skeleton) (k : Marker) (b : Bool) (x : Ans) (s : State) → k.index ≡ length (c.numbers ++ coded true N) → k.tag ≡ start_tag N
      → Fitting g (opened c N (mark_of s) done) → Inside g s
      → Sim g c (onward f n b (mark_of s) N x s) (cond b (W.links ts n h k (stand g (opened c N (mark_of s) done) s)) (said x (push PLACEHOLDER 0 (stand g (opened c N (mark_of s) done) s))))
  onward_sim n more c N k true x s e t fit j = more c (mark_of s) N done s k e t fit j
  onward_sim n more c N k false x s e t fit j = last_sim c (mark_of s) N done x s fit j

  s_next : (r : Refusal) (n : ℕ) (b : Bool) (k k' : Marker) (x : Ans) (p : Machine) → Refused ts r p → Refused ts r (cond b (W.links ts n h k' p) (said x (push PLACEHOLDER 0 p))).on
  s_next r n b k k' x p q = either ts r b (W.links ts n h k' p) (said x (push PLACEHOLDER 0 p)) (s_links ts r n h (st r) k' p q) (s_push ts r PLACEHOLDER 0 p q)

  -- from a link on
  link_sim : (n : ℕ) → Links g f h n → (c : Sofar) (m : ℕ) (a i : Skeleton) (k : Marker) (kind : ℕ) (b : Bool) (x : Ans) (s : State) → k.index ≡ length (c.numbers ++ coded true a) → k.tag ≡ start_tag a
      → Fitting g (opened c a m i) → Inside g s
      → Sim g c (onward f n b (mark_of s) (node kind m (mark_of s) a i done) x s) (next n b k x (complete k kind (stand g (opened c a m i) s)))
  unfolding pushes image
  link_sim n more c m a i k kind b x s e t fit j =
      let m' = mark_of s in
      let N = node kind m m' a i done in
      let D = onward f n b m' N x s in
      let end = grow c D.made in
      let c₁ = grow c N in
      let c₂ = opened c N m' done in
      let v = complete k kind (stand g (opened c a m i) s) in
      let K = next_marker LINKED_START_NODE (stand g c₁ s) in
      let b₂ : Begins c₂.pushed end.pushed = begins_after c.pushed (pushes N ++ (event m' ∷ [])) (pushes D.made) (begins_onward f n (begins_links f n) b m' N x s) in
      let b₁ : Begins c₁.pushed c₂.pushed = begins_after c.pushed (pushes N) (pushes N ++ (event m' ∷ [])) (begins_with (pushes N) (event m' ∷ [])) in
      meets_then g c₁ end x D.ans 0 D.shape s D.state (said x v) (next n b k x v) (begins_then c₁.pushed c₂.pushed end.pushed b₁ b₂)
      (complete_sim g c a m i s fit j x k kind e t)
      (λ fit₁ j₁ e₁.
      subst (λ (w : Walked). Meets g end D.ans D.shape D.state (next n b k x w.on)) (sym e₁)
      (meets_then g c₂ end x D.ans 0 D.shape s D.state (said x (precede k (stand g c₁ s))) (next n b k x (stand g c₁ s)) b₂
      (precede_sim g c kind m m' a i s fit₁ j₁ x k e)
      (λ fit₂ j₂ e₂.
      subst (λ (w : Walked). Meets g end D.ans D.shape D.state (cond b (W.links ts n h K w.on) (said x (push PLACEHOLDER 0 w.on)))) (sym e₂)
      (onward_sim n more c N K b x s (linked_length c kind m m' a i) refl fit₂ j₂))
      (λ r q. s_next r n b k K x (precede k (stand g c₁ s)) q)))
      (λ r q. s_next r n b k (next_marker LINKED_START_NODE v) x (precede k v) (s_precede ts r k v q))

  -- a turn that was not refused
  turn_sim : (n : ℕ) → Links g f h n → (c : Sofar) (m : ℕ) (a i : Skeleton) (k : Marker) (s : State) (o : Out) (b : Bool) → k.index ≡ length (c.numbers ++ coded true a) → k.tag ≡ start_tag a
      → Fitting g (opened c a m i) → Inside g o.state
      → Sim g c (by_shape o.shape (unlinked m a i o.ans o.state) (onward f n b (mark_of o.state) (closed o.shape m (mark_of o.state) a i) o.ans o.state))
      (by_shape o.shape (said o.ans (push PLACEHOLDER 0 (stand g (opened c a m i) o.state))) (next n b k o.ans (complete k o.shape (stand g (opened c a m i) o.state))))
  unfolding by_shape closed
  turn_sim n more c m a i k s o b e t fit j = by o.shape
    where
      by : (z : ℕ)
          → Sim g c (by_shape z (unlinked m a i o.ans o.state) (onward f n b (mark_of o.state) (closed z m (mark_of o.state) a i) o.ans o.state))
          (by_shape z (said o.ans (push PLACEHOLDER 0 (stand g (opened c a m i) o.state))) (next n b k o.ans (complete k z (stand g (opened c a m i) o.state))))
      by zero = last_sim c m a i o.ans o.state fit j
      by (suc z) = link_sim n more c m a i k (suc z) b o.ans o.state e t fit j

  pub links_sim : Tracks g f h → (n : ℕ) → Links g f h n
  unfolding links W.links link
  links_sim tr zero c m a i s k e t fit j = last_sim c m a i again s fit j
  links_sim tr (suc n) c m a i s k e t fit j =
      let M = stand g (opened c a m i) s in
      let o = f s in
      let w = h M in
      let I = i ⧺ o.made in
      let D = turned f n s m a I o in
      let end = grow c D.made in
      let mid = opened c a m I in
      let out : Bool → Walked → Walked = λ x v. by_shape v.shape (said v.ans (push PLACEHOLDER 0 v.on)) (next n x k v.ans (complete k v.shape v.on)) in
      let v : Walked = record { ans = o.ans; shape = o.shape; on = stand g mid o.state } in
      meets_then g mid end o.ans D.ans o.shape D.shape o.state D.state w (out (W.goes_on ts M w) w)
      (begins_after c.pushed (pushes a ++ (event m ∷ pushes I)) (pushes D.made) (begins_turned f n (begins_links f n) s m a I o))
      (subst (λ (y : Sofar). Meets g y o.ans o.shape o.state w) (opened_grow c a m i o.made) (tr (opened c a m i) s fit j))
      (λ fit₁ j₁ e₁.
      subst (λ (y : Walked). Meets g end D.ans D.shape D.state (out (W.goes_on ts M y) y)) (sym e₁)
      (subst (λ (x : Bool). Meets g end D.ans D.shape D.state (out x v)) (sym (goes_on_is g (opened c a m i) mid s o j j₁))
      (turn_sim n (links_sim tr n) c m a I k s o (goes_on s o) e t fit₁ j₁)))
      (λ r q. s_turn ts r n h (st r) k M w q)

-- ---------------------------------------------------------------- a chain from its first marker on

abbrev linked_on : (State → Out) → Bool → ℕ → Skeleton → Ans → State → Out
linked_on f b m i x s = cond b (links (suc (length s.rest)) f m done i s) (unlinked m done i x s)

begins_chain : (f : State → Out) (b : Bool) (m : ℕ) (i : Skeleton) (x : Ans) (s : State) → Begins (event m ∷ pushes i) (pushes (linked_on f b m i x s).made)
unfolding pushes
begins_chain f true m i x s = begins_links f (suc (length s.rest)) m done i s
begins_chain f false m i x s = begins_last m done i x s

module _ (g : Ground) (f f₀ : State → Out) (h h₀ : Machine → Walked) (tr : Tracks g f h) (st : Sticks g.tokens h) (tr₀ : Tracks g f₀ h₀) (st₀ : Sticks g.tokens h₀) where
  -- after the first program
  first_sim : (c : Sofar) (m : ℕ) (i : Skeleton) (k : Marker) (b : Bool) (x : Ans) (s : State) → k.index ≡ length (c.numbers ++ coded true done) → k.tag ≡ START_NODE
      → Fitting g (opened c done m i) → Inside g s
      → Sim g c (linked_on f b m i x s) (cond b (W.links g.tokens (suc (length s.rest)) h k (stand g (opened c done m i) s)) (said x (push PLACEHOLDER 0 (stand g (opened c done m i) s))))
  first_sim c m i k true x s e t fit j = links_sim g f h st tr (suc (length s.rest)) c m done i s k e t fit j
  first_sim c m i k false x s e t fit j = last_sim g f h st c m done i x s fit j

  pub chain_sim : Tracks g (λ s. chained f s (f₀ s)) (λ m. W.chained g.tokens h (next_marker START_NODE m) (h₀ (push PLACEHOLDER 0 m)))
  unfolding chained W.chained coded pushes ◌⧺◌
  chain_sim c s fit j =
      let M = stand g c s in
      let k = next_marker START_NODE M in
      let m = mark_of s in
      let o = f₀ s in
      let p = push PLACEHOLDER 0 M in
      let w = h₀ p in
      let D = linked_on f (is_again o.ans) m o.made o.ans o.state in
      let end = grow c D.made in
      let one = opened c done m done in
      let mid = opened c done m o.made in
      let out : ℕ → Walked → Walked = λ n v. cond (is_again v.ans) (W.links g.tokens (suc n) h k v.on) (said v.ans (push PLACEHOLDER 0 v.on)) in
      let v : Walked = record { ans = o.ans; shape = o.shape; on = stand g mid o.state } in
      let z = out (length (rest g.tokens w.on)) w in
      let b₂ : Begins mid.pushed end.pushed = begins_after c.pushed (event m ∷ pushes o.made) (pushes D.made) (begins_chain f (is_again o.ans) m o.made o.ans o.state) in
      let b₁ : Begins one.pushed mid.pushed = begins_after c.pushed (event m ∷ []) (event m ∷ pushes o.made) (begins_with (event m ∷ []) (pushes o.made)) in
      meets_then g one end yes D.ans 0 D.shape s D.state (said yes p) z (begins_then one.pushed mid.pushed end.pushed b₁ b₂)
      (push_meets g c fit s PLACEHOLDER 0 yes 0 j)
      (λ fit₁ j₁ e₁.
      meets_then g mid end o.ans D.ans o.shape D.shape o.state D.state w z b₂
      (subst (λ (y : Walked). Meets g mid o.ans o.shape o.state (h₀ y.on)) (sym e₁)
      (subst (λ (y : Sofar). Meets g y o.ans o.shape o.state (h₀ (stand g one s))) (opened_grow c done m done o.made) (tr₀ one s fit₁ j₁)))
      (λ fit₂ j₂ e₂.
      subst (λ (y : Walked). Meets g end D.ans D.shape D.state (out (length (rest g.tokens y.on)) y)) (sym e₂)
      (subst (λ (n : ℕ). Meets g end D.ans D.shape D.state (out n v)) (sym (left_is g mid o.state j₂))
      (first_sim c m o.made k (is_again o.ans) o.ans o.state (start_index g c s) refl fit₂ j₂)))
      (λ r q. s_chained g.tokens r h (st r) k w q))
      (λ r q. s_chained g.tokens r h (st r) k w (st₀ r p q))
